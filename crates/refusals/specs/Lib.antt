pub mod Numbers
pub mod Written
pub mod Reported
