pub mod Sessions
pub mod Benches
pub mod Written
