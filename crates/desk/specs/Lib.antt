pub mod Cards
pub mod Desks
pub mod Written
