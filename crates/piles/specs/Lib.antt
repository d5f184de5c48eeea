pub mod Piles
pub mod Lawful
