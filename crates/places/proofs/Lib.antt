pub mod Finding
pub mod Clearing
