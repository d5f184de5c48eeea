mod Gathers
pub mod Low
pub mod Calls
