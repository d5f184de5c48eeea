pub mod Shelves
pub mod Touches
pub mod Runs
