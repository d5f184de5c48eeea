pub mod Window
pub mod Sweep
pub mod Plain
pub mod Plate
