pub mod Axis
pub mod Shape
