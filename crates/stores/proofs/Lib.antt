pub mod Stacked
pub mod Backwards
