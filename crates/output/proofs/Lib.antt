pub mod Spacing
pub mod Writing
pub mod Lining
