pub mod Sizes
pub mod Spanning
pub mod Shifting
