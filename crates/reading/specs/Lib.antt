pub mod Parts
pub mod Readers
pub mod Fields
