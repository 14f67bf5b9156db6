pub mod Wrote
pub mod Lines
pub mod Shown
