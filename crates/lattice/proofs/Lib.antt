pub mod Bounds
pub mod Turning
pub mod Same
pub mod Valid
