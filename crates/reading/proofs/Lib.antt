pub mod Digits
pub mod Signs
pub mod Counting
pub mod Stretches
pub mod Opening
pub mod Cutting
pub mod Splitting
