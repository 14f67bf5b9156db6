pub mod Cover
pub mod Change
pub mod Census
pub mod Maximal
pub mod Finding
pub mod Contents
pub mod Put
pub mod Slots
