pub mod Field
pub mod Turns
pub mod Refusals
pub mod Order
pub mod Valid
pub mod Compare
