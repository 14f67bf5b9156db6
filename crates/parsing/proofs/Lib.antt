pub mod Growing
pub mod Numbering
pub mod Stroking
pub mod Making
