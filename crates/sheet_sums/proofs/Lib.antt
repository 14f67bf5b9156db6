pub mod Touching
pub mod Summed
pub mod Steps
pub mod Lessened
pub mod Operations
pub mod Lawful
pub mod Carried
