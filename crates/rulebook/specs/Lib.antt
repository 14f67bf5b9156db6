pub mod Tables
pub mod Rulebooks
pub mod Growing
