pub mod Model
pub mod Rules
pub mod Answers
