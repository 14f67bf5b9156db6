pub mod Tabled
pub mod Chaining
pub mod Sides
pub mod Books
pub mod Ruling
pub mod Numbering
