pub mod Listing
pub mod Strokes
