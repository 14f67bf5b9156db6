pub mod Turns
pub mod Stays
pub mod Lives
pub mod Strokes
pub mod Picks
pub mod Undoes
pub mod Asked
pub mod Truths
