pub mod Best
pub mod Ranks
pub mod Walking
pub mod Counting
pub mod Searched
pub mod Onto
