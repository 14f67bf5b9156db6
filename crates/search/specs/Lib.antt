pub mod Scenes
pub mod Steps
pub mod Ranks
pub mod Walks
