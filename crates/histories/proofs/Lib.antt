pub mod Follow
pub mod Ends
