pub mod Changes
pub mod Strikes
pub mod View
pub mod Steps
pub mod Asking
pub mod PlacesFollow
