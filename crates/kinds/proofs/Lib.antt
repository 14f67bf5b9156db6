pub mod Numbers
pub mod Having
pub mod Standing
pub mod Stretching
