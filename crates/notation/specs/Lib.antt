pub mod Numbers
pub mod Lines
pub mod Words
pub mod Commands
pub mod Contents
