pub mod Tests
pub mod Pieces
pub mod Placing
pub mod Moving
pub mod Computing
pub mod Worked
