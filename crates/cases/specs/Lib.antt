pub mod Figures
pub mod Cases
