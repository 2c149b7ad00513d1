pub mod Fetches
pub mod Places
pub mod Steady
pub mod Cells
