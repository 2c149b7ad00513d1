mod Fours
pub mod Builds
pub mod ReadBack
mod Loops
