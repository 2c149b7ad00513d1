pub mod Judgment
pub mod Steps
pub mod Cycled
pub mod Making
