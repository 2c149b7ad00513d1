pub mod Blocks
pub mod BlocksLemmas
