pub mod Scripts
pub mod Disturbing
pub mod DisturbingLemmas
