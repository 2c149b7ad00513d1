pub mod Memory
pub mod Slots
pub mod Chains
pub mod Lane
pub mod Meaning
pub mod MeaningLemmas
