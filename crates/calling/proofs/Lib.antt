pub mod Slots
pub mod Changes
pub mod Stores
pub mod Formats
pub mod Meanings
