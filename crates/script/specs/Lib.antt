pub mod Numbers
pub mod Givens
pub mod Records
pub mod Texts
pub mod Messages
pub mod Readings
