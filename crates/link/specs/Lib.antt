pub mod Words
pub mod Runs
pub mod Laws
pub mod Examples
pub mod Links
