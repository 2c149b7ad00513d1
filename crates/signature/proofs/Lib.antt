pub mod Octets
pub mod Register
