pub mod Digit
pub mod Number
pub mod Hexadecimal
