pub mod Serve
pub mod Served
