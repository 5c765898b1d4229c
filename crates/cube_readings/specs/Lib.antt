pub mod Calls
pub mod Hiding
