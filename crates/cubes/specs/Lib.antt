pub mod Fits
pub mod Calls
