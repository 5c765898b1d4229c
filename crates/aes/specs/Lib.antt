pub mod Calls
pub mod Directions
pub mod Fits
