pub mod Fits
pub mod Directions
