pub mod Power254
pub mod Fits
