pub mod CallsLaws
pub mod Foretold
pub mod CallAccuracy
pub mod RoundTrip
pub mod OnWords
