pub mod OutcomeLaws
pub mod LengthsLaws
