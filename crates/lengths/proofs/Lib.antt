pub mod LengthsLaws
pub mod PreviewsLaws
