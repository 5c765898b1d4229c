pub mod ReturnedLaws
pub mod PreviewLaws
