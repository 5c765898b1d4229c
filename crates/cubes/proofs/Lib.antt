pub mod CubeParts
pub mod CallsLaws
