pub mod TotalLaws
pub mod WalkLaws
