pub mod PartLaws
pub mod ShareLaws
pub mod SecondLaws
pub mod BufferLaws
