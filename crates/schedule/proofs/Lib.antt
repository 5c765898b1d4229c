pub mod WordLaws
pub mod WrittenLaws
pub mod KeyLaws
