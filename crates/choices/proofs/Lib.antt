pub mod WordCount
pub mod ChoicesLaws
