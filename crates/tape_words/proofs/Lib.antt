pub mod WordsLaws
pub mod FrontLaws
