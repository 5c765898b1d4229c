pub mod ListedLaws
pub mod ReadingLaws
pub mod OnWords
