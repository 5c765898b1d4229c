pub mod ReadingLaws
pub mod Hiding
pub mod Places
pub mod OnWords
