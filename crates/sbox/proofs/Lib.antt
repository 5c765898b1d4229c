pub mod BoxLaws
pub mod OnWords
