pub mod RefreshLaws
pub mod PlacesLaws
pub mod OnWords
