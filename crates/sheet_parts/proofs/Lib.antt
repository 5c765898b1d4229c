pub mod PartsLaws
pub mod SheetParts
