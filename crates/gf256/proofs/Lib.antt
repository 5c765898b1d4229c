pub mod TableTest
pub mod DigitMasks
pub mod ProductLaws
pub mod FromTopLaws
pub mod ExponentLaws
pub mod TablesLaws
pub mod PowersLaws
