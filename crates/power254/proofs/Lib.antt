pub mod EachLaws
pub mod PowerLaws
pub mod StageLaws
