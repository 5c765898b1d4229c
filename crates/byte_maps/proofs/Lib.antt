pub mod AffineLaws
pub mod ColumnLaws
