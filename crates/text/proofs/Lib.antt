pub mod DecimalLaws
pub mod FillLaws
pub mod LengthLaws
pub mod PackingLaws
