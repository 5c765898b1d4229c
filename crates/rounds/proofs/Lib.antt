pub mod RoundLaws
pub mod BlockLaws
