pub mod TermsLaws
pub mod SumsLaws
pub mod CallsLaws
