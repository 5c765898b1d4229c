pub mod CallsLaws
pub mod StringsLaws
pub mod RoundTrip
pub mod OnWordsLaws
