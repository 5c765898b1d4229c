pub mod SubLaws
