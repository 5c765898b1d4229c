pub mod Document03
