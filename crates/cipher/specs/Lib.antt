pub mod Fips197
pub mod States
pub mod Cipher
pub mod Rounds
pub mod Document03
