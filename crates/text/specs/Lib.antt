pub mod Answers
pub mod Decimal
pub mod Hexadecimal
pub mod Packing
