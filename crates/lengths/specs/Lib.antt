pub mod Lengths
pub mod Previews
