pub mod Previewed
