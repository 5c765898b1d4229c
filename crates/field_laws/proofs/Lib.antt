pub mod InverseLaws
pub mod SBoxLaws
pub mod Document03Laws
