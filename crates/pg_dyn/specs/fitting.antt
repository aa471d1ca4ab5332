pub mod Belonging
pub mod ContentFits
pub mod Fits
pub mod PartsFit
pub mod ScalarItems
pub mod Texts
