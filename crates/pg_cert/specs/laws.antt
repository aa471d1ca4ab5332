pub mod Worked
pub mod WorkedTexts
pub mod CertificateLaws
