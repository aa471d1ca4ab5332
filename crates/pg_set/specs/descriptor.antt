pub mod Descriptor
pub mod DescriptorLaw
pub mod DescriptorParts
