pub mod NamedScopes
pub mod PlainNames
pub mod QualifiedNames
pub mod WrittenNames
