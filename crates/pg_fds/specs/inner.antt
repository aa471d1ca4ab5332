pub mod OfRules
