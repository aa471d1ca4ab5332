pub mod PublicLaws
pub mod lemmas
