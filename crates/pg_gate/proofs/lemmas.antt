pub mod ErrorLemmas
pub mod RelayLemmas
pub mod RunLemmas
pub mod answer
