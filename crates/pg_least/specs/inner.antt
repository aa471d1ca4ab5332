pub mod Descent
pub mod Graphs
pub mod Places
pub mod Queues
pub mod Relaxing
