pub mod Edges
pub mod GraphView
pub mod LeastOf
pub mod Reached
pub mod Works
pub mod Walks
