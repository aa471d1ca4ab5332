pub mod SetLaws
pub mod Walking
pub mod Visited
pub mod Ordering
pub mod OrderSteps
pub mod VisitLaws
pub mod StatedOrder
