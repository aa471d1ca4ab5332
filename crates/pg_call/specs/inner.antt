pub mod Apps
pub mod Commands
