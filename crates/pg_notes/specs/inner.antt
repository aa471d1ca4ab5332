pub mod Tables
pub mod Tops
