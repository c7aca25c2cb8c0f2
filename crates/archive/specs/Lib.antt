pub mod Kinds
pub mod Layout
pub mod Chain
pub mod Walks
pub mod Written
pub mod Gathered
