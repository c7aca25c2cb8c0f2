pub mod Entries
pub mod Ways
pub mod Law
