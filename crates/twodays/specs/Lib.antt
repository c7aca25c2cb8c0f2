pub mod Days
pub mod Permits
pub mod Steps
