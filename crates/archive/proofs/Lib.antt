pub mod Chains
pub mod Walking
pub mod Gathering
pub mod Layouts
pub mod Growing
