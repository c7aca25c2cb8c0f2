pub mod Answering
pub mod Entering
pub mod Staged
pub mod Striking
pub mod Keeping
