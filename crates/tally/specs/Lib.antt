pub mod Deeds
pub mod Cases
pub mod Tally
pub mod Agreement
pub mod Worked
