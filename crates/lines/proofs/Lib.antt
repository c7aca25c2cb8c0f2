pub mod Amounts
pub mod Columns
pub mod Rooms
pub mod Numbers
pub mod Openings
pub mod Pieces
pub mod Reaches
pub mod Skips
