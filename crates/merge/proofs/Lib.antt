-- What the layers above may count on.
pub mod Rows
pub mod Walk
pub mod Sources
pub mod Tables
pub mod Pairs
pub mod Judges
pub mod Fills
pub mod Calls
pub mod Finds
pub mod Agrees
pub mod Reports
pub mod Cases
pub mod Fronts
