-- The definition's chapter on reports: what a table holds, a line a row, and one record as the raw walk gives it.
pub mod Line
pub mod Json
pub mod Form
pub mod Rows
pub mod Record
pub mod Listing
pub mod Ending
pub mod Finished
pub mod Room
pub mod Rest
pub mod Laws
