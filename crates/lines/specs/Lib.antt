-- The definition's chapter on the listing: its lines and their text, what is still to come, and how it goes out.
pub mod Line
pub mod Runs
pub mod Listing
pub mod Numbered
pub mod Raw
pub mod Ending
pub mod Finished
pub mod InFile
pub mod Bounds
pub mod Rest
pub mod Page
pub mod Went
pub mod Laws
