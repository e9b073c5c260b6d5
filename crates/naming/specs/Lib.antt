-- How a file's name is shown, and how one that is typed is taken.
pub mod Units
pub mod Shown
pub mod Line
pub mod Laws
