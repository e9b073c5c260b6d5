-- The definition's chapter on the names of a file.
pub mod Name
pub mod Names
pub mod Rest
pub mod Laws
pub mod Cases
