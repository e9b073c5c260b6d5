-- What the laws on lookups that agree lean on.
pub mod Names
pub mod Walks
pub mod Calls
pub mod Parts
pub mod Lines
