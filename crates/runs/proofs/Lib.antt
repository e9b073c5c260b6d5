-- What this crate's proofs cite.
pub mod Numbers
pub mod Given
pub mod Walks
pub mod Calls
pub mod Distances
pub mod Spelled
pub mod Read
pub mod Least
pub mod Cases
pub mod Settled
