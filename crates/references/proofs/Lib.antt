-- What this crate's proofs share.
pub mod Cases
pub mod Few
pub mod Lists
pub mod Once
pub mod Rises
pub mod Room
pub mod Settled
pub mod Sorts
pub mod Steps
