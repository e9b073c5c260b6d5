-- What the layers above may count on, and what this crate's proofs cite.
pub mod Given
pub mod Opened
pub mod Trails
pub mod Walks
pub mod Peel
pub mod Searches
pub mod Spans
pub mod Takes
pub mod Readers
pub mod Settled
mod Tails
mod TailContents
