-- What this crate's proofs cite.
pub mod Sizes
pub mod Overs
pub mod Pairs
pub mod Fixups
pub mod Protected
pub mod Judges
pub mod Rows
pub mod Risen
pub mod Tallies
pub mod Lengths
pub mod Fits
pub mod Finds
pub mod Bases
pub mod Counts
pub mod Fills
pub mod Calls
pub mod Cases
