-- What this crate's proofs cite: numbers as bytes, the pieces of a header and of a row, and a table's rows read again.
pub mod Bytes
pub mod Filled
pub mod Header
pub mod Rest
pub mod Holds
pub mod Passes
pub mod Tables
pub mod Pieces
pub mod Cases
