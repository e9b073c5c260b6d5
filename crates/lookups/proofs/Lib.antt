-- What the proofs of the lookups share.
pub mod InTurn
