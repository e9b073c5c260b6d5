-- What the prover is told.
pub mod Few
