-- What the prover is told.
pub mod Turns
pub mod Lies
pub mod Has
pub mod Among
pub mod Says
pub mod Agreed
pub mod Cases
