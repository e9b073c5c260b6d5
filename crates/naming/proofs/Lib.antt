-- What the prover is told.
pub mod Put
pub mod Read
pub mod Showing
pub mod Lines
pub mod Says
pub mod Back
