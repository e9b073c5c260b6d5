-- The definition's chapter on cluster runs.
pub mod Run
pub mod Runs
pub mod Rest
pub mod Told
pub mod Spelled
pub mod Laws
pub mod Cases
