-- What the callers give, over the answers of a walk.
pub mod Chains
