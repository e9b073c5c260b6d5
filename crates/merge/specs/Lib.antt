-- The definition's chapter on tables that are merged.
pub mod Rows
pub mod Merge
pub mod Told
pub mod Pass
pub mod Laws
pub mod Cases
