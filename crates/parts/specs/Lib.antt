-- The definition's chapter on the parts of an item.
pub mod Part
pub mod Parts
pub mod Filled
pub mod OfFile
pub mod Laws
