-- The definition's chapter on base records and on records that were reused.
pub mod Base
pub mod Placed
pub mod Whole
pub mod Hazards
pub mod Laws
pub mod Cases
