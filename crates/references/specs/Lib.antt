-- The definition's chapter on the records that a record's lists refer to.
pub mod Entries
pub mod References
pub mod Rising
pub mod Zeros
pub mod Shown
pub mod Laws
pub mod Cases
