-- The definition's chapter on raw extracts.
pub mod Numbers
pub mod Size
pub mod Fixup
pub mod Records
pub mod Base
pub mod Extracted
pub mod Protect
pub mod Judge
pub mod Told
pub mod Laws
pub mod Cases
