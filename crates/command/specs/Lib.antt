-- The definition's chapter on the command: what is asked, statuses, reasons, names, explanations, extracts and
-- tables that are merged.
pub mod Status
pub mod Names
pub mod Asked
pub mod Misfit
pub mod Part
pub mod Passed
pub mod Extraction
pub mod Unmade
pub mod Reason
pub mod Explain
pub mod Given
pub mod Read
pub mod Moves
pub mod Run
pub mod Counts
pub mod Make
pub mod Flaw
pub mod MergeFailure
pub mod MergeMessage
pub mod Merging
pub mod Unread
pub mod Laws
