-- The proof of the theorem on reads: what a place of the walk is worth, what pays for a call, and the calls one behind
-- the other.
mod Value
mod Search
mod Members
mod Found
mod Before
mod Stretch
mod Pays
mod Leads
mod Stopped
mod Finished
mod Replays
mod Runs
mod Owns
mod Begun
mod Paid
mod Ends
mod Tables
mod Lists
mod Calls
mod Bytes
pub mod Sofar
mod Openings
mod Printed
