-- What a whole listing reads: the theorem, over runs of the public calls.
pub mod Replay
pub mod Listing
pub mod Ends
pub mod Calls
pub mod Lists
pub mod Told
pub mod Printed
