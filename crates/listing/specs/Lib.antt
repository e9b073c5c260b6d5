-- What the program tells of its input, how its run ends, and its exit status.
pub mod Tells
pub mod Ran
pub mod Status
