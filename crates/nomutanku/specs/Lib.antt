-- What the command line is, what its words ask for, and what the program answers.
pub mod CommandLine
pub mod Wishes
pub mod Inputs
pub mod Answers
pub mod Merging
pub mod Door
pub mod Warning
