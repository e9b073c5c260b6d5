-- What the hazards of a file and the laws on them lean on.
pub mod Steps
pub mod Tests
pub mod Places
pub mod Sound
pub mod Agreed
pub mod Cases
