-- What two lookups must agree on so that a record lists alike by both.
pub mod Agree
pub mod Door
pub mod Laws
