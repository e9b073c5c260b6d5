-- Tables that are written: their layout, what refuses them, and what stands of one while it is written.
pub mod Layout
pub mod Refused
pub mod Over
pub mod Stands
pub mod Laws
pub mod Cases
