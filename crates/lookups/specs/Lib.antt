-- What the benchmark's lookups count.
pub mod Wanted
