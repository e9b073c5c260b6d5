-- The definition's chapter on one record: opening it, its attributes, their names and values, the search, and the
-- reader.
pub mod Open
pub mod Header
pub mod Attribute
pub mod Inside
pub mod Walk
pub mod View
pub mod Name
pub mod Value
pub mod Search
pub mod Reader
pub mod Places
pub mod Rest
pub mod Told
pub mod Laws
