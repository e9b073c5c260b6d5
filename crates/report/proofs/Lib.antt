pub mod Said
pub mod Endings
pub mod Goes
pub mod Alike
pub mod Opened
