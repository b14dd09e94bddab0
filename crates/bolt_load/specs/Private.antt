pub mod Decoding
pub mod OpenPaths
