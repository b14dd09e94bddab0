-- What private contracts and proofs cite, and no public one.
pub mod FaultsLeft
pub mod MissingLeft
pub mod Passes
pub mod Returns
