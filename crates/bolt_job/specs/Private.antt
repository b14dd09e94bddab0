-- What private contracts and proofs cite, and no public one.
pub mod CommandLines
