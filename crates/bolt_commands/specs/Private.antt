-- What private contracts and proofs cite, and no public one.
pub mod Checks
pub mod Copying
pub mod Endings
pub mod Etcd
pub mod Contents
pub mod Printing
pub mod Recovered
pub mod Repairing
pub mod Reports
