-- What is missing from a store, and what is wrong with a snapshot.
pub mod CheckLines
pub mod Follows
pub mod ForNames
pub mod Misplaced
pub mod MissingNumbers
pub mod NameFaults
pub mod SnapshotFaults
pub mod StoreFaults
pub mod WholeFiles
