-- What private contracts and proofs cite, and no public one.
pub mod Carries
pub mod Freelists
pub mod LeafTests
pub mod Pending
pub mod RoleTables
pub mod SearchFaults
pub mod Tables
pub mod Unread
pub mod Uses
