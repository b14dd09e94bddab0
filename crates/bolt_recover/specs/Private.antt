-- What private contracts and proofs cite, and no public one.
pub mod FirstWays
pub mod FoundLeft
pub mod Frames
pub mod Joining
pub mod LeavesLeft
pub mod Merging
pub mod Counting
pub mod Courses
pub mod StatesTried
pub mod Tests
pub mod TreesLeft
