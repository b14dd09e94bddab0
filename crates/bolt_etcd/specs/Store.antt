-- What a store has: its buckets, revisions and current keys, and what etcd reports of them.
pub mod BucketNames
pub mod Compacted
pub mod Crc32c
pub mod CrcStates
pub mod Current
pub mod CurrentKeys
pub mod HashKv
pub mod Newest
pub mod Orders
pub mod RevisionsLeft
pub mod Statuses
pub mod StoreBuckets
pub mod Stores
pub mod SumSteps
