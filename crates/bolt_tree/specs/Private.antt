-- What private contracts and proofs cite. No public contract names it, but public words such as `cursor_place`, `passed_of` and `walk_path`
-- are defined by it.
pub mod BucketPages
pub mod BucketValues
pub mod Contents
pub mod CursorViews
pub mod Entered
pub mod Kept
pub mod OpenBuckets
pub mod PageKeys
pub mod Resting
pub mod Seeks
pub mod ShownPages
pub mod Stacks
pub mod Tours
pub mod Trails
