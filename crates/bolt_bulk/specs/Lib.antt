pub mod BulkEndings
pub mod Compacting
pub mod Private
pub mod WholeListings
