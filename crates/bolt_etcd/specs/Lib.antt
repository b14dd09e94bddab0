pub mod Check
pub mod Histories
pub mod Private
pub mod Store
pub mod Wire
