mod AllOf
mod Bools
mod Decisions
pub mod Exports
mod Filters
mod LastOnes
mod ListPlaces
mod MappedLists
mod Members
mod Numbers
mod Options
mod Orderings
mod Rising
mod RisingBy
mod Sorting
