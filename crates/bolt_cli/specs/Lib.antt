pub mod Deeds
pub mod Gathered
pub mod Names
pub mod Orders
pub mod Printed
pub mod Runs
pub mod Sources
pub mod SystemFaults
