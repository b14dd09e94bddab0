mod DepthExists
mod DepthSums
pub mod Exports
mod FigureLemmas
mod ReadDepths
mod ReadLemmas
mod ReadSums
mod StatsExist
mod StatsOnce
mod Words
