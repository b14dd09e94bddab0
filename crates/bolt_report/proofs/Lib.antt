pub mod Exports
mod FigureDocuments
mod FigureTexts
mod FoundLemmas
mod ListPartTexts
mod LookUps
mod NameTexts
mod PageFaults
mod PageTableLemmas
mod PrefixLemmas
mod PrefixSteps
mod RevisionDocuments
mod RevisionTexts
mod SizeLemmas
mod SizesExist
mod Words
