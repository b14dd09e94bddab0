mod CutLemmas
mod DecimalNumbers
mod DigitLemmas
pub mod Exports
mod GatherLemmas
mod HexNumbers
mod HexStrings
mod JsonLemmas
mod LineLemmas
mod MixedParts
mod PartTests
mod ReportLemmas
mod ShortTexts
mod TokenLemmas
mod Vocabulary
mod WordLemmas
