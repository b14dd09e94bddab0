mod DecodedLines
mod EdgeTrees
pub mod Exports
mod FileBytes
mod LastPaths
mod ListingTexts
mod MemberLemmas
mod NextLines
mod PathLemmas
mod PlacedLines
mod PlainLines
mod PushedParts
mod ReadTexts
mod RightTexts
mod StoredTexts
mod TextTrees
mod Words
mod WrittenLines
