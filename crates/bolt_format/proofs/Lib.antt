mod ElementFacts
mod EncodedHeaders
mod EncodedMetas
pub mod Exports
mod FaultLemmas
mod FreeLemmas
mod GapLemmas
mod GoodPages
mod ListLemmas
mod MetaLemmas
mod MetaPrefix
mod NumberLemmas
mod PageFacts
mod PageLaws
mod PageSizes
mod SinkLemmas
mod WroteFronts
mod WroteLemmas
