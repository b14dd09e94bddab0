mod CommandLineLemmas
mod PageSizes
mod PathReading
mod Vocabulary
