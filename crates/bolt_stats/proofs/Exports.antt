-- What the proofs of other crates may cite of this one. Its other modules of proofs are its own.
pub use Rattle.bolt_stats.proofs.StatsExist.{some_stats}
pub use Rattle.bolt_stats.proofs.StatsOnce.{one_stats}
