-- What the proofs of other crates may cite of this one. Its other modules of proofs are its own.
pub use Rattle.bolt_recover.proofs.FoundAll.{no_gaps}
pub use Rattle.bolt_recover.proofs.Existing.{has_gaps, has_losses, has_recovered, one_recovered}
pub use Rattle.bolt_recover.proofs.JoinedContents.{joined_contents}
pub use Rattle.bolt_recover.proofs.MembersInBuckets.{path_holds, shows_entry}
pub use Rattle.bolt_recover.proofs.PageNames.{digits_long}
pub use Rattle.bolt_recover.proofs.Refused.{refused_under}
pub use Rattle.bolt_recover.proofs.SoundWalks.{gives_prop}
