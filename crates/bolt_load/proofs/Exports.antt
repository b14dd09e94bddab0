-- What the proofs of other crates may cite of this one. Its other modules of proofs are its own.
pub use Rattle.bolt_load.proofs.LastPaths.{path_itself}
