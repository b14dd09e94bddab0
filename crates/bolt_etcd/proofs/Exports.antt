-- What the proofs of other crates may cite of this one. Its other modules of proofs are its own.
pub use Rattle.bolt_etcd.proofs.Currents.{bind_some, revisions_rise, stored_key_is}
pub use Rattle.bolt_etcd.proofs.Decisions.{dec_key, dec_path}
pub use Rattle.bolt_etcd.proofs.HistoryUntil.{until_early}
pub use Rattle.bolt_etcd.proofs.ListedTexts.{Wrote-given}
pub use Rattle.bolt_etcd.proofs.RevisionSteps.{moved_to}
pub use Rattle.bolt_etcd.proofs.SnapshotLemmas.{no_fault_iff}
pub use Rattle.bolt_etcd.proofs.SortedExists.{current_is_one, newest_exists}
pub use Rattle.bolt_etcd.proofs.SortedOnce.{current_once}
pub use Rattle.bolt_etcd.proofs.StoreExists.{one_store}
pub use Rattle.bolt_etcd.proofs.StoreLemmas.{fits, fits_some}
pub use Rattle.bolt_etcd.proofs.StoredRevisions.{has_stored_key, is_revision}
pub use Rattle.bolt_etcd.proofs.{TrailingAccounts.agree_more, TrailingBytes.bytes_more, TrailingBytes.count_more, TrailingBytes.flags_more}
