-- Candidates beside a key.
use Rattle.std.specs.Prelude.{◌≡◌, ◌≤◌, ◌<◌, ℕ, List, length, slice_index_or}
use Rattle.std.specs.declared.cmp.Ordering.TheVariants.{Less}
use Rattle.bolt_check.specs.Keys.{Key, key_cmp}
use Rattle.bolt_etcd.specs.{Wire.ShownRevisions.entry_of, declared.wire.revision.Revision.Revision}

-- the first n have lesser keys
abbrev pub HaveLesserKeys : Key → List Revision → ℕ → Type 0
HaveLesserKeys key rs n = (n ≤ length rs) × ((k : ℕ) (d : Revision) → k < n → key_cmp (entry_of (slice_index_or rs k d)).key key ≡ Less)
