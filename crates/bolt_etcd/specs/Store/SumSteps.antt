-- A step of the sum over entries.
use Rattle.std.specs.Prelude.{◌≡◌, ℕ, Bool, List, option_map, if◌then◌else◌}
use Rattle.std.specs.List.{list_any}
use Rattle.bolt_format.specs.Elements.{LeafElement}
use Rattle.bolt_tree.specs.Entries.{EntryView}
use Rattle.bolt_etcd.specs.{Store.Crc32c.crc_from, Store.CurrentKeys.nameless_key, Store.HashKv.is_current_at, Store.HashKv.is_summed}
use Rattle.bolt_etcd.specs.{Store.HashKv.passes, Wire.Numbered.numbered, Wire.Numbered.numbered_of}
use Rattle.bolt_etcd.specs.{Wire.Revisions.RevisionView, Wire.Revisions.revision_of, Wire.ShownRevisions.value_bytes, Store.Stores.revisions}
use Rattle.bolt_etcd.specs.{declared.store.hash_kv.HashBounds.HashBounds}

-- among these entries it is known of one whether it is listed as current, and of all whether any is current
pub record KnowsCurrent (h : HashBounds) (entries : List LeafElement) (entry : EntryView) (is_listed any_current : Bool) : Type 0 where
  pub nameless : option_map (λ key. key.now) h.nameless ≡ nameless_key h.up_to (numbered entries)
  pub listed : is_listed ≡ passes (is_current_at h.up_to (revisions entries)) (revision_of entry)
  pub any : any_current ≡ list_any (is_current_at h.up_to (numbered entries)) (numbered entries)

-- the state of the sum after one more entry, of the revisions and marks rs
abbrev pub sum_with : (up_to compacted : ℕ) → (rs : List RevisionView) → EntryView → ℕ → ℕ
sum_with up_to compacted rs entry state =
    if passes (is_summed up_to compacted rs) (numbered_of entry) then crc_from (crc_from state entry.key) (value_bytes entry) else state
