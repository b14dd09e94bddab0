-- All that goes back into the bucket `key` of a file, and how many candidates stay out: docs/RECOVERY.md, "The repaired listing".
use Rattle.std.specs.Prelude.{◌≡◌, ◌↔◌, ◌+◌, ℕ, Bool, List, length}
use Rattle.std.specs.List.{Contains}
use Rattle.bolt_lemmas.specs.Order.{Rises}
use Rattle.bolt_format.specs.{Elements.LeafElement, declared.meta.Meta.Meta}
use Rattle.bolt_check.specs.Keys.{Key, key_cmp}
use Rattle.bolt_tree.specs.{Entries.EntryView, Entries.Value, Listing.Member}
use Rattle.bolt_etcd.specs.Wire.Revisions.{RevisionView}
use Rattle.bolt_repair.specs.{Readable.readable, Repaired.IsRepair, Repaired.Made, Repaired.elements_on, Repairs.IsCandidate, Repairs.store_path}

-- a candidate has this key
abbrev pub IsCandidateKey : List Member → List LeafElement → Key → Type 0
IsCandidateKey recovered found key = (e : EntryView) × (r : RevisionView) × IsCandidate recovered found e r × (e.key ≡ key)

-- the keys of all candidates, by rising key
pub record AreCandidateKeys (recovered : List Member) (found : List LeafElement) (keys : List Key) : Type 0 where
  pub rises : Rises key_cmp keys
  pub exact : (key : Key) → Contains keys key ↔ IsCandidateKey recovered found key

-- `left_out` keys of candidates don't go back
abbrev pub IsLeftOut : List Member → List LeafElement → List EntryView → ℕ → Type 0
IsLeftOut recovered found back left_out = (keys : List Key) × AreCandidateKeys recovered found keys × (left_out + length back ≡ length keys)

-- the recovered root bucket has no value under the name `key`
abbrev pub LacksStoreValue : List Member → Type 0
LacksStoreValue recovered = (value : List ℕ) → Contains recovered (store_path, Value value) → ⊥

-- What goes back into the bucket, which is no value, and how many keys of candidates don't.
pub record IsFullRepair (file : List ℕ) (meta : Meta) (search : Bool) (back : List EntryView) (made : Made) (left_out : ℕ) : Type 0 where
  pub repair : IsRepair file meta search back made
  pub left : IsLeftOut (readable repair.recovered) (elements_on file meta repair.found) back left_out
  pub bucket : LacksStoreValue repair.recovered
