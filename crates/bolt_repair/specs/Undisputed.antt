-- Which candidates are of keys that no others have: docs/RECOVERY.md, "The repaired listing".
use Rattle.std.specs.Prelude.{◌≡◌, ◌↔◌, Bool, true, List, [], ◌∷◌, ℕ, length, not}
use Rattle.std.specs.{List.Contains, Str.bytes_eq}
use Rattle.bolt_lemmas.specs.Order.{Rises}
use Rattle.bolt_check.specs.Keys.{Key, key_cmp}
use Rattle.bolt_tree.specs.{Entries.EntryView, InBuckets.view_cmp}
use Rattle.bolt_repair.specs.Candidates.{HasKey}

-- the first of these entries is the last that has its key
abbrev pub is_last_of_key : List EntryView → Bool
is_last_of_key [] = true
is_last_of_key (e ∷ []) = true
is_last_of_key (e ∷ next ∷ es) = not (bytes_eq next.key e.key)

-- `undisputed` has exactly the entries of `es` whose keys no other one has, by rising key
pub record AreUndisputed (es undisputed : List EntryView) : Type 0 where
  pub rises : Rises view_cmp undisputed
  pub exact : (e : EntryView) → Contains undisputed e ↔ (Contains es e × ((other : EntryView) → Contains es other → other.key ≡ e.key → other ≡ e))

-- the keys of entries, by rising key
pub record AreKeys (es : List EntryView) (keys : List Key) : Type 0 where
  pub rises : Rises key_cmp keys
  pub exact : (key : Key) → Contains keys key ↔ HasKey es key

-- entries have this many keys
abbrev pub HaveKeys : List EntryView → ℕ → Type 0
HaveKeys es number = (keys : List Key) × AreKeys es keys × (number ≡ length keys)
