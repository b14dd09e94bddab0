-- Which numbers of revisions are there: those of revisions, and those of marks.
use Rattle.std.specs.Prelude.{◌≡◌, ℕ, true, List, [], ◌∷◌, Option, Some, None}
use Rattle.std.specs.List.{filter_map}
use Rattle.bolt_format.specs.Elements.{LeafElement}
use Rattle.bolt_tree.specs.Entries.{EntryView, entry_view}
use Rattle.bolt_etcd.specs.{Wire.Records.record_of, Wire.RevisionKeys.revision_key, Wire.RevisionKeys.is_mark, Wire.Revisions.RevisionView}
use Rattle.bolt_etcd.specs.{Wire.Revisions.record_content, Wire.Revisions.value_of, Wire.Fields.◌>>=◌}
use Rattle.bolt_etcd.specs.declared.wire.revision_key.RevisionKey.{RevisionKey}

-- what is under a revision key with a value that is a record. A mark is a record without fields: a revision that says nothing.
abbrev pub numbered_in : List ℕ → List ℕ → Option RevisionView
numbered_in key value = do
  k ← revision_key key
  r ← record_of value
  Some (record { stored_key = key; key = k; content = record_content k.deleted r })

-- the revision or the mark that an entry is, if it is one
unfoldable pub numbered_of : EntryView → Option RevisionView
numbered_of e = value_of e.item >>= numbered_in e.key

-- the revisions and the marks among entries
abbrev pub numbered : List LeafElement → List RevisionView
numbered entries = filter_map (λ e. numbered_of (entry_view e)) entries

-- the key of the first revision or mark is returned, and the later ones are left; or none is left
abbrev pub GivesNumber : (old new : List LeafElement) → Option RevisionKey → Type 0
GivesNumber old new (Some k) = (r : RevisionView) × (numbered old ≡ r ∷ numbered new) × (r.key ≡ k)
GivesNumber old new None = (numbered old ≡ []) × (new ≡ [])

-- a property holds of each mark: of its key, of its value, and of what its key says
abbrev pub ForMarks : ((key value : List ℕ) → RevisionKey → Type 0) → Type 0
ForMarks P = (key value : List ℕ) (k : RevisionKey) → revision_key key ≡ Some k → is_mark k value ≡ true → P key value k
