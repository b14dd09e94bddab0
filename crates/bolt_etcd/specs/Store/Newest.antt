-- The newest revision of a name.
use Rattle.std.specs.Prelude.{ℕ, Bool, List, filter, nat_lt, not, ◌&&◌, Option, Some, None, if◌then◌else◌}
use Rattle.std.specs.{List.last_or, Str.bytes_eq}
use Rattle.bolt_etcd.specs.Wire.Revisions.{RevisionView, name_of}

abbrev pub is_named : List ℕ → RevisionView → Bool
is_named name r = bytes_eq (name_of r) name

abbrev pub is_until : ℕ → RevisionView → Bool
is_until up_to r = not (nat_lt up_to r.key.main)

-- the revisions up to a transaction
abbrev pub until : ℕ → List RevisionView → List RevisionView
until up_to rs = filter (is_until up_to) rs

-- the last revision of this name, if there is one
unfoldable pub newest : List ℕ → List RevisionView → Option RevisionView
newest name rs = last_or None (filter (is_named name) rs)

-- the value of a revision, if there is one and it isn't a deletion
abbrev pub value_if : Option RevisionView → Option (List ℕ)
value_if None = None
value_if (Some r) = if r.key.deleted then None else Some r.content.value

-- a revision is one of this name, and of no later transaction
abbrev pub is_of : List ℕ → ℕ → RevisionView → Bool
is_of name up_to r = is_named name r && is_until up_to r
