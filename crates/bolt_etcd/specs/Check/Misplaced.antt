-- A record of another revision: it says that another transaction wrote it. Of a deletion nothing is known.
use Rattle.std.specs.Prelude.{◌==◌, ◌&&◌, Bool, List, filter, not}
use Rattle.bolt_etcd.specs.Wire.Revisions.{RevisionView}

unfoldable pub is_misplaced : RevisionView → Bool
is_misplaced r = not r.key.deleted && not (r.content.modified == r.key.main)

-- the revisions with records of other revisions, in their order
abbrev pub misplaced : List RevisionView → List RevisionView
misplaced rs = filter is_misplaced rs
