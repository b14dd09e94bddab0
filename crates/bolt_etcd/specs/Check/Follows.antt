-- Whether a revision follows the one before it of its name. A lost revision shows where one doesn't.
use Rattle.std.specs.Prelude.{◌+◌, ◌==◌, ◌&&◌, ◌||◌, Bool, not, Option, Some, None, if◌then◌else◌}
use Rattle.bolt_etcd.specs.Wire.Revisions.{RevisionView}

-- a revision creates its key: it has version 1, and its own transaction is the one that created the key
abbrev pub creates : RevisionView → Bool
creates r = not r.key.deleted && (r.content.version == 1) && (r.content.created == r.key.main)

-- a revision has the next version of the same key
abbrev pub is_next_of : RevisionView → RevisionView → Bool
is_next_of before r = (r.content.version == before.content.version + 1) && (r.content.created == before.content.created)

-- after a put comes a deletion or the next version; after a deletion, and at first, the key is created
unfoldable pub follows : Option RevisionView → RevisionView → Bool
follows None r = creates r
follows (Some before) r = if before.key.deleted then creates r else (r.key.deleted || is_next_of before r)
