-- The names under which etcd keeps what a store has.
use Rattle.std.specs.Prelude.{List, [], ◌∷◌, codes}
use Rattle.bolt_check.specs.Keys.{Key}

-- the bucket of the revisions
abbrev pub key_bucket : Key
key_bucket = codes "key"

-- the bucket of the leases
abbrev pub lease_bucket : Key
lease_bucket = codes "lease"

-- the bucket of what is noted of the whole store
abbrev pub meta_bucket : Key
meta_bucket = codes "meta"

-- the key in the bucket `meta` under which the revision of the last compaction is
abbrev pub compaction_key : Key
compaction_key = codes "scheduledCompactRev"

-- the buckets that every store has
abbrev pub bucket_names : List Key
bucket_names = codes "auth" ∷ codes "authRoles" ∷ codes "authUsers" ∷ key_bucket ∷ lease_bucket ∷ meta_bucket ∷ []
