-- Where a path leads, as far as a store is concerned.
use Rattle.std.specs.Prelude.{◌≡◌, Bool, true, false, ◌∷◌, ◌++◌, []}
use Rattle.std.specs.Str.{bytes_eq}
use Rattle.bolt_check.specs.Keys.{Key}
use Rattle.bolt_tree.specs.Paths.{Path}
use Rattle.bolt_repair.specs.{Readable.is_in_inner_bucket, Repairs.compaction_path, Repairs.meta_path, Repairs.store_path}
use Rattle.bolt_repair.specs.declared.store_path.StorePath.{StorePath}
use Rattle.bolt_repair.specs.declared.store_path.StorePath.TheVariants.{Below, Compaction, InStore, Meta, Other, Store}
use Rattle.bolt_etcd.specs.Store.BucketNames.{key_bucket}

-- where a path leads
abbrev pub IsStorePath : Path → StorePath → Type 0
IsStorePath path Store = path ≡ store_path
IsStorePath path (InStore key) = path ≡ store_path ++ key.now ∷ []
IsStorePath path Below = is_in_inner_bucket path ≡ true
IsStorePath path Meta = path ≡ meta_path
IsStorePath path Compaction = path ≡ compaction_path
IsStorePath path Other =
    (path ≡ store_path → ⊥) × ((key : Key) → path ≡ store_path ++ key ∷ [] → ⊥) × (path ≡ compaction_path → ⊥) × (path ≡ meta_path → ⊥)
    × (is_in_inner_bucket path ≡ false)

-- whether a path is that of an entry of the bucket `key`
abbrev pub is_in_store : Path → Bool
is_in_store [] = false
is_in_store (bucket ∷ []) = false
is_in_store (bucket ∷ key ∷ []) = bytes_eq bucket key_bucket
is_in_store (bucket ∷ key ∷ more ∷ path) = false

-- whether a path is that of the bucket `key`, or of an entry in it
abbrev pub is_near : Path → Bool
is_near [] = false
is_near (bucket ∷ []) = bytes_eq bucket key_bucket
is_near (bucket ∷ key ∷ []) = bytes_eq bucket key_bucket
is_near (bucket ∷ key ∷ more ∷ path) = false
