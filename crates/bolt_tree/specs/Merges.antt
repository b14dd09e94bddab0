-- Two listings merged into one, by path: docs/LISTING.md, "Merged listings".
use Rattle.std.specs.Prelude.{◌≡◌, ◌≢◌, ◌⊎◌, ℕ, List, [], ◌∷◌, ◌++◌, Contains, if◌then◌else◌}
use Rattle.std.specs.{Ordering.is_lt, declared.cmp.Ordering.TheVariants.Equal}
use Rattle.bolt_check.specs.Keys.{Key}
use Rattle.bolt_tree.specs.{Entries.Bucket, Listing.Member, Listing.member_cmp, Paths.Path}

-- x before the first of these that doesn't come before it; what follows is merged with the rest
abbrev pub merge_first : Member → (List Member → List Member) → List Member → List Member
merge_first x rest [] = x ∷ rest []
merge_first x rest (y ∷ ys) = if is_lt (member_cmp y x) then y ∷ merge_first x rest ys else x ∷ rest (y ∷ ys)

-- Of two members with one path, that of the first listing comes first.
abbrev pub merge : List Member → List Member → List Member
merge [] ys = ys
merge (x ∷ xs) ys = merge_first x (merge xs) ys

-- no path is in both
abbrev pub AreApart : List Member → List Member → Type 0
AreApart xs ys = (x y : Member) → Contains xs x → Contains ys y → member_cmp x y ≢ Equal

-- a bucket of a listing, or the root bucket
abbrev pub HasBucket : List Member → Path → Type 0
HasBucket listing path = (path ≡ []) ⊎ ((sequence : ℕ) × Contains listing (path, Bucket sequence))

-- The path has at least one key, and what comes before its last key is a bucket of this listing.
abbrev pub HasParent : List Member → Path → Type 0
HasParent listing path = (above : Path) × (key : Key) × (path ≡ above ++ key ∷ []) × HasBucket listing above

-- each of these members has a parent in this listing
abbrev pub HaveParents : List Member → List Member → Type 0
HaveParents listing members = (m : Member) → Contains members m → HasParent listing m.0
