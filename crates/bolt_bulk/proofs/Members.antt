-- What of a listing is still to come while buckets are open: the members of the innermost one, then those after it in each bucket around it.
-- The length of the next member's path says which bucket it is in.
use Rattle.std.proofs.Common.{◌≡◌, ◌∙◌, ℕ, suc, ◌≤◌, ◌<◌, List, [], ◌∷◌, ◌++◌, length, refl, sym, ap, arith, append_assoc}
use Rattle.std.proofs.lemmas.List.{append-nil, length-append}
use Rattle.bolt_check.specs.Keys.{Key}
use Rattle.bolt_tree.specs.{Entries.Bucket, Entries.Item, Entries.Value, Listing.Member, Paths.Path, Tree.Tree, Tree.end, Tree.listing_below}
use Rattle.bolt_tree.specs.{Tree.listing_of, Tree.with_bucket, Tree.with_value}
use Rattle.bolt_bulk.specs.Private.{behind_in, left_in, Parent, path_in}

pub path_length : (parents : List Parent) → length (path_in parents) ≡ length parents
path_length [] = refl
path_length (parent ∷ parents) = omega (arith, length-append (path_in parents) (parent.key ∷ []), path_length parents)

-- at the beginning all is to come
pub all_left : (tree : Tree) → left_in [] tree ≡ listing_of tree
all_left tree = append-nil (listing_of tree)

-- a bucket is entered
pub left_entered : (parents : List Parent) (key : Key) (sequence : ℕ) (inside after : Tree)
    → left_in parents (with_bucket key sequence inside after)
    ≡ (path_in parents ++ key ∷ [], Bucket sequence) ∷ left_in (record { key = key; after = after } ∷ parents) inside
left_entered parents key sequence inside after = grind (arith, append_assoc)

first_is : (path : Path) (item : Item) (member : Member) (xs ys : List Member) → (path, item) ∷ xs ≡ member ∷ ys → path ≡ member.0
first_is path item member xs ys e = let same : (path, item) ≡ member = cc in ap (λ (m : Member). m.0) same

one_deeper : (parents : List Parent) (key : Key) (path : Path) → path_in parents ++ key ∷ [] ≡ path → length path ≡ suc (length parents)
one_deeper parents key path e = omega (arith, ap (λ (p : Path). length p) e, length-append (path_in parents) (key ∷ []), path_length parents)

-- the path of the first member after that bucket is no longer than there are parents
starts_short : (parents : List Parent) (after : Tree) (member : Member) (more : List Member)
    → ((m : Member) (ms : List Member) → behind_in parents ≡ m ∷ ms → length m.0 ≤ length parents)
    → listing_below (path_in parents) after ++ behind_in parents ≡ member ∷ more → length member.0 ≤ suc (length parents)
starts_short parents end member more short e = let n = short member more e in omega arith
starts_short parents (with_value key value after) member more short e =
    omega (arith, one_deeper parents key member.0 (first_is (path_in parents ++ key ∷ []) (Value value) member _ more e))
starts_short parents (with_bucket key sequence inside after) member more short e =
    omega (arith, one_deeper parents key member.0 (first_is (path_in parents ++ key ∷ []) (Bucket sequence) member _ more e))

behind_short : (parents : List Parent) (member : Member) (more : List Member) → behind_in parents ≡ member ∷ more → length member.0 ≤ length parents
behind_short [] member more e = absurd cc
behind_short (parent ∷ parents) member more e = starts_short parents parent.after member more (behind_short parents) e

-- The next member is in no bucket further in,
pub next_short : (parents : List Parent) (rest : Tree) (member : Member) (more : List Member) → left_in parents rest ≡ member ∷ more
    → length member.0 ≤ suc (length parents)
next_short parents rest member more e = starts_short parents rest member more (behind_short parents) e

-- and if it is further out, the innermost bucket has no more.
pub none_further : (parents : List Parent) (rest : Tree) (member : Member) (more : List Member) → left_in parents rest ≡ member ∷ more
    → length member.0 < suc (length parents) → rest ≡ end
none_further parents end member more e short = refl
none_further parents (with_value key value after) member more e short = grind (arith, one_deeper, first_is)
none_further parents (with_bucket key sequence inside after) member more e short = grind (arith, one_deeper, first_is)

-- If no member is left, no bucket has more.
pub none_at_all : (parents : List Parent) (rest : Tree) → left_in parents rest ≡ [] → rest ≡ end
none_at_all parents end e = refl
none_at_all parents rest e = absurd (cc)

-- The entry of an item, a value or a bucket with entries `inside`, and where the pass is after it.
abbrev pub with_item : Key → Item → (inside after : Tree) → Tree
with_item key (Value value) inside after = with_value key value after
with_item key (Bucket sequence) inside after = with_bucket key sequence inside after

abbrev pub left_after : List Parent → Key → Item → (inside after : Tree) → List Member
left_after parents key (Value value) inside after = left_in parents after
left_after parents key (Bucket sequence) inside after = left_in (record { key = key; after = after } ∷ parents) inside

-- A member in the innermost bucket is the next entry there.
pub record IsNext (parents : List Parent) (rest : Tree) (path : Path) (item : Item) (more : List Member) : Type 0 where
  pub key : Key
  pub inside : Tree
  pub after : Tree
  pub rest_is : rest ≡ with_item key item inside after
  pub path_is : path ≡ path_in parents ++ key ∷ []
  pub more_is : more ≡ left_after parents key item inside after

next_by : (parents : List Parent) (key : Key) (own : Item) (inside after : Tree) (path : Path) (item : Item) (more : List Member)
    → (path_in parents ++ key ∷ [], own) ∷ left_after parents key own inside after ≡ (path, item) ∷ more
    → IsNext parents (with_item key own inside after) path item more
next_by parents key own inside after path item more e = grind arith

pub next_entry : (parents : List Parent) (rest : Tree) (path : Path) (item : Item) (more : List Member) → left_in parents rest ≡ (path, item) ∷ more
    → length path ≡ suc (length parents) → IsNext parents rest path item more
next_entry parents end path item more e deep = let n = behind_short parents (path, item) more e in absurd (omega arith)
next_entry parents (with_value key own after) path item more e deep = next_by parents key (Value own) end after path item more e
next_entry parents (with_bucket key own inside after) path item more e deep =
    next_by parents key (Bucket own) inside after path item more (sym (left_entered parents key own inside after) ∙ e)
