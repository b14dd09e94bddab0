-- The text of the names in a bucket of a listing, member by member.
-- The members are read once, in order: what lies in the bucket comes after the bucket itself, if that is there.
use Rattle.std.proofs.Common.{◌≡◌, ◌∙◌, ◌++◌, ◌∷◌, ◌&&◌, ◌||◌, [], Bool, Bor, List, None, Option, Some, ap, arith, false, flat_map, length, refl}
use Rattle.std.proofs.Common.{true, ℕ}
use Rattle.std.proofs.lemmas.List.{map-append}
use Rattle.std.specs.Prelude.{if◌then◌else◌}
use Rattle.bolt_report.proofs.Words.{begins_with, bytes_eq, Form, is_bucket_at, Key, list_any, Member, member_cmp, Path, path_of, pointwise, Rises}
use Rattle.bolt_report.proofs.ListPartTexts.{apart_before, has_next}
use Rattle.bolt_text.proofs.Exports.{same_path}
use Rattle.bolt_report.specs.MemberNames.{WantedNames, key_in, member_name}

no_items : (path : List (Bor (List ℕ))) → length path ≡ 0 → path_of path ≡ []
no_items [] none = refl
no_items (part ∷ path) none = absurd (omega (arith, none))

-- ---- the key of a path in a bucket

-- a path that doesn't begin with the bucket's has none,
out_by : (bucket path : Path) (b : Bool) → (begins_with bucket path ≡ false → key_in bucket path ≡ None) → (b && begins_with bucket path) ≡ false
    → (if b then key_in bucket path else None) ≡ None
out_by bucket path true known none = known none
out_by bucket path false known none = refl

pub key_out : (bucket path : Path) → begins_with bucket path ≡ false → key_in bucket path ≡ None
key_out [] path none = absurd (cc)
key_out (part ∷ bucket) [] none = refl
key_out (part ∷ bucket) (first ∷ path) none = out_by bucket path (bytes_eq part first) (key_out bucket path) none

-- nor has the bucket's own path,
none_of_nothing : (bucket : Path) → key_in bucket [] ≡ None
none_of_nothing [] = refl
none_of_nothing (part ∷ bucket) = refl

-- nor one with several parts more;
none_of_several : (first : Key) (path : Path) (key : Key) → key_in [] (first ∷ path ++ key ∷ []) ≡ None
none_of_several first [] key = refl
none_of_several first (part ∷ path) key = refl

same_or_none : (b : Bool) (found : Option Key) → found ≡ None → (if b then found else None) ≡ None
same_or_none true found is = is
same_or_none false found is = refl

both_or_none : (b all : Bool) (key : Key) (found : Option Key) → found ≡ (if all then Some key else None)
    → (if b then found else None) ≡ (if b && all then Some key else None)
both_or_none true all key found is = is
both_or_none false all key found is = refl

-- with one part more, it is that part
pub key_last : (bucket parents : Path) (key : Key)
    → key_in bucket (parents ++ key ∷ []) ≡ (if pointwise bytes_eq bucket parents then Some key else None)
key_last [] [] key = refl
key_last [] (first ∷ parents) key = none_of_several first parents key
key_last (part ∷ bucket) [] key = same_or_none (bytes_eq part key) (key_in bucket []) (none_of_nothing bucket)
key_last (part ∷ bucket) (first ∷ parents) key = both_or_none (bytes_eq part first) (pointwise bytes_eq bucket parents) key _ (key_last bucket parents key)

-- as the code holds them
module _ (bucket path : List (Bor (List ℕ))) where
  pub key_split : (parents : List (Bor (List ℕ))) (key : Bor (List ℕ)) → path ≡ parents ++ key ∷ [] → (same : Bool)
      → same ≡ pointwise (λ (a b : Bor (List ℕ)). bytes_eq a.now b.now) bucket parents
      → key_in (path_of bucket) (path_of path) ≡ (if same then Some key.now else None)
  key_split parents key is same test = grind (arith, map-append, key_last, same_path)

  pub key_none : length path ≡ 0 → key_in (path_of bucket) (path_of path) ≡ None
  key_none none = let no_parts : path_of path ≡ [] = no_items path none in ap (key_in (path_of bucket)) no_parts ∙ none_of_nothing (path_of bucket)

-- ---- the text of what is left

module _ (form : Form) (wanted : WantedNames) (bucket : Path) where
  -- the names of what is left, if the bucket was found or is among it
  abbrev pub left_names : Bool → List Member → List ℕ
  left_names found members = if found || list_any (is_bucket_at bucket) members then flat_map (member_name form wanted bucket) members else []

  by_later : (m : Member) (ms : List Member) (any : Bool) → list_any (is_bucket_at bucket) ms ≡ any → Rises member_cmp (m ∷ ms)
      → (if any then flat_map (member_name form wanted bucket) (m ∷ ms) else []) ≡ (if any then flat_map (member_name form wanted bucket) ms else [])
  by_later m ms true e rises = grind (arith, key_out, apart_before)
  by_later m ms false e rises = refl

  module _ (found now : Bool) (m : Member) (ms : List Member) (is : now ≡ (found || is_bucket_at bucket m)) where
    -- Before the bucket, nothing is written;
    pub before_names : now ≡ false → Rises member_cmp (m ∷ ms) → left_names found (m ∷ ms) ≡ left_names now ms
    before_names e rises = rw (has_next bucket found now m ms is, e) (by_later m ms (list_any (is_bucket_at bucket) ms) refl rises)

    -- from it on, the name of each member.
    pub with_name : now ≡ true → left_names found (m ∷ ms) ≡ member_name form wanted bucket m ++ left_names now ms
    with_name e = rw (has_next bucket found now m ms is, e) refl
