-- Entries as members of one bucket are in the order of paths if their keys rise, and have their places if the bucket is there or has its own.
use Rattle.std.proofs.Common.{◌≡◌, inl, inr, Bool, true, false, List, [], ◌∷◌, ◌++◌, map, refl, subst}
use Rattle.bolt_lemmas.proofs.Exports.{contains_cases, contains_head, contains_none, contains_tail}
use Rattle.bolt_tree.proofs.Words.{Contains, EntryView, Less, Member, Path, Rises, Tree, end, listing_below, listing_of, member_cmp, path_cmp}
use Rattle.bolt_tree.proofs.Words.{with_bucket, with_value, Contains-append_cases, Contains-append_left, Contains-append_right}
use Rattle.bolt_tree.proofs.PathOrder.{before_longer}
use Rattle.bolt_tree.proofs.{PathOrder.same_front}
use Rattle.bolt_tree.specs.{Entries.Bucket, Entries.Value, InBuckets.entry_in, InBuckets.members_in, InBuckets.view_cmp, Merges.HasBucket}
use Rattle.bolt_tree.specs.{Merges.HasParent, Merges.HaveParents}

pub entry_of : (bucket : Path) (entries : List EntryView) (m : Member) → Contains (map (entry_in bucket) entries) m
    → (e : EntryView) × Contains entries e × (entry_in bucket e ≡ m)
entry_of bucket [] m has = absurd (contains_none m has)
entry_of bucket (e ∷ entries) m has = elim (contains_cases (entry_in bucket e) m (map (entry_in bucket) entries) has) [
  | inl is ↦ (e, contains_head e entries, is)
  | inr later ↦ let (other, there, is) = entry_of bucket entries m later in (other, contains_tail e other entries there, is)
]

-- ---- their order

entry_before : (bucket : Path) (a b : EntryView) → view_cmp a b ≡ Less → member_cmp (entry_in bucket a) (entry_in bucket b) ≡ Less
entry_before bucket a b less = rw (same_front bucket (a.key ∷ []) (b.key ∷ []), less) refl

entries_rise : (bucket : Path) (entries : List EntryView) → Rises view_cmp entries → Rises member_cmp (map (entry_in bucket) entries)
entries_rise bucket [] rise = tt
entries_rise bucket (e ∷ entries) rise = (
  λ m has. let (other, there, is) = entry_of bucket entries m has in
      subst (λ (z : Member). member_cmp (entry_in bucket e) z ≡ Less) is (entry_before bucket e other (rise.0 other there)),
  entries_rise bucket entries rise.1,
)

pub members_rise : (is_made : Bool) (bucket : Path) (entries : List EntryView) → Rises view_cmp entries
    → Rises member_cmp (members_in is_made bucket entries)
members_rise false bucket entries rise = entries_rise bucket entries rise
members_rise true bucket entries rise = (
  λ m has. let (other, there, is) = entry_of bucket entries m has in subst (λ (z : Member). path_cmp bucket z.0 ≡ Less) is (before_longer bucket other.key []),
  entries_rise bucket entries rise,
)

-- ---- their places

entry_place : (listing : List Member) (bucket : Path) (entries : List EntryView) → HasBucket listing bucket
    → HaveParents listing (map (entry_in bucket) entries)
entry_place listing bucket entries has m is =
    let (e, there, same) = entry_of bucket entries m is in subst (λ (z : Member). HasParent listing z.0) same (bucket, e.key, refl, has)

pub members_have_parents : (listing : List Member) (is_made : Bool) (bucket : Path) (entries : List EntryView) → HasBucket listing bucket
    → (is_made ≡ true → HasParent listing bucket)
    → HaveParents listing (members_in is_made bucket entries)
members_have_parents listing false bucket entries has place m is = entry_place listing bucket entries has m is
members_have_parents listing true bucket entries has place m is = elim (contains_cases (bucket, Bucket 0) m (map (entry_in bucket) entries) is) [
  | inl same ↦ subst (λ (z : Member). HasParent listing z.0) same (place refl)
  | inr later ↦ entry_place listing bucket entries has m later
]

-- ---- what a tree lists has its places

below_placed : (listing : List Member) (base : Path) (tree : Tree) → ((m : Member) → Contains (listing_below base tree) m → Contains listing m)
    → HasBucket listing base
    → HaveParents listing (listing_below base tree)
below_placed listing base end all has m is = absurd (contains_none m is)
below_placed listing base (with_value key value after) all has m is = elim (contains_cases (base ++ key ∷ [], Value value) m (listing_below base after) is) [
  | inl same ↦ subst (λ (z : Member). HasParent listing z.0) same (base, key, refl, has)
  | inr later ↦
      below_placed listing base after (λ n there. all n (contains_tail (base ++ key ∷ [], Value value) n (listing_below base after) there)) has m later
]
below_placed listing base (with_bucket key sequence inside after) all has m is =
    let here : Member = (base ++ key ∷ [], Bucket sequence) in
    let deep : List Member = listing_below (base ++ key ∷ []) inside in
    let behind : List Member = listing_below base after in
    elim (contains_cases here m (deep ++ behind) is) [
      | inl same ↦ subst (λ (z : Member). HasParent listing z.0) same (base, key, refl, has)
      | inr more ↦ elim (Contains-append_cases deep behind m more) [
        | inl inner ↦
            below_placed listing (base ++ key ∷ []) inside (λ n there. all n (contains_tail here n (deep ++ behind) (Contains-append_left deep behind n there)))
            (inr (sequence, all here (contains_head here (deep ++ behind)))) m inner
        | inr later ↦
            below_placed listing base after (λ n there. all n (contains_tail here n (deep ++ behind) (Contains-append_right deep behind n there))) has m later
      ]
    ]

pub tree_has_parents : (tree : Tree) → HaveParents (listing_of tree) (listing_of tree)
tree_has_parents tree = below_placed (listing_of tree) [] tree (λ m has. has) (inl refl)
