-- Which members a merge has, their order, and their places.
use Rattle.std.proofs.Common.{◌≡◌, ◌⊎◌, ◌↔◌, inl, inr, Bool, true, false, List, [], ◌∷◌, if◌then◌else◌, refl, ap, subst}
use Rattle.bolt_lemmas.proofs.Exports.{contains_cases, contains_head, contains_none, contains_tail, is_before}
use Rattle.bolt_tree.proofs.Words.{Contains, IsBelow, Less, Member, Path, Rises, is_lt, less_of, member_cmp}
use Rattle.bolt_tree.proofs.Single.{member_total}
use Rattle.bolt_tree.specs.Merges.{AreApart, HasBucket, HaveParents, merge}

-- ---- what goes on over a first member of either holds of every merge

abbrev IsFirst : Member → List Member → Type 0
IsFirst x [] = Unit {0}
IsFirst x (y ∷ ys) = is_lt (member_cmp y x) ≡ false

module _ (P : List Member → List Member → List Member → Type 0) (none : (ys : List Member) → P [] ys ys)
    (first : (x : Member) (xs ys : List Member) → IsFirst x ys → P xs ys (merge xs ys) → P (x ∷ xs) ys (x ∷ merge xs ys))
    (second : (x y : Member) (xs ys : List Member) → is_lt (member_cmp y x) ≡ true → P (x ∷ xs) ys (merge (x ∷ xs) ys) → P (x ∷ xs) (y ∷ ys) (y ∷ merge (x ∷ xs) ys)) where
  by_test : (x y : Member) (xs ys : List Member) (b : Bool) → is_lt (member_cmp y x) ≡ b → P xs (y ∷ ys) (merge xs (y ∷ ys))
      → P (x ∷ xs) ys (merge (x ∷ xs) ys)
      → P (x ∷ xs) (y ∷ ys) (if b then y ∷ merge (x ∷ xs) ys else x ∷ merge xs (y ∷ ys))
  by_test x y xs ys true is without_x without_y = second x y xs ys is without_y
  by_test x y xs ys false is without_x without_y = first x xs (y ∷ ys) is without_x

  first_holds : (x : Member) (xs : List Member) → ((ys : List Member) → P xs ys (merge xs ys)) → (ys : List Member)
      → P (x ∷ xs) ys (merge (x ∷ xs) ys)
  first_holds x xs rest [] = first x xs [] tt (rest [])
  first_holds x xs rest (y ∷ ys) = by_test x y xs ys (is_lt (member_cmp y x)) refl (rest (y ∷ ys)) (first_holds x xs rest ys)

  merge_holds : (xs ys : List Member) → P xs ys (merge xs ys)
  merge_holds [] ys = none ys
  merge_holds (x ∷ xs) ys = first_holds x xs (merge_holds xs) ys

-- ---- the members

pub merge_none : (xs : List Member) → merge xs [] ≡ xs
merge_none [] = refl
merge_none (x ∷ xs) = ap (λ (ms : List Member). x ∷ ms) (merge_none xs)

here : (x m : Member) (xs : List Member) → x ≡ m → Contains (x ∷ xs) m
here x m xs same = subst (Contains (x ∷ xs)) same (contains_head x xs)

abbrev AreOfBoth : List Member → List Member → List Member → Type 0
AreOfBoth xs ys zs = (m : Member) → Contains zs m ↔ (Contains xs m ⊎ Contains ys m)

pub merge_members : (xs ys : List Member) → AreOfBoth xs ys (merge xs ys)
merge_members = merge_holds AreOfBoth
    (λ ys m. (λ has. inr has, λ of. elim of [ inl has ↦ absurd (contains_none m has) | inr has ↦ has ]))
    (λ x xs ys is rest m. (
      λ has. elim (contains_cases x m (merge xs ys) has) [
        | inl same ↦ inl (here x m xs same)
        | inr later ↦ elim ((rest m).0 later) [ inl in_xs ↦ inl (contains_tail x m xs in_xs) | inr in_ys ↦ inr in_ys ]
      ],
      λ of. elim of [
        | inl has ↦
            elim (contains_cases x m xs has) [ inl same ↦ here x m (merge xs ys) same | inr in_xs ↦ contains_tail x m (merge xs ys) ((rest m).1 (inl in_xs)) ]
        | inr in_ys ↦ contains_tail x m (merge xs ys) ((rest m).1 (inr in_ys))
      ],
    ))
    (λ x y xs ys is rest m. (
      λ has. elim (contains_cases y m (merge (x ∷ xs) ys) has) [
        | inl same ↦ inr (here y m ys same)
        | inr later ↦ elim ((rest m).0 later) [ inl in_xs ↦ inl in_xs | inr in_ys ↦ inr (contains_tail y m ys in_ys) ]
      ],
      λ of. elim of [
        | inl in_xs ↦ contains_tail y m (merge (x ∷ xs) ys) ((rest m).1 (inl in_xs))
        | inr has ↦
            elim (contains_cases y m ys has) [
              | inl same ↦ here y m (merge (x ∷ xs) ys) same
              | inr in_ys ↦ contains_tail y m (merge (x ∷ xs) ys) ((rest m).1 (inr in_ys))
            ]
      ],
    ))

-- ---- their order

below_first : (x : Member) (xs ys : List Member) → IsFirst x ys → Rises member_cmp ys → AreApart (x ∷ xs) ys → IsBelow member_cmp x ys
below_first x xs [] is rise apart m has = absurd (contains_none m has)
below_first x xs (y ∷ ys) is rise apart m has =
    let before = is_before (member_cmp x y) (member_cmp y x) (member_total.antisymm x y) is (apart x y (contains_head x xs) (contains_head y ys)) in
    elim (contains_cases y m ys has) [
      | inl same ↦ subst (λ (z : Member). member_cmp x z ≡ Less) same before
      | inr later ↦ member_total.trans x y m before (rise.0 m later)
    ]

below_second : (x y : Member) (xs : List Member) → is_lt (member_cmp y x) ≡ true → Rises member_cmp (x ∷ xs) → IsBelow member_cmp y (x ∷ xs)
below_second x y xs is rise m has =
    let before = less_of (member_cmp y x) is in
    elim (contains_cases x m xs has) [
      | inl same ↦ subst (λ (z : Member). member_cmp y z ≡ Less) same before
      | inr later ↦ member_total.trans y x m before (rise.0 m later)
    ]

below_both : (x : Member) (xs ys : List Member) → IsBelow member_cmp x xs → IsBelow member_cmp x ys → IsBelow member_cmp x (merge xs ys)
below_both x xs ys below_xs below_ys m has = elim ((merge_members xs ys m).0 has) [ inl in_xs ↦ below_xs m in_xs | inr in_ys ↦ below_ys m in_ys ]

pub merge_rises : (xs ys : List Member) → Rises member_cmp xs → Rises member_cmp ys → AreApart xs ys → Rises member_cmp (merge xs ys)
merge_rises = merge_holds (λ xs ys zs. Rises member_cmp xs → Rises member_cmp ys → AreApart xs ys → Rises member_cmp zs)
    (λ ys rise_xs rise_ys apart. rise_ys)
    (λ x xs ys is rest rise_xs rise_ys apart. (
      below_both x xs ys rise_xs.0 (below_first x xs ys is rise_ys apart),
      rest rise_xs.1 rise_ys (λ a b in_xs in_ys. apart a b (contains_tail x a xs in_xs) in_ys),
    ))
    (λ x y xs ys is rest rise_xs rise_ys apart. (
      below_both y (x ∷ xs) ys (below_second x y xs is rise_xs) rise_ys.0,
      rest rise_xs rise_ys.1 (λ a b in_xs in_ys. apart a b in_xs (contains_tail y b ys in_ys)),
    ))

-- ---- their places

module _ (xs ys : List Member) where
  pub merge_bucket : (path : Path) → HasBucket xs path → HasBucket (merge xs ys) path
  merge_bucket path (inl root) = inl root
  merge_bucket path (inr (sequence, has)) = inr (sequence, (merge_members xs ys (path, _)).1 (inl has))

  pub merge_parents : HaveParents xs xs → HaveParents (merge xs ys) ys → HaveParents (merge xs ys) (merge xs ys)
  merge_parents of_xs of_ys m has = elim ((merge_members xs ys m).0 has) [
    | inl in_xs ↦ let (above, key, path, bucket) = of_xs m in_xs in (above, key, path, merge_bucket above bucket)
    | inr in_ys ↦ of_ys m in_ys
  ]
