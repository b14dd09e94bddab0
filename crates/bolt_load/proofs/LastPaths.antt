-- The buckets of the members so far in which a further member may be are those of the last path: paths rise, and each has its bucket before it.
use Rattle.std.proofs.Common.{rules, ◌≡◌, ◌∙◌, ◌⊎◌, inl, inr, ◌<◌, ◌+◌, ◌-◌, ◌==◌, ◌||◌, Bool, true, false, List, [], ◌∷◌, ◌++◌, Some, length, take}
use Rattle.std.proofs.Common.{drop, slice_get, refl, sym, ap, subst, arith, append_assoc, append-nil, length-append, length-drop}
use Rattle.std.proofs.{lemmas.Grind.common_steps, lemmas.Bool.or_cases, lemmas.List.Folds.list_any-append, lemmas.Slice.Eq.slice_eq-Decides}
use Rattle.std.proofs.{Math.Seq.take-append-add}
use Rattle.std.specs.Cmp.Lexicographic.{pointwise}
use Rattle.std.specs.Prelude.{nat_lt}
use Rattle.std.proofs.lemmas.Bool.{or_left, or_right}
use Rattle.bolt_lemmas.proofs.Exports.{asymmetric, get_behind, has_any, one_only, same_bool}
use Rattle.bolt_load.proofs.Words.{and_parts, begins_of, begins_with, bytes_eq, bytes_eq-Decides, fault_after, order_fault, Has, has_bucket}
use Rattle.bolt_load.proofs.Words.{has_split, is_above_last, is_bucket, is_lt, is_open, Item, Key, Less, less_of, list_any, Member, nat_tests}
use Rattle.bolt_load.proofs.Words.{option_map_or, Path, path_above, path_cmp, path_total, place_fault, take-append-drop}
use Rattle.bolt_tree.specs.ListingParts.{is_bucket_at}
use Rattle.bolt_tree.proofs.Exports.{begins_by, beyond_less, beyond_or_longer}

-- ---- tests

same_path : (a b : Path) → pointwise bytes_eq a b ≡ true → a ≡ b
same_path a b = (slice_eq-Decides bytes_eq-Decides a b (pointwise bytes_eq a b) refl).0

pub path_itself : (path : Path) → pointwise bytes_eq path path ≡ true
path_itself path = (slice_eq-Decides bytes_eq-Decides path path (pointwise bytes_eq path path) refl).1 refl

-- ---- the bucket above a path

pub split_last : (path : Path) → 0 < length path → (key : Key) × (path ≡ path_above path ++ key ∷ [])
split_last path some =
    let n = length path - 1 in
    let many = length-drop n path in
    let one : length (drop n path) ≡ 1 = omega (arith, many, some) in
    let found = one_only (drop n path) one in
    (found.0, sym (take-append-drop n path) ∙ ap (λ more. take n path ++ more) found.1)

pub above_append : (front rest : Path) → 0 < length rest → path_above (front ++ rest) ≡ front ++ path_above rest
above_append front rest some =
    let l = length-append front rest in
    let n : length (front ++ rest) - 1 ≡ length front + (length rest - 1) = omega (arith, l, some) in
    ap (λ n. take n (front ++ rest)) n ∙ take-append-add front rest (length rest - 1)

longer_open : (last above : Path) (bucket : Bool) (key : Key) (rest : Path) → last ≡ above ++ key ∷ rest → is_open last bucket above ≡ true
longer_open last above bucket key rest is = grind (arith, common_steps, begins_by, key, length-append, nat_lt, nat_tests)

same_open : (last above : Path) (bucket : Bool) → last ≡ above → bucket ≡ true → is_open last bucket above ≡ true
same_open last above bucket same is =
    cc (begins_by above last [] (same ∙ sym (append-nil above)), append-nil above, or_right (nat_lt (length above) (length last)) bucket is)

-- ---- the last of the members so far

pub record IsLast (before : List Member) (last : Path) (bucket : Bool) : Type 0 where
  pub most : (member : Member) → Has before member → (path_cmp member.0 last ≡ Less) ⊎ ((member.0 ≡ last) × (is_bucket member.1 ≡ bucket))
  pub opens : (above : Path) → is_open last bucket above ≡ true → has_bucket above before ≡ true
  pub above : (path : Path) → 0 < length path → is_above_last before path ≡ is_lt (path_cmp last path)
  pub root : last ≡ [] → bucket ≡ true

none_opens : (above : Path) → is_open [] true above ≡ true → has_bucket above [] ≡ true
none_opens [] goes = refl
none_opens (key ∷ above) goes = absurd (none_begins key above ((and_parts (begins_with (key ∷ above) []) (nat_lt (length (key ∷ above)) 0 || true) goes).0))
  where
    none_begins : (key : Key) (above : Path) → begins_with (key ∷ above) [] ≡ true → ⊥
    none_begins key above begins = let is : [] ≡ (key ∷ above) ++ drop (length (key ∷ above)) [] = begins_of (key ∷ above) [] begins in cc

none_above : (path : Path) → 0 < length path → is_above_last [] path ≡ is_lt (path_cmp [] path)
none_above path some = grind arith

pub none_last : IsLast [] [] true
none_last = record { most = λ member has. absurd has; opens = none_opens; above = none_above; root = λ none. refl }

module _ (before : List Member) (last : Path) (bucket : Bool) (is : IsLast before last bucket) where
  module _ (above : Path) (key : Key) (less : path_cmp last (above ++ key ∷ []) ≡ Less) where
    member_open : (member : Member) → Has before member → is_bucket_at above member ≡ true → is_open last bucket above ≡ true
    member_open member has at =
        let parts = and_parts (pointwise bytes_eq member.0 above) (is_bucket member.1) at in
        let same : member.0 ≡ above = same_path member.0 above parts.0 in
        elim (is.most member has) [
          | inl earlier ↦
              elim (beyond_or_longer above last (sym (ap (λ path. path_cmp path last) same) ∙ earlier)) [
                | inl beyond ↦ absurd (asymmetric path_total (above ++ key ∷ []) last (beyond_less above (key ∷ []) last beyond) less)
                | inr (k, r, longer) ↦ longer_open last above bucket k r longer
              ]
          | inr (here, kind) ↦ same_open last above bucket (sym here ∙ same) (sym kind ∙ parts.1)
        ]

    root_open : above ≡ [] → is_open last bucket above ≡ true
    root_open none = at last refl
      where
        at : (path : Path) → last ≡ path → is_open last bucket above ≡ true
        at [] here = same_open last above bucket (here ∙ sym none) (is.root here)
        at (k ∷ r) here = longer_open last above bucket k r (here ∙ sym (ap (λ above. above ++ k ∷ r) none))

    empty_is : (path : Path) → (length path == 0) ≡ true → path ≡ []
    empty_is [] zero = refl
    empty_is (k ∷ r) zero = absurd (let some : (length (k ∷ r) == 0) ≡ false = grind (arith, nat_tests) in cc)

    bucket_open : has_bucket above before ≡ true → is_open last bucket above ≡ true
    bucket_open has = search (rules, or_cases, list_any, is_bucket_at, root_open, empty_is, has_any, member_open)

    open_same : has_bucket above before ≡ is_open last bucket above
    open_same = same_bool (has_bucket above before) (is_open last bucket above) bucket_open (is.opens above)

  module _ (path : Path) (some : 0 < length path) where
    key : Key
    key = (split_last path some).0

    pub path_open : path_cmp last path ≡ Less → has_bucket (path_above path) before ≡ is_open last bucket (path_above path)
    path_open less = open_same (path_above path) (split_last path some).0 (sym (ap (path_cmp last) (split_last path some).1) ∙ less)

    pub place_same : (item : Item) → place_fault before (path, item) ≡ fault_after last bucket path
    place_same item = at (is_lt (path_cmp last path)) refl
      where
        at : (less : Bool) → is_lt (path_cmp last path) ≡ less → place_fault before (path, item) ≡ fault_after last bucket path
        at true less =
            ap (λ b. order_fault b (has_bucket (path_above path) before)) (is.above path some)
            ∙ ap (order_fault (is_lt (path_cmp last path))) (path_open (less_of (path_cmp last path) less))
        at false less =
            ap (λ b. order_fault b (has_bucket (path_above path) before)) (is.above path some ∙ less)
            ∙ sym (ap (λ b. order_fault b (is_open last bucket (path_above path))) less)

-- ---- one member more

pub has_more : (path : Path) (before more : List Member) → has_bucket path before ≡ true → has_bucket path (before ++ more) ≡ true
has_more path before more has = grind (arith, common_steps, or_cases, list_any, is_bucket_at, or_left, or_right)

pub has_new : (path : Path) (item : Item) (before : List Member) → is_bucket item ≡ true → has_bucket path (before ++ (path, item) ∷ []) ≡ true
has_new path item before kind = search (rules, is_bucket_at, is_bucket, path_itself, or_right, list_any, list_any-append, or_left)

last_of : (before : List Member) (member : Member) → slice_get (before ++ member ∷ []) (length (before ++ member ∷ []) - 1) ≡ Some member
last_of before member =
    let l = length-append before (member ∷ []) in
    get_behind before (member ∷ []) (length (before ++ member ∷ []) - 1) 0 (omega (arith, l))

module _ (before : List Member) (last : Path) (bucket : Bool) (is : IsLast before last bucket) (path : Path) (item : Item) (some : 0 < length path)
    (less : path_cmp last path ≡ Less) (has : has_bucket (path_above path) before ≡ true) where
  now_most : (member : Member) → Has (before ++ (path, item) ∷ []) member
      → (path_cmp member.0 path ≡ Less) ⊎ ((member.0 ≡ path) × (is_bucket member.1 ≡ is_bucket item))
  now_most member found = elim (has_split before ((path, item) ∷ []) member found) [
    | inl earlier ↦
        elim (is.most member earlier) [
          | inl below ↦ inl (path_total.trans member.0 last path below less)
          | inr (same, kind) ↦ inl (ap (λ p. path_cmp p path) same ∙ less)
        ]
    | inr (inl here) ↦ inr (sym (ap (λ (m : Member). m.0) here), sym (ap (λ (m : Member). is_bucket m.1) here))
    | inr (inr none) ↦ absurd none
  ]

  -- what the last path goes through, the path above the new one goes through too, or it is that
  below_above : (above : Path) (key : Key) (rest : Path) → path ≡ above ++ key ∷ rest → has_bucket above before ≡ true
  below_above above key rest split = at (path_above (key ∷ rest)) refl
    where
      at : (more : Path) → path_above (key ∷ rest) ≡ more → has_bucket above before ≡ true
      at [] none =
          let same : path_above path ≡ above =
          ap path_above split ∙ above_append above (key ∷ rest) (omega arith) ∙ ap (λ more. above ++ more) none ∙ append-nil above in
          sym (ap (λ p. has_bucket p before) same) ∙ has
      at (k ∷ r) one =
          let longer : path_above path ≡ above ++ k ∷ r =
          ap path_above split ∙ above_append above (key ∷ rest) (omega arith) ∙ ap (λ more. above ++ more) one in
          let goes = sym (path_open before last bucket is path some less) ∙ has in
          let begins =
          begins_of (path_above path) last
          (and_parts (begins_with (path_above path) last) (nat_lt (length (path_above path)) (length last) || bucket) goes).0 in
          let end = drop (length (path_above path)) last in
          is.opens above (longer_open last above bucket k (r ++ end) (begins ∙ ap (λ p. p ++ end) longer ∙ append_assoc above (k ∷ r) end))

  now_opens : (above : Path) → is_open path (is_bucket item) above ≡ true → has_bucket above (before ++ (path, item) ∷ []) ≡ true
  now_opens above goes =
      let parts = and_parts (begins_with above path) (nat_lt (length above) (length path) || is_bucket item) goes in
      at (drop (length above) path) (begins_of above path parts.0) parts.1
    where
      at : (rest : Path) → path ≡ above ++ rest → (nat_lt (length above) (length path) || is_bucket item) ≡ true
          → has_bucket above (before ++ (path, item) ∷ []) ≡ true
      at [] split kind =
          let same : path ≡ above = split ∙ append-nil above in
          let l = ap length same in
          let not_shorter : nat_lt (length above) (length path) ≡ false = grind (arith, nat_tests, l) in
          subst (λ (above : Path). has_bucket above (before ++ (path, item) ∷ []) ≡ true) same
          (has_new path item before (sym (ap (λ b. b || is_bucket item) not_shorter) ∙ kind))
      at (key ∷ rest) split kind = has_more above before ((path, item) ∷ []) (below_above above key rest split)

  pub next_last : IsLast (before ++ (path, item) ∷ []) path (is_bucket item)
  next_last = grind (arith, common_steps, now_most, now_opens, option_map_or, is_lt, path_cmp, last_of)
