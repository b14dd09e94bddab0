-- Elements of lists by their places, and lists that are cut at one of them.
use Rattle.std.proofs.Common.{List, Some, [], ap, append_assoc, arith, drop, flat_map, get_or, inl, inr, length, length-append, map, option_map, refl}
use Rattle.std.proofs.Common.{slice_get, slice_index_or, suc, sym, take, zero, ℕ, ◌++◌, ◌+◌, ◌-◌, ◌<◌, ◌∙◌, ◌∷◌, ◌≡◌, ◌≢◌, ◌≤◌}
use Rattle.std.proofs.Math.Seq.{drop-append_seam, take-append-add}
use Rattle.std.proofs.lemmas.Grind.{common_steps}
use Rattle.std.proofs.lemmas.List.{drop-drop, drop-take, drop_more, get_or_default, length-drop, length-take-le, length_push, take-append-drop}
use Rattle.std.proofs.lemmas.List.Folds.{concat-append}
use Rattle.std.proofs.lemmas.Option.{none-some, slice_get-get_or, slice_get-map, slice_get_within}
use Rattle.std.specs.List.{concat, slice_range}
use Rattle.bolt_lemmas.specs.Lists.{Has}

module _ {X : Type 0} where
  pub get_exists : (xs : List X) (k : ℕ) → k < length xs → (x : X) × (slice_get xs k ≡ Some x)
  get_exists [] k h = absurd (omega arith)
  get_exists (x ∷ xs) zero h = (x, refl)
  get_exists (x ∷ xs) (suc k) h = get_exists xs k (omega arith)

  -- what stands before a member
  pub get_before : (xs : List X) (k l : ℕ) (x : X) → k < l → slice_get xs l ≡ Some x → (y : X) × (slice_get xs k ≡ Some y)
  get_before xs k l x h g = let within = slice_get_within xs l x g in get_exists xs k (omega (arith, h, within))

  -- an element of two lists, one after the other
  pub get_behind : (xs ys : List X) (n k : ℕ) → n ≡ length xs + k → slice_get (xs ++ ys) n ≡ slice_get ys k
  get_behind (x ∷ xs) ys (suc n) k e = get_behind xs ys n k (omega arith)
  get_behind xs ys n k e = grind arith

  pub get_front : (xs ys : List X) (k : ℕ) (x : X) → slice_get xs k ≡ Some x → slice_get (xs ++ ys) k ≡ Some x
  get_front (y ∷ xs) ys (suc k) x g = get_front xs ys k x g
  get_front xs ys k x g = grind (arith, none-some)

  pub drop_front : (xs ys : List X) (n : ℕ) → n ≡ length xs → drop n (xs ++ ys) ≡ ys
  drop_front xs ys n e = rw e (drop-append_seam xs ys)

  -- elements by place
  pub get_drop : (xs : List X) (n : ℕ) → slice_get xs n ≡ slice_get (drop n xs) 0
  get_drop (x ∷ xs) (suc n) = get_drop xs n
  get_drop xs n = grind (arith, common_steps)

  pub get_next : (xs : List X) (n : ℕ) (x : X) (ys : List X) → drop n xs ≡ x ∷ ys → slice_get xs n ≡ Some x
  get_next xs n x ys e = get_drop xs n ∙ ap (λ (l : List X). slice_get l 0) e

  pub take_get : (xs : List X) (i j : ℕ) (x : X) → slice_get (take i xs) j ≡ Some x → (slice_get xs j ≡ Some x) × (j < i)
  take_get (y ∷ xs) (suc i) (suc j) x g = let r = take_get xs i j x g in let l = r.1 in (r.0, omega (arith, l))
  take_get xs i j x g = grind (arith, common_steps, none-some)

  pub drop_get : (xs : List X) (i j m : ℕ) (x : X) → m ≡ i + j → slice_get (drop i xs) j ≡ Some x → slice_get xs m ≡ Some x
  drop_get (y ∷ xs) (suc i) j (suc m) x e g = drop_get xs i j m x (omega arith) g
  drop_get xs i j m x e g = grind (arith, common_steps, none-some)

  pub has_cut : (xs : List X) (x : X) → Has xs x → (left : List X) × (right : List X) × (xs ≡ left ++ (x ∷ right))
  has_cut [] x h = absurd h
  has_cut (y ∷ xs) x (inl e) = ([], xs, ap (λ (z : X). z ∷ xs) e)
  has_cut (y ∷ xs) x (inr h) = let r = has_cut xs x h in (y ∷ r.0, r.1, ap (λ (l : List X). y ∷ l) r.2)

  -- of two places in one list, the one that comes first, and what lies between
  pub first_cut : (a b c d : List X) (x y : X) → a ++ (x ∷ b) ≡ c ++ (y ∷ d) → length a < length c → Has c x
  first_cut a b [] d x y e l = absurd (omega arith)
  first_cut [] b (z ∷ c) d x y e l = let same : x ≡ z = cc in inl (sym same)
  first_cut (w ∷ a) b (z ∷ c) d x y e l = let rest : a ++ (x ∷ b) ≡ c ++ (y ∷ d) = cc in inr (first_cut a b c d x y rest (omega arith))

  pub two_cuts : (a b c d : List X) (x y : X) → a ++ (x ∷ b) ≡ c ++ (y ∷ d) → length d ≤ length b
      → (between : List X) × (b ≡ between ++ d) × (a ++ x ∷ between ≡ c ++ y ∷ [])
  two_cuts [] b [] d x y e l = ([], cc, cc)
  two_cuts [] b (z ∷ c) d x y e l = grind (arith, append_assoc c (y ∷ []) d)
  two_cuts (w ∷ a) b [] d x y e l = grind (arith, length-append)
  two_cuts (w ∷ a) b (z ∷ c) d x y e l =
      let rest : a ++ (x ∷ b) ≡ c ++ (y ∷ d) = cc in
      let same : w ≡ z = cc in
      let r = two_cuts a b c d x y rest l in
      grind arith

-- what stands at a place
pub same_at : {X : Type 0} (xs : List X) (i : ℕ) (x y : X) → i < length xs → x ≡ slice_index_or xs i x → y ≡ slice_index_or xs i y → x ≡ y
same_at xs i x y below is also = is ∙ get_or_default xs i x y below ∙ sym also

pub here_at : {X : Type 0} (xs : List X) (i : ℕ) → i < length xs → (x : X) × (drop i xs ≡ x ∷ drop (i + 1) xs)
here_at [] i below = absurd (omega arith)
here_at (d ∷ xs) i below = (slice_index_or (d ∷ xs) i d, drop_more (d ∷ xs) i d below)

-- the view of an element
pub view_at : {X Y : Type 0} (view : X → Y) (xs : List X) (i : ℕ) (x : X) → i < length xs → x ≡ get_or xs i x → slice_get (map view xs) i ≡ Some (view x)
view_at view xs i x within is = slice_get-map view xs i ∙ ap (option_map view) (slice_get-get_or xs i x within) ∙ ap (λ y. Some (view y)) (sym is)

-- the last of a list is taken off
last_off : {X : Type 0} (all rest : List X) (x : X) → 0 < length all → x ≡ get_or all (length all - 1) x
    → rest ≡ take (length all - 1) all ++ drop (length all - 1 + 1) all → all ≡ rest ++ x ∷ []
last_off [] rest x some at off = absurd (omega arith)
last_off (y ∷ []) rest x some at off = rw (off, at) refl
last_off {X} (y ∷ z ∷ all) rest x some at off = let others = last_off (z ∷ all) in grind (arith, others)

pub last_off_at : {X : Type 0} (n : ℕ) (all rest : List X) (x : X) → n ≡ length all → 0 < length all → x ≡ get_or all (n - 1) x
    → rest ≡ take (n - 1) all ++ drop (n - 1 + 1) all → all ≡ rest ++ x ∷ []
last_off_at n all rest x count some is off = last_off all rest x some (rw count at is) (rw count at off)

pub none_left : {X : Type 0} (items rest : List X) (n : ℕ) → n ≡ 0 → rest ≡ take (n - 1) items → items ≡ rest ++ [] → items ≡ []
none_left items rest n z r e = grind arith

pub one_only : {A : Type 0} (xs : List A) → length xs ≡ 1 → (x : A) × (xs ≡ x ∷ [])
one_only [] one = absurd (omega (arith, one))
one_only (x ∷ []) one = (x, refl)
one_only (x ∷ y ∷ xs) one = absurd (omega (arith, one))

pub length_some : {X : Type 0} (xs : List X) → xs ≢ [] → 0 < length xs
length_some [] some = absurd (some refl)
length_some (x ∷ xs) some = omega arith

pub append_none : {X : Type 0} (xs ys : List X) → xs ++ ys ≡ [] → (xs ≡ []) × (ys ≡ [])
append_none [] ys e = (refl, e)
append_none (x ∷ xs) ys e = absurd (cc)

pub not_nil : {A : Type 0} (xs : List A) (x : A) → xs ++ x ∷ [] ≡ [] → ⊥
not_nil xs x e = let f = ap length e in grind (arith, length_push)

-- the next element of those that are left
pub next_is : {X : Type 0} (xs : List X) (i : ℕ) (x : X) → i < length xs → x ≡ get_or xs i x → drop i xs ≡ x ∷ drop (i + 1) xs
next_is xs i x h is = drop_more xs i x h ∙ ap (λ y. y ∷ drop (i + 1) xs) (sym is)

-- a range, and what follows it
pub range_there : (bytes : List ℕ) (a b : ℕ) → a ≤ b → drop a bytes ≡ slice_range bytes a b ++ drop b bytes
range_there bytes a b h =
    let end : a + (b - a) ≡ b = omega arith in
    sym (take-append-drop (b - a) (drop a bytes))
    ∙ ap (λ (xs : List ℕ). slice_range bytes a b ++ xs) (drop-drop (b - a) a bytes ∙ ap (λ (k : ℕ). drop k bytes) end)

pub length-range : (bytes : List ℕ) (a b : ℕ) → b ≤ length bytes → length (slice_range bytes a b) ≡ b - a
length-range bytes a b h = let left = length-drop a bytes in length-take-le (b - a) (drop a bytes) (omega (arith, left))

-- a part before the cut is there
pub cut_front : (file part rest : List ℕ) (at n : ℕ) → drop at file ≡ part ++ rest → at + length part ≤ n
    → drop at (take n file) ≡ part ++ take (n - (at + length part)) rest
cut_front file part rest at n h within =
    let k : ℕ = n - (at + length part) in
    let total : n ≡ at + (length part + k) = omega arith in
    ap (λ (m : ℕ). drop at (take m file)) total
    ∙ (drop-take at (length part + k) file ∙ (ap (λ (xs : List ℕ). take (length part + k) xs) h ∙ take-append-add part rest k))

pub concat_three : (a b c : List (List ℕ)) → concat a ++ (concat b ++ concat c) ≡ concat (a ++ (b ++ c))
concat_three a b c = ap (λ (text : List ℕ). concat a ++ text) (sym (concat-append b c)) ∙ sym (concat-append a (b ++ c))

-- what is made of the elements from a place on
pub flat_from : {X Y Z : Type 0} (line : Y → List Z) (view : X → Y) (xs : List X) (i : ℕ) (d : X) → i < length xs
    → flat_map line (map view (drop i xs)) ≡ line (view (get_or xs i d)) ++ flat_map line (map view (drop (i + 1) xs))
flat_from {X} line view xs i d within = ap (λ (l : List X). flat_map line (map view l)) (drop_more xs i d within)

pub flat_at : {X Y Z : Type 0} (line : Y → List Z) (view : X → Y) (xs : List X) (i : ℕ) (x : X) → i < length xs → x ≡ get_or xs i x
    → flat_map line (map view (drop i xs)) ≡ line (view x) ++ flat_map line (map view (drop (i + 1) xs))
flat_at {X} line view xs i x within is =
    flat_from line view xs i x within ∙ ap (λ (y : X). line (view y) ++ flat_map line (map view (drop (i + 1) xs))) (sym is)
