-- The order of paths, part by part: what comes after a path, and where.
-- Rests on the order of keys, which is total, and in which only equal keys are tied.
use Rattle.std.proofs.Common.{arith, ◌≡◌, ◌⊎◌, inl, Bool, true, false, List, [], ◌∷◌, ◌++◌, refl}
use Rattle.std.proofs.lemmas.Map.Lookups.{exact_bytes}
use Rattle.bolt_lemmas.proofs.Exports.{lists_exact}
use Rattle.bolt_tree.proofs.Words.{Equal, Greater, IsTotalOrder, Key, Less, Ordering, Path, by_first, is_beyond, key_cmp, lists_total}
use Rattle.bolt_tree.proofs.Words.{nat_list_cmp_total, ordering_then, path_cmp, tied_itself}
use Rattle.std.specs.{Borrow.Bor, Cmp.Derive.Mapped.lex_map, Cmp.Lexicographic.slice_cmp}
use Rattle.bolt_tree.specs.Paths.{path_of}

pub key_total : IsTotalOrder key_cmp
key_total = nat_list_cmp_total

pub path_total : IsTotalOrder path_cmp
path_total = lists_total nat_list_cmp_total

-- paths that the code holds as slices
pub slices_cmp : (xs ys : List (Bor Key)) → path_cmp (path_of xs) (path_of ys) ≡ slice_cmp (λ (a b : Bor Key). key_cmp a.now b.now) xs ys
slices_cmp = lex_map (λ (part : Bor Key). part.now) key_cmp

pub key_exact : (a b : Key) → key_cmp a b ≡ Equal → a ≡ b
key_exact a b e = exact_bytes a b e

pub path_exact : (a b : Path) → path_cmp a b ≡ Equal → a ≡ b
path_exact a b e = lists_exact key_cmp key_exact a b e

pub key_same : (a : Key) → key_cmp a a ≡ Equal
key_same a = tied_itself key_total a

pub path_same : (a : Path) → path_cmp a a ≡ Equal
path_same a = tied_itself path_total a

-- a path stands before those that it begins
pub before_longer : (p : Path) (k : Key) (r : Path) → path_cmp p (p ++ k ∷ r) ≡ Less
before_longer [] k r = refl
before_longer (x ∷ p) k r = rw key_same (before_longer p k r)

-- what two paths begin with does not matter
pub same_front : (p s t : Path) → path_cmp (p ++ s) (p ++ t) ≡ path_cmp s t
same_front [] s t = refl
same_front (x ∷ p) s t = rw key_same (same_front p s t)

-- what stands behind a path stands beyond it, or begins with it
by_parts : (x y : Key) (p q : Path) (o : Ordering) → key_cmp x y ≡ o → ordering_then o (path_cmp p q) ≡ Less
    → (path_cmp p q ≡ Less → (is_beyond p q ≡ true) ⊎ ((k : Key) × (r : Path) × (q ≡ p ++ k ∷ r)))
    → (by_first o (is_beyond p q) ≡ true) ⊎ ((k : Key) × (r : Path) × (y ∷ q ≡ (x ∷ p) ++ k ∷ r))
by_parts x y p q Less e h more = inl refl
by_parts x y p q Equal e h more = grind (arith, key_exact x y e)
by_parts x y p q Greater e h more = absurd (let f : Greater ≡ Less = h in cc)

pub beyond_or_longer : (p q : Path) → path_cmp p q ≡ Less → (is_beyond p q ≡ true) ⊎ ((k : Key) × (r : Path) × (q ≡ p ++ k ∷ r))
beyond_or_longer (x ∷ p) (y ∷ q) e = by_parts x y p q (key_cmp x y) refl e (beyond_or_longer p q)
beyond_or_longer p q e = grind arith

-- what stands beyond a path stands behind all that it begins
first_less : (o r : Ordering) (b : Bool) → by_first o b ≡ true → (b ≡ true → r ≡ Less) → ordering_then o r ≡ Less
first_less o r b e more = grind arith

pub beyond_less : (p s q : Path) → is_beyond p q ≡ true → path_cmp (p ++ s) q ≡ Less
beyond_less (x ∷ p) s (y ∷ q) e = first_less (key_cmp x y) (path_cmp (p ++ s) q) (is_beyond p q) e (beyond_less p s q)
beyond_less p s q e = grind arith

-- beyond a path of one part more: beyond the path, or with a greater part in that place
by_last : (x y : Key) (p q : Path) (k : Key) (o : Ordering) → key_cmp x y ≡ o → by_first o (is_beyond (p ++ k ∷ []) q) ≡ true
    → (is_beyond (p ++ k ∷ []) q ≡ true → (is_beyond p q ≡ true) ⊎ ((z : Key) × (r : Path) × (q ≡ p ++ z ∷ r) × (key_cmp k z ≡ Less)))
    → (by_first o (is_beyond p q) ≡ true) ⊎ ((z : Key) × (r : Path) × (y ∷ q ≡ (x ∷ p) ++ z ∷ r) × (key_cmp k z ≡ Less))
by_last x y p q k Less e h more = inl refl
by_last x y p q k Equal e h more = grind (arith, key_exact x y e)
by_last x y p q k Greater e h more = absurd (let f : false ≡ true = h in cc)

only_less : (k y : Key) (o : Ordering) → key_cmp k y ≡ o → by_first o false ≡ true → key_cmp k y ≡ Less
only_less k y o e h = grind arith

pub beyond_push : (p : Path) (k : Key) (q : Path) → is_beyond (p ++ k ∷ []) q ≡ true
    → (is_beyond p q ≡ true) ⊎ ((z : Key) × (r : Path) × (q ≡ p ++ z ∷ r) × (key_cmp k z ≡ Less))
beyond_push (x ∷ p) k (y ∷ q) e = by_last x y p q k (key_cmp x y) refl e (beyond_push p k q)
beyond_push p k q e = grind (arith, only_less)

-- and back
pub beyond_here : (p : Path) (k z : Key) (s r : Path) → key_cmp k z ≡ Less → is_beyond (p ++ k ∷ s) (p ++ z ∷ r) ≡ true
beyond_here [] k z s r e = rw e refl
beyond_here (x ∷ p) k z s r e = rw key_same (beyond_here p k z s r e)

first_more : (o : Ordering) (a b : Bool) → by_first o a ≡ true → (a ≡ true → b ≡ true) → by_first o b ≡ true
first_more o a b e more = grind arith

-- beyond a path is beyond all that it begins
pub beyond_longer : (p s q : Path) → is_beyond p q ≡ true → is_beyond (p ++ s) q ≡ true
beyond_longer (x ∷ p) s (y ∷ q) e = first_more (key_cmp x y) (is_beyond p q) (is_beyond (p ++ s) q) e (beyond_longer p s q)
beyond_longer p s q e = grind arith

-- and what stands behind that is beyond the path too
chain : (x y z : Key) (p q t : Path) (o r : Ordering) → key_cmp x y ≡ o → key_cmp y z ≡ r → by_first o (is_beyond p q) ≡ true
    → ordering_then r (path_cmp q t) ≡ Less → (is_beyond p q ≡ true → path_cmp q t ≡ Less → is_beyond p t ≡ true)
    → by_first (key_cmp x z) (is_beyond p t) ≡ true
chain x y z p q t Less Less e f h g more = rw (key_total.trans x y z e f) refl
chain x y z p q t Less Equal e f h g more = let same = key_exact y z f in rw (← same) (rw e refl)
chain x y z p q t Equal Less e f h g more = let same = key_exact x y e in rw same (rw f refl)
chain x y z p q t Equal Equal e f h g more = rw (key_total.congr x y z e) (rw f (more h g))
chain x y z p q t o r e f h g more = absurd (cc)

pub beyond_up : (p q t : Path) → is_beyond p q ≡ true → path_cmp q t ≡ Less → is_beyond p t ≡ true
beyond_up (x ∷ p) (y ∷ q) (z ∷ t) e h = chain x y z p q t (key_cmp x y) (key_cmp y z) refl refl e h (beyond_up p q t)
beyond_up p q t e h = grind arith
