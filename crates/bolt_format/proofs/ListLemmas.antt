-- The elements of a list up to one and from it on, and what an option holds, for the crates above too.
use Rattle.std.proofs.Common.{◌≡◌, ◌∙◌, ℕ, zero, suc, ◌+◌, List, [], ◌∷◌, Some, drop, slice_get, ap, arith, Option, sym, take, ◌++◌, append-nil}
use Rattle.std.proofs.Common.{flat_map, refl}
use Rattle.std.proofs.{Math.Seq.split_at, lemmas.Grind.flat_map-append, lemmas.Option.get_or_from_slice_get, lemmas.Option.none-some}
use Rattle.std.proofs.{lemmas.Option.same_Some, lemmas.Option.slice_get_within}

pub drop_at : {X : Type 0} (xs : List X) (i : ℕ) (x : X) → slice_get xs i ≡ Some x → drop i xs ≡ x ∷ drop (suc i) xs
drop_at [] i x e = absurd (none-some x e)
drop_at (y ∷ xs) zero x e = let same : y ≡ x = cc in ap (λ z. z ∷ xs) same
drop_at (y ∷ xs) (suc i) x e = drop_at xs i x e

-- the element with this number, and then the rest
pub drop_next : {X : Type 0} (xs : List X) (i : ℕ) (x : X) → slice_get xs i ≡ Some x → drop i xs ≡ x ∷ drop (i + 1) xs
drop_next xs i x e = drop_at xs i x e ∙ (let next : suc i ≡ i + 1 = omega arith in ap (λ j. x ∷ drop j xs) next)

pub take_next : {X : Type 0} (xs : List X) (i : ℕ) (x : X) → slice_get xs i ≡ Some x → take (suc i) xs ≡ take i xs ++ x ∷ []
take_next [] i x e = absurd (none-some x e)
take_next (y ∷ xs) zero x e = let same : y ≡ x = cc in rw same refl
take_next {X = X} (y ∷ xs) (suc i) x e = ap (λ (l : List X). y ∷ l) (take_next xs i x e)

pub one_some : {X : Type 0} (o : Option X) (x y : X) → o ≡ Some x → o ≡ Some y → x ≡ y
one_some o x y e h = same_Some x y (sym e ∙ h)

-- a list, cut around one of its elements
cut_at : {X : Type 0} (xs : List X) (i : ℕ) (x : X) → slice_get xs i ≡ Some x → xs ≡ take i xs ++ x ∷ drop (suc i) xs
cut_at xs i x found =
    split_at xs i x (slice_get_within xs i x found) ∙ ap (λ y. take i xs ++ y ∷ drop (suc i) xs) (get_or_from_slice_get xs i x x found)

pub flat_map-cut_at : {X Y : Type 0} (f : X → List Y) (xs : List X) (i : ℕ) (x : X) → slice_get xs i ≡ Some x
    → flat_map f xs ≡ flat_map f (take i xs) ++ (f x ++ flat_map f (drop (suc i) xs))
flat_map-cut_at f xs i x found = ap (flat_map f) (cut_at xs i x found) ∙ flat_map-append f (take i xs) (x ∷ drop (suc i) xs)

pub flat_map-take_more : {X Y : Type 0} (f : X → List Y) (xs : List X) (i : ℕ) (x : X) → slice_get xs i ≡ Some x
    → flat_map f (take (suc i) xs) ≡ flat_map f (take i xs) ++ f x
flat_map-take_more f xs i x found =
    ap (flat_map f) (take_next xs i x found) ∙ flat_map-append f (take i xs) (x ∷ []) ∙ ap (λ l. flat_map f (take i xs) ++ l) (append-nil (f x))
