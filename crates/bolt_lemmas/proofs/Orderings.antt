-- What orderings say, two one after the other too, and total orders.
use Rattle.std.proofs.Common.{List, ap, arith, false, refl, true, ◌&&◌, ◌∙◌, ◌∷◌, ◌≡◌, ◌≢◌}
use Rattle.std.proofs.lemmas.Cmp.{tied_itself}
use Rattle.std.specs.Cmp.{IsTotalOrder}
use Rattle.std.specs.Cmp.Lexicographic.{slice_cmp}
use Rattle.std.specs.Ordering.{is_eq, is_lt, ordering_reverse, ordering_then}
use Rattle.std.specs.declared.cmp.Ordering.{Ordering}
use Rattle.std.specs.declared.cmp.Ordering.TheVariants.{Equal, Greater, Less}

pub less_of : (o : Ordering) → is_lt o ≡ true → o ≡ Less
less_of o e = grind arith

pub lt_of : (o : Ordering) → o ≡ Less → is_lt o ≡ true
lt_of o e = rw e refl

pub not_lt_of : (o : Ordering) → o ≡ Greater → is_lt o ≡ false
not_lt_of o e = rw e refl

pub neither : (o : Ordering) → is_lt o ≡ false → is_lt (ordering_reverse o) ≡ false → o ≡ Equal
neither o up down = grind arith

-- the first part decides
pub first_decides : (o : Ordering) → ordering_then o Equal ≡ Less → o ≡ Less
first_decides o e = grind arith

pub equal_from : (o : Ordering) → is_eq o ≡ true → o ≡ Equal
equal_from o is = grind arith

pub not_less : (o : Ordering) → o ≢ Less → is_lt o ≡ false
not_less o differs = grind arith

-- x comes before y, if y doesn't come before it and they aren't tied
pub is_before : (a b : Ordering) → a ≡ ordering_reverse b → is_lt b ≡ false → a ≢ Equal → a ≡ Less
is_before a b back not apart = grind arith

then_equal : (a b : Ordering) → ordering_then a b ≡ Equal → (a ≡ Equal) × (b ≡ Equal)
then_equal a b e = grind arith

pub second_equal : (o p : Ordering) → ordering_then o p ≡ Equal → p ≡ Equal
second_equal o p e = grind arith

pub first_less : (a b : Ordering) → is_lt (ordering_then a b) ≡ false → is_lt a ≡ false
first_less a b e = grind arith

pub decided : (o p : Ordering) → (o ≡ Equal → ⊥) → ordering_then o p ≡ o
decided o p differ = grind arith

pub then_apart : (a b : Ordering) → b ≡ Less → is_eq (ordering_then a b) ≡ false
then_apart a b less = grind arith

pub number_less : (o p q : Ordering) → ordering_then o p ≡ Less → ordering_then o (ordering_then p q) ≡ Less
number_less o p q is = grind arith

pub both_tied : (a b : Ordering) → is_eq (ordering_then a b) ≡ (is_eq a && is_eq b)
both_tied a b = grind arith

pub then_not_above : (o later : Ordering) → ordering_then o later ≡ Less → is_lt (ordering_reverse o) ≡ false
then_not_above o later e = grind arith

pub then_less : (o r : Ordering) (after : Ordering) → ordering_then o r ≡ Less → (r ≡ Less → after ≡ Less) → ordering_then o after ≡ Less
then_less o r after less further = grind arith

pub greater_part : (o r : Ordering) → is_lt o ≡ false → (o ≡ Equal → is_lt r ≡ false) → is_lt (ordering_then o r) ≡ false
greater_part o r e more = grind arith

pub lists_exact : {K : Type 0} (R : K → K → Ordering) → ((x y : K) → R x y ≡ Equal → x ≡ y) → (xs ys : List K) → slice_cmp R xs ys ≡ Equal → xs ≡ ys
lists_exact R exact (x ∷ xs) (y ∷ ys) e =
    let both = then_equal (R x y) (slice_cmp R xs ys) e in
    let first = exact x y both.0 in
    let later = lists_exact R exact xs ys both.1 in cc
lists_exact R exact xs ys e = grind arith

-- the answer the other way round
pub flip_less : {K : Type 0} {R : K → K → Ordering} → IsTotalOrder R → (a b : K) → R a b ≡ Less → R b a ≡ Greater
flip_less {R = R} o a b e = o.antisymm b a ∙ ap ordering_reverse e

-- nothing stands before itself
pub irreflexive : {A : Type 0} {cmp : A → A → Ordering} → IsTotalOrder cmp → (x : A) → cmp x x ≡ Less → ⊥
irreflexive o x e = let same = tied_itself o x in cc

pub asymmetric : {A : Type 0} {cmp : A → A → Ordering} → IsTotalOrder cmp → (x y : A) → cmp x y ≡ Less → cmp y x ≡ Less → ⊥
asymmetric o x y e f = irreflexive o x (o.trans x y x e f)
