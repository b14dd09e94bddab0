-- What a cursor's move says of the entry that it comes to.
use Rattle.std.proofs.Common.{◌≡◌, ◌≤◌, Bool, ℕ, suc, List, [], ◌∷◌, length, Option, Some, None, cond, nat_lt, slice_get, refl, arith}
use Rattle.std.proofs.lemmas.Bool.{ltb-false}
use Rattle.bolt_tree.proofs.Words.{Key, LeafElement, Move, On, Past, Place, first_move, least_from, next_move, nothing_at, move_onto}
use Rattle.bolt_tree.proofs.Words.{place_in, seek_move}

pub none_past : (entries : List LeafElement) (i : ℕ) → None ≡ slice_get entries i → length entries ≤ i
none_past (x ∷ entries) (suc i) e = let h = none_past entries i e in omega (arith, h)
none_past entries i e = grind arith

-- it comes to entry n, or returns nothing if there is none
abbrev pub ComesTo : List LeafElement → ℕ → Place → Option LeafElement → Type 0
ComesTo entries n place None = length entries ≤ n
ComesTo entries n place (Some g) = (place ≡ On n) × (slice_get entries n ≡ Some g)

pub by_length : (entries : List LeafElement) (n : ℕ) (stay place : Place) (o : Option LeafElement) (b : Bool) → nat_lt n (length entries) ≡ b
    → place ≡ (cond b (move_onto entries n) (nothing_at stay)).place → o ≡ (cond b (move_onto entries n) (nothing_at stay)).answer → ComesTo entries n place o
by_length entries n stay place o b t p a = grind (arith, none_past, ltb-false)

pub comes_next : (entries : List LeafElement) (i : ℕ) (e : LeafElement) (before place : Place) (o : Option LeafElement) → before ≡ On i
    → slice_get entries i ≡ Some e
    → (place_in entries place ≡ (next_move entries (place_in entries before)).place) × (o ≡ (next_move entries (place_in entries before)).answer)
    → ComesTo entries (suc i) place o
comes_next entries i e before place o on at h = grind (arith, by_length)

pub comes_first : (entries : List LeafElement) (place : Place) (o : Option LeafElement)
    → (place_in entries place ≡ (first_move entries).place) × (o ≡ (first_move entries).answer) → ComesTo entries 0 place o
comes_first entries place o h = grind arith

pub comes_from : (key : Key) (entries : List LeafElement) (place : Place) (o : Option LeafElement)
    → (place_in entries place ≡ (seek_move key entries).place) × (o ≡ (seek_move key entries).answer) → ComesTo entries (least_from key entries) place o
comes_from key [] place None (p, a) = omega arith
comes_from key [] place (Some g) (p, a) = absurd (let c : Some g ≡ None = a in cc)
comes_from key (x ∷ entries) place o (p, a) =
    by_length (x ∷ entries) (least_from key (x ∷ entries)) Past place o (nat_lt (least_from key (x ∷ entries)) (length (x ∷ entries))) refl p a

-- the first move of a cursor, and the number of the entry that it comes to
pub record FirstMove : Type 0 where
  pub move : List LeafElement → Place → Move
  pub to : List LeafElement → ℕ
  pub comes : (entries : List LeafElement) (before place : Place) (o : Option LeafElement)
      → (place_in entries place ≡ (move entries before).place) × (o ≡ (move entries before).answer) → ComesTo entries (to entries) place o

abbrev pub by_first : FirstMove
by_first = record { move = λ entries place. first_move entries; to = λ entries. 0; comes = λ entries before. comes_first entries }

abbrev pub by_key : Key → FirstMove
by_key key = record { move = λ entries place. seek_move key entries; to = least_from key; comes = λ entries before. comes_from key entries }
