-- That the tests of the keys find nothing, in the words of the shape.
use Rattle.std.proofs.Common.{◌≡◌, ℕ, zero, suc, Bool, true, false, not, if◌then◌else◌, List, [], ◌∷◌, Option, Some, None, slice_get, refl, arith}
use Rattle.bolt_check.proofs.Words.{first_of-none, is_above, is_below, is_from, Key, key_lt, keys_order_fault, none-some}
use Rattle.bolt_check.proofs.KeyLaws.{above_more, from_more, lt_not_back}
use Rattle.bolt_check.specs.Keys.{KeysRise, key_order_fault}
use Rattle.bolt_check.specs.declared.finding.TheConstants.Finding.{ORDER, BELOW_PARENT, ABOVE_NEXT}

three_none : (x y z : ℕ) (a b c : Bool) → (if not a then Some x else (if not b then Some y else (if not c then Some z else None))) ≡ None
    → (a ≡ true) × (b ≡ true) × (c ≡ true)
three_none x y z a b c e = grind arith

pub key_each : (before lower upper : Option Key) (keys : List Key) → keys_order_fault before lower upper keys ≡ None → (j : ℕ) (q : Key)
    → slice_get keys j ≡ Some q
    → (is_above before q ≡ true) × (is_from lower q ≡ true) × (is_below upper q ≡ true)
key_each before lower upper [] e j q g = absurd (none-some q g)
key_each before lower upper (p ∷ keys) e zero q g = grind (arith, first_of-none, three_none)
key_each before lower upper (p ∷ keys) e (suc j) q g =
    let f = first_of-none (key_order_fault before lower upper p) (keys_order_fault (Some p) lower upper keys) e in
    let t = three_none ORDER BELOW_PARENT ABOVE_NEXT (is_above before p) (is_from lower p) (is_below upper p) f.0 in
    let r = key_each (Some p) lower upper keys f.1 j q g in
    (above_more before p q t.0 (r.0), r.1, r.2)

rise_cons : (p : Key) (keys : List Key) → ((j : ℕ) (q : Key) → slice_get keys j ≡ Some q → key_lt p q ≡ true) → KeysRise keys → KeysRise (p ∷ keys)
rise_cons p keys first rest i h a b lt g k = grind arith

pub key_rise : (before lower upper : Option Key) (keys : List Key) → keys_order_fault before lower upper keys ≡ None → KeysRise keys
key_rise before lower upper [] e = λ i j a b lt g h. absurd (none-some a g)
key_rise before lower upper (p ∷ keys) e =
    let f = first_of-none (key_order_fault before lower upper p) (keys_order_fault (Some p) lower upper keys) e in
    rise_cons p keys (λ j q g. (key_each (Some p) lower upper keys f.1 j q g).0) (key_rise (Some p) lower upper keys f.1)

-- and the other way round
pub key_passes : (before lower upper : Option Key) (keys : List Key) → KeysRise keys
    → ((j : ℕ) (q : Key) → slice_get keys j ≡ Some q → (is_above before q ≡ true) × (is_from lower q ≡ true) × (is_below upper q ≡ true))
    → keys_order_fault before lower upper keys ≡ None
key_passes before lower upper [] rise each = refl
key_passes before lower upper (p ∷ keys) rise each =
    let t = each 0 p refl in
    let o : key_order_fault before lower upper p ≡ None = rw (t.0, t.1, t.2) refl in
    let r : keys_order_fault (Some p) lower upper keys ≡ None =
    key_passes (Some p) lower upper keys (λ i j a b lt g h. rise (suc i) (suc j) a b (omega arith) g h)
    (λ j q g. (rise 0 (suc j) p q (omega arith) refl g, (each (suc j) q g).1, (each (suc j) q g).2)) in
    rw (o, r) refl

-- the next key needs no test against the lower bound, if the preceding one passed it
next_from : (lower upper : Option Key) (p q : Key) (keys : List Key) → is_from lower p ≡ true
    → (is_from lower q ≡ true → keys_order_fault (Some q) lower upper keys ≡ keys_order_fault (Some q) None upper keys)
    → (b : Bool) → key_lt p q ≡ b → keys_order_fault (Some p) lower upper (q ∷ keys) ≡ keys_order_fault (Some p) None upper (q ∷ keys)
next_from lower upper p q keys from rest false falls = rw falls refl
next_from lower upper p q keys from rest true rises = grind (arith, from_more, lt_not_back)

lower_once : (lower upper : Option Key) (p : Key) (keys : List Key) → is_from lower p ≡ true
    → keys_order_fault (Some p) lower upper keys ≡ keys_order_fault (Some p) None upper keys
lower_once lower upper p [] from = refl
lower_once lower upper p (q ∷ keys) from = next_from lower upper p q keys from (lower_once lower upper q keys) (key_lt p q) refl

-- after a key that passes its tests those after it tell, and they need no lower bound
pub key_passed : (before lower upper : Option Key) (key : Key) (keys : List Key) → key_order_fault before lower upper key ≡ None
    → keys_order_fault before lower upper (key ∷ keys) ≡ keys_order_fault (Some key) None upper keys
key_passed before lower upper key keys passes = grind (arith, three_none, lower_once)
