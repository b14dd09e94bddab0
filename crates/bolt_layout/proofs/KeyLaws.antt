-- What an order of keys says of a row of items.
use Rattle.std.proofs.Common.{arith, ◌≡◌, true, List, [], ◌∷◌, ◌++◌, Option, None, Some, refl}
use Rattle.bolt_lemmas.proofs.Exports.{all_split}
use Rattle.bolt_layout.proofs.{Words.AllByRecursion, Words.is_below, Words.is_from, Words.Key, Words.key_lt, Words.keys_order_fault, Words.Laid}
use Rattle.bolt_layout.proofs.Words.{LeafElement}
use Rattle.bolt_check.specs.Keys.{is_above}

-- items whose keys rise
abbrev pub IsBelowItem : Laid LeafElement → Laid LeafElement → Type 0
IsBelowItem x y = key_lt x.key y.key ≡ true

abbrev pub ItemsRise : List (Laid LeafElement) → Type 0
ItemsRise [] = Unit {0}
ItemsRise (x ∷ xs) = AllByRecursion (IsBelowItem x) xs × ItemsRise xs

abbrev pub AreBelow : List (Laid LeafElement) → List (Laid LeafElement) → Type 0
AreBelow xs ys = AllByRecursion (λ x. AllByRecursion (IsBelowItem x) ys) xs

pub rise_split : (xs ys : List (Laid LeafElement)) → ItemsRise (xs ++ ys) → ItemsRise xs × ItemsRise ys × AreBelow xs ys
rise_split [] ys h = (tt, h, tt)
rise_split (x ∷ xs) ys h = grind (arith, all_split (IsBelowItem x) xs ys h.0, rise_split xs ys h.1)

-- items whose keys are within bounds, and above one
abbrev pub IsWithin : Option Key → Option Key → Laid LeafElement → Type 0
IsWithin lower upper x = (is_from lower x.key ≡ true) × (is_below upper x.key ≡ true)

abbrev pub IsAbove : Option Key → Laid LeafElement → Type 0
IsAbove before x = is_above before x.key ≡ true

-- one key that passes
pub key_step : (before lower upper : Option Key) (key : Key) (keys : List Key) → is_above before key ≡ true → is_from lower key ≡ true
    → is_below upper key ≡ true
    → keys_order_fault (Some key) lower upper keys ≡ None → keys_order_fault before lower upper (key ∷ keys) ≡ None
key_step before lower upper key keys a b c rest = rw (a, b, c, rest) refl
