-- Keys in byte order, and their tests: docs/SOUND.md, "Keys".
use Rattle.std.specs.Prelude.{◌≡◌, ◌<◌, IsTrue, ℕ, Bool, true, not, List, [], ◌∷◌, Option, Some, None, if◌then◌else◌, slice_get}
use Rattle.std.specs.{Ordering.nat_cmp, Ordering.is_lt, Cmp.Lexicographic.slice_cmp, declared.cmp.Ordering.Ordering}
use Rattle.bolt_format.specs.Elements.{first_of}
use Rattle.bolt_check.specs.declared.finding.TheConstants.Finding.{ORDER, BELOW_PARENT, ABOVE_NEXT}

abbrev pub Key : Type 0
Key = List ℕ

abbrev pub key_cmp : Key → Key → Ordering
key_cmp = slice_cmp nat_cmp

abbrev pub key_lt : Key → Key → Bool
key_lt a b = is_lt (key_cmp a b)

-- each key is below those after it
abbrev pub KeysRise : List Key → Type 0
KeysRise keys = (i j : ℕ) (a b : Key) → i < j → slice_get keys i ≡ Some a → slice_get keys j ≡ Some b → IsTrue (key_lt a b)

abbrev pub is_above : Option Key → Key → Bool
is_above None key = true
is_above (Some before) key = key_lt before key

abbrev pub is_from : Option Key → Key → Bool
is_from None key = true
is_from (Some bound) key = not (key_lt key bound)

abbrev pub is_below : Option Key → Key → Bool
is_below None key = true
is_below (Some bound) key = key_lt key bound

-- the tests of one key: above the preceding one, not below the lower bound, below the upper
abbrev pub key_order_fault : (before lower upper : Option Key) → Key → Option ℕ
key_order_fault before lower upper key =
    if not (is_above before key) then Some ORDER
    else (if not (is_from lower key) then Some BELOW_PARENT
    else (if not (is_below upper key) then Some ABOVE_NEXT
    else None))

-- the tests of the keys, one after another
abbrev pub keys_order_fault : (before lower upper : Option Key) → List Key → Option ℕ
keys_order_fault before lower upper [] = None
keys_order_fault before lower upper (key ∷ keys) = first_of (key_order_fault before lower upper key) (keys_order_fault (Some key) lower upper keys)
