-- The place of a key among the keys of a page, which a binary search finds.
use Rattle.std.specs.Prelude.{◌≡◌, ◌<◌, ◌≤◌, ◌*◌, ℕ, zero, suc, Bool, true, false, not, List, Some, slice_get}
use Rattle.bolt_check.specs.Keys.{Key, key_lt}

-- a key comes before the place of another: it is below it or, if that is asked for, equal to it
abbrev pub stands_before : Bool → Key → Key → Bool
stands_before true key sought = not (key_lt sought key)
stands_before false key sought = key_lt key sought

-- the place of a key among keys: those before it come before, and the others don't
pub record IsNumberBefore (keys : List Key) (or_equal : Bool) (sought : Key) (n : ℕ) : Type 0 where
  pub below : (k : ℕ) (key : Key) → k < n → slice_get keys k ≡ Some key → stands_before or_equal key sought ≡ true
  pub above : (k : ℕ) (key : Key) → n ≤ k → slice_get keys k ≡ Some key → stands_before or_equal key sought ≡ false

-- a power of two
abbrev pub doubled : ℕ → ℕ
doubled zero = 1
doubled (suc n) = 2 * doubled n
