-- Ids listed one after another.
use Rattle.std.proofs.Common.{rules, ◌≡◌, ◌≢◌, ◌∙◌, ◌==◌, ℕ, ◌+◌, ◌<◌, Bool, List, [], ◌∷◌, ◌++◌, Some, slice_get, length, get_or, cond, take, filter}
use Rattle.std.proofs.Common.{min, sym, arith}
use Rattle.std.proofs.{lemmas.List.Elements.filter_more, lemmas.List.Sums.sum_by_more, lemmas.Option.slice_get-get_or}
use Rattle.bolt_check.proofs.Words.{eq-eqb, times_in}

-- the id at place i
id_at : (ids : List ℕ) (i id : ℕ) → i < length ids → slice_get ids i ≡ Some id → get_or ids i 0 ≡ id
id_at ids i id h e = let f = sym (slice_get-get_or ids i 0 h) ∙ e in cc

pub times_more : (ids : List ℕ) (i id n before : ℕ) → i < length ids → slice_get ids i ≡ Some id → before ≡ min 2 (times_in (take i ids) n)
    → min 2 (before + cond (id == n) 1 0) ≡ min 2 (times_in (take (i + 1) ids) n)
times_more ids i id n before h e b = grind (arith, sum_by_more, id_at)

pub past_more : (p : ℕ → Bool) (ids : List ℕ) (i id : ℕ) (before : List ℕ) → i < length ids → slice_get ids i ≡ Some id
    → before ≡ filter p (take i ids)
    → before ++ cond (p id) (id ∷ []) [] ≡ filter p (take (i + 1) ids)
past_more p ids i id before h e b = grind (arith, filter_more p ids i 0 h, id_at ids i id h e)

-- a number that isn't among the ids up to one isn't among those before it, and isn't that one
pub times_before : (ids : List ℕ) (i id n : ℕ) → i < length ids → slice_get ids i ≡ Some id → times_in (take (i + 1) ids) n ≡ 0
    → (times_in (take i ids) n ≡ 0) × (n ≢ id)
times_before ids i id n h e none = search (rules, sum_by_more, id_at, eq-eqb)
