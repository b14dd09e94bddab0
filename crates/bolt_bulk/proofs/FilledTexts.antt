-- Zeros, and a page that they fill.
use Rattle.std.proofs.Common.{◌≡◌, ℕ, ◌+◌, ◌-◌, ◌≤◌, List, ◌++◌, length, take, replicate, arith, append_assoc}
use Rattle.std.proofs.lemmas.List.{length-append, replicate-append-replicate, take-replicate}
use Rattle.bolt_layout.specs.PageBytes.{filled}

abbrev pub zeros : ℕ → List ℕ
zeros n = replicate n 0

-- the next of them, from a block of 4,096
pub zeros_left : (left size : ℕ) → size ≤ left → size ≤ 4096 → zeros left ≡ take size (zeros 4096) ++ zeros (left - size)
zeros_left left size h block = grind (arith, take-replicate {X = ℕ} size 4096 0 block, replicate-append-replicate {A = ℕ} size (left - size) 0)

-- three texts with zeros after them are what fills a page
pub filled_pieces : (n size : ℕ) (first second third : List ℕ) → size ≡ length first + (length second + length third)
    → first ++ (second ++ (third ++ zeros (n - size))) ≡ filled n (first ++ (second ++ third))
filled_pieces n size first second third same = grind (arith, length-append, append_assoc)
