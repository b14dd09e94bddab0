-- Paths are compared part by part, as the slices are that hold them.
use Rattle.std.proofs.Common.{arith, ◌≡◌, Bor, List, ℕ}
use Rattle.std.proofs.lemmas.List.{take-map}
use Rattle.bolt_text.proofs.Vocabulary.{begins_with, bytes_eq, length-map, path_of, pointwise, starts_with}
use Rattle.std.specs.Cmp.Derive.Mapped.{lex_map, pointwise-map}

pub same_path : (xs ys : List (Bor (List ℕ)))
    → pointwise bytes_eq (path_of xs) (path_of ys) ≡ pointwise (λ (a b : Bor (List ℕ)). bytes_eq a.now b.now) xs ys
same_path xs ys = pointwise-map (λ (part : Bor (List ℕ)). part.now) bytes_eq xs ys

pub begins_parts : (path below : List (Bor (List ℕ)))
    → begins_with (path_of below) (path_of path) ≡ starts_with (λ (a b : Bor (List ℕ)). bytes_eq a.now b.now) path below
begins_parts path below = grind (arith, pointwise, bytes_eq, length-map, take-map, same_path)

-- for the search
pub ruleset parts = (begins_parts, same_path, lex_map)
