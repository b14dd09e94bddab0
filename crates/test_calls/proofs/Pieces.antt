-- Pieces of a text.
use Rattle.std.proofs.Common.{◌≡◌, ◌∷◌, ◌++◌, [], Bor, List, ap, append-nil, flat_map, map, refl, sym, ℕ}
use Rattle.bolt_cli.specs.Deeds.{joined}

-- there is one text of all pieces
pub joined_is : (pieces : List (Bor (List ℕ)))
    → joined (map (λ (piece : Bor (List ℕ)). piece.now) pieces) ≡ flat_map (λ (piece : Bor (List ℕ)). piece.now) pieces
joined_is [] = refl
joined_is (piece ∷ []) = sym (append-nil piece.now)
joined_is (piece ∷ next ∷ pieces) = ap (λ text. piece.now ++ text) (joined_is (next ∷ pieces))
