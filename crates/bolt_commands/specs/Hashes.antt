-- The hash of what a target has accepted.
use Rattle.std.specs.Prelude.{◌≡◌, ⊤, ℕ, List, ◌++◌, Option, None, Some}
use Rattle.sha2.specs.{Hashers.Holds256, declared.Sha256.Sha256}

-- From its state `start` the target has accepted a message since, and this is the hash of it; if the target shows its bytes.
abbrev pub HashesSince : (start now : Option (List ℕ)) → Sha256 → Type 0
HashesSince None now hash = ⊤
HashesSince (Some xs) None hash = ⊥
HashesSince (Some xs) (Some ys) hash = (message : List ℕ) × Holds256 hash message × (ys ≡ xs ++ message)
