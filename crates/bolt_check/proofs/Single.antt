-- There is at most one first finding.
use Rattle.std.proofs.Common.{arith, ◌≡◌, ℕ, List}
use Rattle.bolt_check.proofs.{Words.Finding, Words.IsFirstFinding, Words.Meta, Words.Nodes, Words.Spot, Words.Tests, WayOrder.before_total}

pub tests_one : (nodes : Nodes) (before : ℕ → Type 0) (s : Spot) (x y : Finding) → Tests nodes before s x → Tests nodes before s y → x ≡ y
tests_one nodes before s x y h k = grind arith

pub first_one : (file : List ℕ) (meta : Meta) (x y : Finding) → IsFirstFinding file meta x → IsFirstFinding file meta y → x ≡ y
first_one file meta x y h k = grind (arith, before_total, tests_one)
