-- What the tests of a spot find: the function gives what the definition asks for.
use Rattle.std.proofs.Common.{◌≡◌, ℕ, zero, suc, ◌+◌, ◌<◌, ◌≤◌, Bool, true, Option, Some, None, Ok, refl, arith}
use Rattle.bolt_recover.proofs.Words.{At_page, cases_lt, early_finding, false≢true, Finding, finding, first_claimed, Gives, IsInSpan, late, Node}
use Rattle.bolt_recover.proofs.Words.{node_finding, Nodes, option_map, option_or, PageSpot, Spot, test, twice}
use Rattle.bolt_check.specs.declared.finding.TheConstants.Finding.{TWICE}

-- the lowest claimed page among some, if there is one
abbrev pub IsFirst : (ℕ → Bool) → ℕ → ℕ → Option ℕ → Type 0
IsFirst claimed n count None = (m : ℕ) → n ≤ m → m < n + count → claimed m ≡ true → ⊥
IsFirst claimed n count (Some m) = (n ≤ m) × (m < n + count) × (claimed m ≡ true) × ((k : ℕ) → n ≤ k → k < m → claimed k ≡ true → ⊥)

pub first_is : (claimed : ℕ → Bool) (n count : ℕ) → IsFirst claimed n count (first_claimed claimed n count)
first_is claimed n zero = λ m low high was. omega arith
first_is claimed n (suc count) = let later = first_is claimed n count in grind (arith, cases_lt, false≢true, later)

module _ (nodes : Nodes) (claimed : ℕ → Bool) where
  abbrev Finds : Spot → Option Finding → Type 0
  Finds s found = Gives nodes (λ n. claimed n ≡ true) s found

  late_finds : (s : PageSpot) (node : Node) (found : Option Finding) → node_finding node s ≡ found → early_finding nodes s ≡ None
      → nodes s.number ≡ Ok node
      → ((n : ℕ) → IsInSpan node s.number n → claimed n ≡ true → ⊥) → Finds (At_page s) found
  late_finds s node None content is page free = record { node = node; early = is; page = page; free = free; content = content }
  late_finds s node (Some x) content is page free = late node is page free content

  node_finds : (s : PageSpot) (node : Node) (o : Option ℕ) → IsFirst claimed s.number (suc node.overflow) o → early_finding nodes s ≡ None
      → nodes s.number ≡ Ok node
      → Finds (At_page s) (option_or (option_map (finding TWICE) o) (node_finding node s))
  node_finds s node (Some n) (low, high, was, first) is page =
      twice node is page (record { in_span = (low, omega (arith, high)); was = was; lowest = λ k inside lt h. first k inside.0 lt h }) refl
  node_finds s node None none is page = grind (arith, late_finds)

  pub test_finds : (s : Spot) → Finds s (test nodes claimed s)
  test_finds s = grind (arith, node_finds, first_is)
