-- The tests at a spot speak of the nodes that were claimed before only as a set.
use Rattle.std.proofs.Common.{arith, ◌≡◌, ℕ, Option, Some}
use Rattle.bolt_check.proofs.Words.{At_inline, At_page, early, Finding, late, Nodes, PageSpot, PageTests, Passes, SpanHas, Spot, Tests}
use Rattle.bolt_check.specs.Findings.{twice}

page_same : (nodes : Nodes) (a b : ℕ → Type 0) (s : PageSpot) (x : Finding) → ((n : ℕ) → a n → b n) → ((n : ℕ) → b n → a n)
    → PageTests nodes a s x → PageTests nodes b s x
page_same nodes a b s x to from (early e) = early e
page_same nodes a b s x to from (twice node e p l k) =
    twice node e p (record { in_span = l.in_span; was = to x.page l.was; lowest = λ k i h m. l.lowest k i h (from k m) }) k
page_same nodes a b s x to from (late node e p f c) = late node e p (λ n i m. f n i (from n m)) c

pub tests_same : (nodes : Nodes) (a b : ℕ → Type 0) (s : Spot) (x : Finding) → ((n : ℕ) → a n → b n) → ((n : ℕ) → b n → a n)
    → Tests nodes a s x → Tests nodes b s x
tests_same nodes a b (At_page s) x to from h = page_same nodes a b s x to from h
tests_same nodes a b (At_inline host inner) x to from h = h

pub passes_fewer : (nodes : Nodes) (a b : ℕ → Type 0) (s : Spot) → ((n : ℕ) → b n → a n) → Passes nodes a s → Passes nodes b s
passes_fewer nodes a b s from h = grind arith

pub passes_silent : (nodes : Nodes) (a : ℕ → Type 0) (s : Spot) (x : Finding) → Passes nodes a s → Tests nodes a s x → ⊥
passes_silent nodes a s x h t = grind arith

pub span_spot : (nodes : Nodes) (o : Option Spot) (n : ℕ) → SpanHas nodes o n → (t : Spot) × ((o ≡ Some t) × SpanHas nodes (Some t) n)
span_spot nodes o n h = grind arith
