-- Each page that a way leads to in a layout is one of its pages: these stand in a row, and so do the spans of the ways.
use Rattle.std.proofs.Common.{◌≡◌, ◌∙◌, ◌⊎◌, ℕ, ◌+◌, ◌<◌, ◌≤◌, List, [], ◌∷◌, Option, Some, Ok, sym, ap, inl, inr, arith}
use Rattle.bolt_layout.proofs.Words.{At_page, cases_lt, Node, node_of, Nodes, PageSpot, PageView, Placed, Spot}
use Rattle.bolt_layout.proofs.{LaidPages.AreNodes, PageRows.IsInARow, Parts.IsPart}
use Rattle.bolt_check.specs.{Nodes.IsInSpan, Ways.SpanHas}
use Rattle.bolt_format.specs.declared.header.Kind.{Kind}

-- page n lies in the span of the page that this way leads to
record IsCovering (nodes : Nodes) (reach : List ℕ → Option Spot) (way : List ℕ) (t : PageSpot) (n : ℕ) : Type 0 where
  led : reach way ≡ Some (At_page t)
  node : Node
  page : nodes t.number ≡ Ok node
  within : IsInSpan node t.number n

-- one of these pages has this number
abbrev pub IsPlaced : List Placed → ℕ → Type 0
IsPlaced [] n = ⊥
IsPlaced (p ∷ pages) n = (p.number ≡ n) ⊎ IsPlaced pages n

overflow_same : (k : Kind) (view : PageView) (node : Node) → node_of k view ≡ Ok node → node.overflow ≡ view.overflow
overflow_same k view node e = grind arith

module _ (nodes : Nodes) (reach : List ℕ → Option Spot) (from to : ℕ) (part : IsPart nodes reach from to) where
  -- a page that a way leads to lies in its own span
  own_cover : (way : List ℕ) (t : PageSpot) → reach way ≡ Some (At_page t) → IsCovering nodes reach way t t.number
  own_cover way t led = grind (arith, part.passes way (At_page t) led)

  span_of : (way : List ℕ) (t : PageSpot) (n : ℕ) → IsCovering nodes reach way t n → SpanHas nodes (reach way) n
  span_of way t n c = grind arith

  -- two that cover one page are one
  one_cover : (v w : List ℕ) (s t : PageSpot) (n : ℕ) → IsCovering nodes reach v s n → IsCovering nodes reach w t n → s ≡ t
  one_cover v w s t n a b = grind (arith, part.apart v w n (span_of v s n a) (span_of w t n b))

  -- each page number is covered
  covered : (n : ℕ) → from ≤ n → n < to → (way : List ℕ) × (t : PageSpot) × IsCovering nodes reach way t n
  covered n low high = grind (arith, part.whole n low high)

  below : (way : List ℕ) (t : PageSpot) (n : ℕ) → IsCovering nodes reach way t n → n < to
  below way t n c = (part.inside way n (span_of way t n c)).1

  -- pages before this one cover none from it on
  abbrev Ends : ℕ → Type 0
  Ends start = (way : List ℕ) (t : PageSpot) (n : ℕ) → IsCovering nodes reach way t n → t.number < start → n < start

  -- so a way leads to the page that begins here
  begins : (start : ℕ) → from ≤ start → start < to → Ends start
      → (way : List ℕ) × (t : PageSpot) × IsCovering nodes reach way t start × (t.number ≡ start)
  begins start low high ends =
      let (way, t, c) = covered start low high in
      let bounds = c.within in
      elim (cases_lt t.number start) [
        | inl less ↦ absurd (let h = ends way t start c less in omega arith)
        | inr more ↦ (way, t, c, omega (arith, more, bounds.0))
      ]

  module _ (start : ℕ) (p : Placed) (here : p.number ≡ start) (shown : nodes p.number ≡ node_of p.view.kind p.view) (low : from ≤ start) (high : start < to)
      (ends : Ends start) where
    -- a page that begins in the span of this one is this one
    inside_is : (way : List ℕ) (t : PageSpot) → reach way ≡ Some (At_page t) → start ≤ t.number → t.number ≤ start + p.view.overflow
        → t.number ≡ start
    inside_is way t led more less =
        let (v, s, c, same) = begins start low high ends in
        let long : c.node.overflow ≡ p.view.overflow = overflow_same p.view.kind p.view c.node (sym shown ∙ (ap nodes (here ∙ sym same) ∙ c.page)) in
        let cover : IsCovering nodes reach v s t.number =
        record { led = c.led; node = c.node; page = c.page; within = (omega (arith, same, more), omega (arith, same, long, less)) } in
        sym (ap (λ (x : PageSpot). x.number) (one_cover v way s t t.number cover (own_cover way t led))) ∙ same

    next_ends : Ends (start + (1 + p.view.overflow))
    next_ends way t n c less =
        elim (cases_lt t.number start) [
          | inl before ↦ (let h = ends way t n c before in omega (arith, h))
          | inr more ↦
              let is = inside_is way t c.led more (omega (arith, less)) in
              let long : c.node.overflow ≡ p.view.overflow = overflow_same p.view.kind p.view c.node (sym shown ∙ (ap nodes (here ∙ sym is) ∙ c.page)) in
              let bounds = c.within in omega (arith, is, long, bounds.1)
        ]

  walk : (start : ℕ) (pages : List Placed) → from ≤ start → IsInARow start pages to → AreNodes nodes pages → Ends start
      → (way : List ℕ) (t : PageSpot) → reach way ≡ Some (At_page t) → start ≤ t.number → IsPlaced pages t.number
  walk start [] low row shown ends way t led more =
      let h = below way t t.number (own_cover way t led) in absurd (let e : start ≡ to = row in omega (arith, h, more, e))
  walk start (p ∷ pages) low row shown ends way t led more =
      let h = below way t t.number (own_cover way t led) in
      let high : start < to = omega (arith, h, more) in
      elim (cases_lt (start + p.view.overflow) t.number) [
        | inl after ↦
            inr (walk (start + (1 + p.view.overflow)) pages (omega (arith, low)) row.1 shown.1 (next_ends start p row.0 shown.0 low high ends) way t led
            (omega (arith, after)))
        | inr inside ↦ inl (row.0 ∙ sym (inside_is start p row.0 shown.0 low high ends way t led more inside))
      ]

  pub placed_way : (pages : List Placed) → IsInARow from pages to → AreNodes nodes pages → (way : List ℕ) (t : PageSpot)
      → reach way ≡ Some (At_page t) → IsPlaced pages t.number
  placed_way pages row shown way t led =
      let low = (part.inside way t.number (span_of way t t.number (own_cover way t led))).0 in
      walk from pages (omega arith) row shown
      (λ way t n c less. let first = (part.inside way t.number (span_of way t t.number (own_cover way t c.led))).0 in absurd (omega (arith, first, less)))
      way t led low
