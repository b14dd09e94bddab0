-- A part of a tree of pages: what is reached passes the tests, and its spans fill a row of page numbers, each once.
use Rattle.std.proofs.Common.{◌≡◌, ◌∙◌, ℕ, zero, suc, ◌+◌, ◌<◌, ◌≤◌, List, [], ◌∷◌, Option, Some, None, Result, Ok, refl, sym, subst, inl, inr, arith}
use Rattle.bolt_layout.proofs.Words.{InlinePage, At_inline, At_page, cases_lt, follow, follow_none, inline_finding, Node, node_finding, Nodes}
use Rattle.bolt_layout.proofs.Words.{PageSpot, reached, Spot}
use Rattle.bolt_check.specs.{Nodes.IsInSpan, Ways.Before, Ways.SpanHas, Ways.SpanOf, Findings.IsClaimedBefore, Findings.IsClean, Findings.IsMetaPage}
use Rattle.bolt_check.specs.{Findings.Passes, Findings.early_finding}
use Rattle.bolt_check.proofs.Exports.{before_irreflexive}

-- the tests that look at one page alone
pub record IsFinePage (nodes : Nodes) (s : PageSpot) : Type 0 where
  pub node : Node
  pub early : early_finding nodes s ≡ None
  pub page : nodes s.number ≡ Ok node
  pub content : node_finding node s ≡ None

abbrev pub IsFine : Nodes → Spot → Type 0
IsFine nodes (At_page s) = IsFinePage nodes s
IsFine nodes (At_inline host inner) = inline_finding host inner.keys ≡ None

-- What is reached by ways, each of which leads to a spot or to nothing.
pub record IsPart (nodes : Nodes) (at : List ℕ → Option Spot) (from to : ℕ) : Type 0 where
  pub order : from ≤ to
  pub passes : (way : List ℕ) (t : Spot) → at way ≡ Some t → IsFine nodes t
  pub apart : (v w : List ℕ) (n : ℕ) → SpanHas nodes (at v) n → SpanHas nodes (at w) n → v ≡ w
  pub inside : (way : List ℕ) (n : ℕ) → SpanHas nodes (at way) n → (from ≤ n) × (n < to)
  pub whole : (n : ℕ) → from ≤ n → n < to → (way : List ℕ) × SpanHas nodes (at way) n

pub nothing : (nodes : Nodes) (way : List ℕ) (n : ℕ) → SpanHas nodes (follow nodes None way) n → ⊥
nothing nodes way n h = let none : SpanHas nodes None n = subst (λ (o : Option Spot). SpanHas nodes o n) (follow_none nodes way) h in none

pub none_some : (nodes : Nodes) (way : List ℕ) (t : Spot) → follow nodes None way ≡ Some t → ⊥
none_some nodes way t h = let e : None ≡ Some t = sym (follow_none nodes way) ∙ h in cc

-- an inline bucket
inline_nothing : (nodes : Nodes) (host : ℕ) (inner : InlinePage) (way : List ℕ) (n : ℕ)
    → SpanHas nodes (follow nodes (Some (At_inline host inner)) way) n → ⊥
inline_nothing nodes host inner [] n s = s
inline_nothing nodes host inner (i ∷ way) n s = nothing nodes way n s

inline_passes : (nodes : Nodes) (host : ℕ) (inner : InlinePage) → inline_finding host inner.keys ≡ None → (way : List ℕ) (t : Spot)
    → follow nodes (Some (At_inline host inner)) way ≡ Some t → IsFine nodes t
inline_passes nodes host inner fine [] t e = let same : At_inline host inner ≡ t = cc in subst (IsFine nodes) same fine
inline_passes nodes host inner fine (i ∷ way) t e = absurd (none_some nodes way t e)

pub part_inline : (nodes : Nodes) (host from to : ℕ) (inner : InlinePage) → from ≡ to → inline_finding host inner.keys ≡ None
    → IsPart nodes (follow nodes (Some (At_inline host inner))) from to
part_inline nodes host from to inner same fine = grind (arith, inline_passes, inline_nothing)

-- The ways from a row of spots: the number of one, and on from it.
abbrev pub kids_at : Nodes → List (Option Spot) → List ℕ → Option Spot
kids_at nodes [] way = None
kids_at nodes (o ∷ os) [] = None
kids_at nodes (o ∷ os) (zero ∷ way) = follow nodes o way
kids_at nodes (o ∷ os) (suc j ∷ way) = kids_at nodes os (j ∷ way)

pub no_kids : (nodes : Nodes) (from to : ℕ) → from ≡ to → IsPart nodes (kids_at nodes []) from to
no_kids nodes from to same = grind arith

kid_way : (nodes : Nodes) (os : List (Option Spot)) (way : List ℕ) (n : ℕ) → SpanHas nodes (kids_at nodes os way) n
    → (j : ℕ) × (on : List ℕ) × SpanHas nodes (kids_at nodes os (j ∷ on)) n
kid_way nodes (o ∷ os) (j ∷ way) n s = (j, way, s)
kid_way nodes os way n s = absurd (grind arith)

-- a part, and then those after it
module _ (nodes : Nodes) (o : Option Spot) (os : List (Option Spot)) (from mid to : ℕ) (first : IsPart nodes (follow nodes o) from mid)
    (rest : IsPart nodes (kids_at nodes os) mid to) where
  more_passes : (way : List ℕ) (t : Spot) → kids_at nodes (o ∷ os) way ≡ Some t → IsFine nodes t
  more_passes way t e = grind arith

  more_inside : (way : List ℕ) (n : ℕ) → SpanHas nodes (kids_at nodes (o ∷ os) way) n → (from ≤ n) × (n < to)
  more_inside way n s = grind arith

  more_apart : (v w : List ℕ) (n : ℕ) → SpanHas nodes (kids_at nodes (o ∷ os) v) n → SpanHas nodes (kids_at nodes (o ∷ os) w) n → v ≡ w
  more_apart v w n s t = grind arith

  pub more_kids : IsPart nodes (kids_at nodes (o ∷ os)) from to
  more_kids = record {
    order = let a = first.order in let b = rest.order in omega arith;
    passes = more_passes;
    apart = more_apart;
    inside = more_inside;
    whole = λ n low high. elim (cases_lt n mid) [
      | inl below ↦ let (way, s) = first.whole n low below in (0 ∷ way, s)
      | inr above ↦
          let (way, s) = rest.whole n above high in
          let (j, on, t) = kid_way nodes os way n s in (suc j ∷ on, t)
    ];
  }

own_span : (o : Result Node ℕ) (node : Node) (number n : ℕ) → o ≡ Ok node → SpanOf o number n → IsInSpan node number n
own_span o node number n e h = let k : SpanOf (Ok node) number n = subst (λ (x : Result Node ℕ). SpanOf x number n) e h in k

span_here : (o : Result Node ℕ) (node : Node) (number n : ℕ) → o ≡ Ok node → IsInSpan node number n → SpanOf o number n
span_here o node number n e h = let k : SpanOf (Ok node) number n = h in subst (λ (x : Result Node ℕ). SpanOf x number n) (sym e) k

-- a page after the parts that its entries lead to
module _ (nodes : Nodes) (s : PageSpot) (os : List (Option Spot)) (from : ℕ) (fine : IsFinePage nodes s)
    (steps : (j : ℕ) (way : List ℕ) → kids_at nodes os (j ∷ way) ≡ follow nodes (Some (At_page s)) (j ∷ way))
    (kids : IsPart nodes (kids_at nodes os) from s.number) where
  own : (n : ℕ) → SpanHas nodes (Some (At_page s)) n → IsInSpan fine.node s.number n
  own n h = own_span (nodes s.number) fine.node s.number n fine.page h

  kid : (j : ℕ) (way : List ℕ) (n : ℕ) → SpanHas nodes (follow nodes (Some (At_page s)) (j ∷ way)) n → SpanHas nodes (kids_at nodes os (j ∷ way)) n
  kid j way n h = subst (λ (o : Option Spot). SpanHas nodes o n) (sym (steps j way)) h

  page_passes : (way : List ℕ) (t : Spot) → follow nodes (Some (At_page s)) way ≡ Some t → IsFine nodes t
  page_passes [] t e = let same : At_page s ≡ t = cc in subst (IsFine nodes) same fine
  page_passes (j ∷ way) t e = kids.passes (j ∷ way) t (steps j way ∙ e)

  page_inside : (way : List ℕ) (n : ℕ) → SpanHas nodes (follow nodes (Some (At_page s)) way) n
      → (from ≤ n) × (n < s.number + (1 + fine.node.overflow))
  page_inside [] n h = let i = own n h in let a = kids.order in (omega arith, omega arith)
  page_inside (j ∷ way) n h = let i = kids.inside (j ∷ way) n (kid j way n h) in (omega arith, omega arith)

  page_apart : (v w : List ℕ) (n : ℕ) → SpanHas nodes (follow nodes (Some (At_page s)) v) n → SpanHas nodes (follow nodes (Some (At_page s)) w) n
      → v ≡ w
  page_apart [] [] n h k = refl
  page_apart (i ∷ v) (j ∷ w) n h k = kids.apart (i ∷ v) (j ∷ w) n (kid i v n h) (kid j w n k)
  page_apart v w n h k = absurd (grind arith)

  pub part_page : IsPart nodes (follow nodes (Some (At_page s))) from (s.number + (1 + fine.node.overflow))
  part_page = record {
    order = let a = kids.order in omega arith;
    passes = page_passes;
    apart = page_apart;
    inside = page_inside;
    whole = λ n low high. elim (cases_lt n s.number) [
      | inl below ↦
          let (way, h) = kids.whole n low below in
          let (j, on, k) = kid_way nodes os way n h in (j ∷ on, subst (λ (o : Option Spot). SpanHas nodes o n) (steps j on) k)
      | inr above ↦ ([], span_here (nodes s.number) fine.node s.number n fine.page (above, omega arith))
    ];
  }

-- A part that begins above the meta pages and is the tree of the root is clean.
clean_page : (nodes : Nodes) (root from to : ℕ) → IsPart nodes (reached nodes root) from to → 2 ≤ from
    → (way : List ℕ) (t : Spot) → reached nodes root way ≡ Some t → Passes nodes (IsClaimedBefore nodes (reached nodes root) IsMetaPage way) t
clean_page nodes root from to part above way (At_inline host inner) e = part.passes way (At_inline host inner) e
clean_page nodes root from to part above way (At_page s) e =
    let fine : IsFinePage nodes s = part.passes way (At_page s) e in
    let here : (n : ℕ) → IsInSpan fine.node s.number n → SpanHas nodes (reached nodes root way) n =
    λ n h. subst (λ (o : Option Spot). SpanHas nodes o n) (sym e) (span_here (nodes s.number) fine.node s.number n fine.page h) in
    record {
      node = fine.node;
      early = fine.early;
      page = fine.page;
      free = λ n h claimed. elim claimed [
        | inl meta ↦ (let i = part.inside way n (here n h) in omega arith)
        | inr before ↦ (let (v, (less, k)) = before in
            let same : v ≡ way = part.apart v way n k (here n h) in before_irreflexive way (subst (λ (x : List ℕ). Before x way) same less))
      ];
      content = fine.content;
    }

pub part_clean : (nodes : Nodes) (root from to : ℕ) → IsPart nodes (reached nodes root) from to → 2 ≤ from
    → IsClean nodes (reached nodes root) IsMetaPage
part_clean nodes root from to part above = record { passes = clean_page nodes root from to part above }
