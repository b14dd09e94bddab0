-- What the search says of the spots that are left, it says of the whole.
use Rattle.std.specs.Prelude.{ℕ, ◌↔◌, ◌⊎◌, Option}
use Rattle.bolt_check.specs.{Findings.IsClean, Findings.IsCovered, Findings.IsFirst, Nodes.Nodes, Private.Uses.HasUse, Private.Uses.UseOf}
use Rattle.bolt_check.specs.{Ways.Reach, Ways.SpanHas, Ways.Spot, declared.finding.Finding.Finding, declared.table.PageUse.PageUse}

-- What holds of the ways `new` holds of the ways `old`. `claimed` and `noted` say which pages were claimed before the ways of `old`, and for
-- what use; `after` and `notes` say so for `new`.
pub record Carries (nodes : Nodes) (old : Reach) (claimed : ℕ → Type 0) (noted : ℕ → PageUse → Type 0)
    (new : Reach) (after : ℕ → Type 0) (notes : ℕ → PageUse → Type 0) : Type 0 where
  pub clean : IsClean nodes new after → IsClean nodes old claimed
  pub first : (x : Finding) → IsFirst nodes new after x → IsFirst nodes old claimed x
  pub covered : (n : ℕ) → IsCovered nodes new after n ↔ IsCovered nodes old claimed n
  pub uses : (n : ℕ) (u : PageUse) → HasUse nodes new notes n u → HasUse nodes old noted n u

-- A visit of spot o, if it is one, takes the span: what is claimed after it was claimed before or lies in the span. So it is with what is noted.
pub record Takes (nodes : Nodes) (o : Option Spot) (claimed after : ℕ → Type 0) (noted notes : ℕ → PageUse → Type 0) : Type 0 where
  pub split : (n : ℕ) → after n → claimed n ⊎ SpanHas nodes o n
  pub kept : (n : ℕ) → claimed n → after n
  pub span : (n : ℕ) → SpanHas nodes o n → after n
  pub uses : (n : ℕ) (u : PageUse) → notes n u → noted n u ⊎ UseOf nodes o n u
