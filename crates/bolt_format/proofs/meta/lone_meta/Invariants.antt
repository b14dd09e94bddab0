use Rattle.std.proofs.Common.{◌<◌, ℕ, get_or}
use Rattle.bolt_format.specs.{declared.meta.Meta.Meta, Metas.IsMeta, Metas.page_sizes}
use Rattle.bolt_format.proofs.meta.lone_meta.Given as goal

-- there is none at the sizes so far
abbrev pub invariant-loop-at : goal.invariant-loop-at
invariant-loop-at l = (k : ℕ) → k < l.at-index → (meta : Meta) → IsMeta l.file (get_or page_sizes k 0) meta → ⊥
