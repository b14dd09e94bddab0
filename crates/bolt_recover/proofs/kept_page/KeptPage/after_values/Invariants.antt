use Rattle.std.proofs.Common.{ℕ, ◌<◌, ◌≤◌}
use Rattle.bolt_recover.proofs.Words.{content_elements}
use Rattle.bolt_recover.specs.Private.Frames.{IsValueElement}
use Rattle.bolt_recover.proofs.kept_page.KeptPage.after_values.Given as goal

-- what was looked at are values
abbrev pub invariant-loop-n : goal.invariant-loop-n
invariant-loop-n l = (k : ℕ) → l.fn.i ≤ k → k < l.n → IsValueElement (content_elements l.self) k
