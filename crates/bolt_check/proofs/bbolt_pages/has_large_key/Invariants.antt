use Rattle.std.proofs.Common.{◌≡◌, drop}
use Rattle.std.specs.List.{list_any}
use Rattle.bolt_check.proofs.Words.{inline_keys}
use Rattle.bolt_check.specs.BboltFindings.{is_too_large}
use Rattle.bolt_check.proofs.bbolt_pages.has_large_key.Given as goal

-- the keys from here on decide
abbrev pub invariant-loop-i : goal.invariant-loop-i
invariant-loop-i l = list_any is_too_large (drop l.i (inline_keys l.page)) ≡ list_any is_too_large (inline_keys l.page)
