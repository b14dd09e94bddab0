use Rattle.std.proofs.Common.{ℕ, List}
use Rattle.bolt_recover.specs.Private.FirstWays.{IsFirstWay}
use Rattle.bolt_recover.proofs.first_leaf.shows_value.Given as goal

-- a way leads to the page that is looked at next
abbrev pub invariant-pages : goal.invariant-pages
invariant-pages l = (ways : List ℕ) × IsFirstWay l.fn.file l.fn.meta ways l.way
