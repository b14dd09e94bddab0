use Rattle.std.proofs.Common.{ap, sym, ◌∙◌}
use Rattle.bolt_recover.proofs.{Searched.gaps_known, Searched.no_gap, Words.all_lost, Words.false≢true, Words.lost_of}
use Rattle.bolt_recover.specs.Losses.{is_nothing}
use Rattle.bolt_recover.proofs.lost_and_found.LostAndFound.gaps.Goals as goal

pub returns-in-Damaged : goal.returns-in-Damaged
returns-in-Damaged c some = rw c.as_slice.ensures.value (gaps_known c.args.self.now c.in-Damaged.damage c.in-Damaged.is)

pub returns-in-Rootless : goal.returns-in-Rootless
returns-in-Rootless c some = no_gap c.args.self.now c.in-Rootless.field-0 c.in-Rootless.is

pub returns-in-Sound : goal.returns-in-Sound
unfolding all_lost
returns-in-Sound c some = absurd (false≢true (sym some ∙ ap (λ t. is_nothing (lost_of t)) c.in-Sound.is))
