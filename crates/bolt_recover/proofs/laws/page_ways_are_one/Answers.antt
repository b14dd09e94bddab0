use Rattle.std.proofs.Common.{refl}
use Rattle.bolt_recover.proofs.{Existing.has_survey, Recovering.one_number}
use Rattle.bolt_recover.proofs.laws.page_ways_are_one.Goals as goal

pub returns-clause-some : goal.returns-clause-some
returns-clause-some c = λ file meta. let (survey, is) = has_survey file meta in (_, (survey, is, refl))

pub returns-clause-one : goal.returns-clause-one
returns-clause-one c = one_number
