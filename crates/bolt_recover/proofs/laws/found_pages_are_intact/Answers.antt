use Rattle.bolt_recover.proofs.{Words.IsKeptPage, FoundAll.found_in, FoundLemmas.found_apart, FoundLemmas.found_here, FoundLemmas.found_leaf}
use Rattle.bolt_recover.proofs.laws.found_pages_are_intact.Goals as goal

pub returns-clause-below : goal.returns-clause-below
returns-clause-below c = λ file meta found n are has.
    (found_here file meta (IsKeptPage file meta are.survey) meta.high_water found n (found_in file meta found are.survey n are are.surveys has) has).below

pub returns-clause-leaf : goal.returns-clause-leaf
returns-clause-leaf c = λ file meta found n are has survey is.
    let kept = IsKeptPage file meta survey in
    found_leaf file meta kept meta.high_water found n (found_here file meta kept meta.high_water found n (found_in file meta found survey n are is has) has)

pub returns-clause-unlisted : goal.returns-clause-unlisted
returns-clause-unlisted c = λ file meta found n are has.
    (found_here file meta (IsKeptPage file meta are.survey) meta.high_water found n (found_in file meta found are.survey n are are.surveys has)
    has).next.unlisted

pub returns-clause-apart : goal.returns-clause-apart
returns-clause-apart c = λ file meta found n are a m k b left right.
    found_apart file meta (IsKeptPage file meta are.survey) meta.high_water found n m k (found_in file meta found are.survey n are are.surveys a) a b left right
