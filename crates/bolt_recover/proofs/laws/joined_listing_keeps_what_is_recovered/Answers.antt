use Rattle.std.proofs.Common.{◌∙◌, ap, filter}
use Rattle.bolt_recover.proofs.JoinedLemmas.{joined_keeps, joined_of, stays, with_elements}
use Rattle.bolt_recover.proofs.laws.joined_listing_keeps_what_is_recovered.Goals as goal

pub returns : goal.returns
returns c = λ file meta listing recovered is back lacks.
    ap (filter stays) (joined_of file meta listing recovered is.found is back is.are_found)
    ∙ joined_keeps file meta recovered (with_elements file meta is.found) back lacks
