-- The found pages leave room for their names, and the recovered listing for their bucket.
use Rattle.std.proofs.Common.{◌∙◌, List, [], ◌∷◌, ap}
use Rattle.bolt_recover.proofs.{Words.joined_file, Words.joined_meta, Words.Member, Words.member_cmp, Words.found_numbers, Words.props, Words.Rises}
use Rattle.bolt_recover.proofs.{Words.∥∥₁_elim, FoundAll.one_found}
use Rattle.bolt_recover.proofs.laws.joined_members_rise.Goals as goal

rises_prop : (listing : List Member) → IsProp (Rises member_cmp listing)
rises_prop [] = hlevel props
rises_prop (m ∷ listing) = hlevel (rises_prop listing, props)

pub returns : goal.returns
unfolding joined_file joined_meta
returns c = λ listing is.
    let joined = c.args.joined.now in
    let file = joined.file.now in
    let meta = joined.meta in
    ∥∥₁_elim joined.pages (rises_prop listing) (λ are.
    c.joined_listing_rises.ensures file meta are.few
    (λ recovered found recovers pages some.
    are.apart (λ none. some (one_found file meta found (found_numbers joined.found.now) pages are.are_found ∙ ap found_numbers none)) recovered
    recovers) listing is)
