-- What is found is merged with what is recovered of the same file.
use Rattle.std.proofs.Common.{◌∙◌, ap, ap₂, sym, arith}
use Rattle.bolt_recover.proofs.{Existing.recovers, JoinedLemmas.merged_joined, Searched.joinable, Words.found_listing, Words.joined_left, Words.props}
use Rattle.bolt_recover.proofs.{Words.∥∥₁_elim}
use Rattle.bolt_tree.specs.Merges.{merge}
use Rattle.bolt_recover.proofs.joined_listing.JoinedListing.new.Goals as goal

pub invariant_of-result-clause-reads : goal.invariant_of-result-clause-reads
invariant_of-result-clause-reads c =
    let searched = c.args.searched.now in
    let recovered = c.in_ok-recovered.ensures in
    ∣ c.new-2.ensures.reads _ _ (rw (recovered.file, recovered.meta) (recovers searched.file.now searched.meta)) (ap found_listing (sym c.new.ensures.found)) ∣₁

pub invariant_of-result-clause-pages : goal.invariant_of-result-clause-pages
invariant_of-result-clause-pages c = grind (arith, joinable, c.in_ok-test_join.ensures, c.as_slice-found.ensures.value)

pub returns-clause-all : goal.returns-clause-all
unfolding joined_left
returns-clause-all c = λ listing is.
    let searched = c.args.searched.now in
    let test = c.in_ok-test_join.ensures in
    let found = c.as_slice-found.result.now in
    ∥∥₁_elim (joinable searched found c.as_slice-found.ensures.value test.few test.apart) (hlevel props) (λ are.
    c.new-2.ensures.left _ (found_listing found)
    ∙ ap₂ merge (c.in_ok-recovered.ensures.all _ (recovers searched.file.now searched.meta)) c.new.ensures.all
    ∙ merged_joined searched.file.now searched.meta found listing are is)
