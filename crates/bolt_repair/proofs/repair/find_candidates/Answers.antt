-- The pages are those that are looked for: in any case, or since something is lost.
use Rattle.std.proofs.Common.{List, ap, false, true, subst, sym, ◌∙◌, ◌≡◌, map}
use Rattle.std.proofs.{lemmas.Bool.false≢true, lemmas.Result.IfOk-weaker}
use Rattle.bolt_etcd.specs.Wire.ShownRevisions.{entry_of}
use Rattle.bolt_recover.specs.declared.found_page.FoundPage.{FoundPage}
use Rattle.bolt_recover.specs.{LostAndFound.all_lost, Losses.is_nothing}
use Rattle.bolt_repair.specs.Candidates.{AreCandidates, found_elements}
use Rattle.bolt_repair.proofs.FoundRepairs.{searched_in_any_case, searched_lost}
use Rattle.bolt_repair.proofs.repair.find_candidates.Goals as goal
use Rattle.bolt_repair.proofs.repair.find_candidates.Goals.{else-search-via-then-search+else-is_nothing, else-search-via-else-search}

pub returns-then-is_nothing : goal.returns-then-is_nothing
returns-then-is_nothing c =
    let found = c.in_ok-found.found.items in
    IfOk-weaker c.candidates_of.result _ _
    (λ candidates are.
    searched_in_any_case c.args.searched.now c.args.search found (map entry_of candidates.items) c.if-search.true c.in_ok-found.ensures.found
    c.in_ok-found.ensures.views
    (subst (λ (pages : List FoundPage). AreCandidates (found_elements pages) (map entry_of candidates.items)) c.as_slice.ensures.value are))
    c.candidates_of.ensures

pub returns : goal.returns
returns c =
    let searched = c.args.searched.now in
    let some : c.args.search ≡ true → is_nothing (all_lost searched) ≡ false = λ asked. elim c.else-search.branch [
      | else-search-via-then-search+else-is_nothing w ↦ sym (ap is_nothing w.lost.ensures) ∙ sym w.is_nothing.ensures ∙ w.if-is_nothing.false
      | else-search-via-else-search w ↦ absurd (false≢true (sym w.if-search.false ∙ asked))
    ] in
    IfOk-weaker c.candidates_of-2.result _ _ (λ candidates are.
    searched_lost c.a_loss_is_searched_for_in_any_case.ensures searched c.args.search c.as_slice-2.result.now (map entry_of candidates.items)
    c.as_slice-2.ensures.value some are) c.candidates_of-2.ensures
