-- What no kept way leads to is found, though nothing may be lost.
use Rattle.std.proofs.Common.{◌≡◌, ◌∙◌, List, true, subst₂, ℕ}
use Rattle.bolt_recover.proofs.Words.{FoundBelow, IfOk-weaker, is_taken, Meta, found_numbers, recovery_claimed, recovery_file, recovery_meta}
use Rattle.bolt_recover.proofs.FoundAll.{found_in_any_case}
use Rattle.bolt_recover.specs.Recoveries.{recovery_viewers}
use Rattle.bolt_recover.proofs.recovery.Recovery.found_in_any_case.Goals as goal

pub returns-clause-found : goal.returns-clause-found
unfolding recovery_viewers
returns-clause-found c =
    let self = c.run_to_end.new.self in
    let rest = c.new.result in
    let finished = c.in_ok-run_to_end.ensures in
    let file = recovery_file c.args.self in
    let meta = recovery_meta c.args.self in
    let same_file = c.new.ensures.file ∙ finished.file in
    let same_meta = c.new.ensures.meta ∙ finished.under in
    IfOk-weaker c.find_leaves.result _ _ (λ found among.
    found_in_any_case file meta (recovery_claimed self) (is_taken rest) (found_numbers found.items) finished.kept c.new.ensures.taken
    (subst₂ (λ (f : List ℕ) (m : Meta). FoundBelow f m (λ n. is_taken rest n ≡ true) m.high_water (found_numbers found.items)) same_file same_meta among))
    c.find_leaves.ensures.found
