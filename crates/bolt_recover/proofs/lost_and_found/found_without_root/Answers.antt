use Rattle.std.proofs.Common.{◌≡◌, ◌∙◌, ◌↔◌, ℕ, List, Bool, true, subst, subst₂, sym}
use Rattle.bolt_recover.proofs.{Words.FoundBelow, Words.is_taken, Words.IsMetaPage, Words.Meta, Words.found_numbers, FoundAll.found_rootless}
use Rattle.bolt_recover.proofs.{Words.IfOk-weaker}
use Rattle.bolt_recover.proofs.lost_and_found.found_without_root.Goals as goal

pub returns-clause-found : goal.returns-clause-found
returns-clause-found c =
    let file = c.args.file.now in
    let meta = c.args.meta in
    let rest = c.new-2.result in
    let made = c.in_ok-claims.ensures in
    IfOk-weaker c.find_leaves.result _ _ (λ found below.
    found_rootless file meta c.requires.lost.0 c.requires.lost.1 (is_taken rest) (found_numbers found.items)
    (λ n. subst (λ (b : Bool). (b ≡ true) ↔ IsMetaPage n) (sym (c.new-2.ensures.taken n)) (made.metas n))
    (subst₂ (λ (f : List ℕ) (m : Meta). FoundBelow f m (λ n. is_taken rest n ≡ true) m.high_water (found_numbers found.items))
    (c.new-2.ensures.file ∙ made.file) (c.new-2.ensures.meta ∙ made.meta) below)) c.find_leaves.ensures.found
