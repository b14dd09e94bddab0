use Rattle.std.proofs.Common.{arith, ◌∙◌, List, [], ◌∷◌, ◌++◌, None, Some, ap, refl}
use Rattle.bolt_recover.proofs.Words.{claims_file, claims_meta, IsRefusedRoot, OpenPage, passed_on}
use Rattle.bolt_recover.specs.declared.root_fault.RootFault.TheVariants.{Lost}
use Rattle.bolt_recover.proofs.StepLemmas.{begins, root_gives, root_visit}
use Rattle.bolt_recover.proofs.steps.Steps.new.Goals as goal

pub returns-in_err-content-clause-refused : goal.returns-in_err-content-clause-refused
returns-in_err-content-clause-refused c =
    passed_on c.from_residual.result (Lost c.in_err-content.field-0.0) (IsRefusedRoot (claims_file c.args.claims) (claims_meta c.args.claims))
    (root_gives c.args.claims (Some c.in_err-content.field-0.0) c.requires (rw (c.root_of-root.ensures, c.meta.ensures) at c.in_err-content.ensures.found))
    c.from_residual.ensures.1

pub returns-clause-all : goal.returns-clause-all
returns-clause-all c =
    let page : OpenPage = record { content = c.in_ok-content.content; path_len = 0; count = c.count.result; next = 0 } in
    let visit = rw (c.root_of-root.ensures, c.meta.ensures) at c.in_ok-content.ensures in
    let empty = c.reserve.ensures.items ∙ c.new-open.ensures.items in
    begins
    (record {
      alloc = c.args.alloc;
      claims = c.args.claims;
      ahead = Some (root_visit (claims_meta c.args.claims));
      «open» = c.reserve.new.self;
      path = c.new.result;
      losses = c.new-2.result;
      gaps = c.reserve-2.new.self;
      loss_path = c.new-3.result;
    })
    c.visit.new.claims c.push_reserved.new.self c.note_gap.new.gaps c.new-3.result c.in_ok-content.content c.count.result
    refl empty c.new-2.ensures.items (c.reserve-2.ensures.items ∙ c.new-gaps.ensures.items) c.requires visit.file visit.meta visit.visited visit.passes
    visit.content visit.claims c.count.ensures (omega arith)
    (c.push_reserved.ensures.items ∙ ap (λ (ps : List OpenPage). ps ++ page ∷ []) empty)
    (rw (visit.file, visit.meta, visit.content.spot) at c.note_gap.ensures)

pub returns-clause-root : goal.returns-clause-root
returns-clause-root c = root_gives c.args.claims None c.requires (rw (c.root_of-root.ensures, c.meta.ensures) at c.in_ok-content.ensures.passes)
