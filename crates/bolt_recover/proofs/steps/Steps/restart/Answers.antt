-- The root page was kept before, so the tests find nothing there again.
use Rattle.std.proofs.Common.{arith, ◌∙◌, List, [], ◌∷◌, ◌++◌, Some, ap, sym, refl, subst₂}
use Rattle.bolt_recover.proofs.Words.{At_page, claims_file, claims_meta, IsMetaPage, KeepsRoot, node_at, OpenPage, passes_silent, props, root_spot}
use Rattle.bolt_recover.proofs.Words.{∥∥₁_elim}
use Rattle.bolt_recover.proofs.StepLemmas.{begins, root_gives, root_visit}
use Rattle.bolt_recover.proofs.steps.Steps.restart.Goals as goal

pub unreachable-requires : goal.unreachable-requires
unreachable-requires c =
    let claims = c.restart.new.self in
    let file = claims_file claims in
    let meta = claims_meta claims in
    let found = rw (c.root_of-root.ensures, c.meta.ensures) at c.in-Err.ensures.found in
    ∥∥₁_elim c.requires (hlevel props) (λ keeps.
    passes_silent (node_at file meta) IsMetaPage (At_page (root_spot meta.root)) _
    (subst₂ KeepsRoot (sym c.restart.ensures.file) (sym c.restart.ensures.meta) keeps)
    (root_gives claims (Some _) c.restart.ensures.metas found))

pub returns-clause-all : goal.returns-clause-all
returns-clause-all c =
    let old = c.args.self.now in
    let claims = c.restart.new.self in
    let page : OpenPage = record { content = c.in-Ok.content; path_len = 0; count = c.count.result; next = 0 } in
    let visit = rw (c.root_of-root.ensures, c.meta.ensures) at c.in-Ok.ensures in
    rw (← c.restart.ensures.file, ← c.restart.ensures.meta, ← c.restart.ensures.visited)
    (begins
    (record {
      alloc = old.alloc;
      claims = claims;
      ahead = Some (root_visit (claims_meta claims));
      «open» = c.clear.new.self;
      path = c.clear-2.new.self;
      losses = c.clear-3.new.self;
      gaps = c.clear-4.new.self;
      loss_path = old.loss_path;
    })
    c.visit.new.claims c.push_reserved.new.self c.note_gap.new.gaps old.loss_path c.in-Ok.content c.count.result
    refl c.clear.ensures.items c.clear-3.ensures.items c.clear-4.ensures.items c.restart.ensures.metas visit.file visit.meta visit.visited visit.passes
    visit.content visit.claims c.count.ensures (omega arith)
    (c.push_reserved.ensures.items ∙ ap (λ (ps : List OpenPage). ps ++ page ∷ []) c.clear.ensures.items)
    (rw (visit.file, visit.meta, visit.content.spot) at c.note_gap.ensures))
