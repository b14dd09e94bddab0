-- Each member is taken, and then the root bucket ends.
use Rattle.std.proofs.Common.{◌≡◌, ◌∙◌, ℕ, [], Ok, refl, sym, subst}
use Rattle.std.specs.Prelude.{⊤}
use Rattle.bolt_layout.specs.Layout.{first_page}
use Rattle.bolt_tree.specs.{Paths.path_of, ShownEntries.item_view, Tree.tree_of}
use Rattle.bolt_bulk.specs.{Private.HasLeft, Private.Steps, Private.Wanted, declared.page_setup.PageSetup.PageSetup}
use Rattle.bolt_bulk.proofs.{PassAt.steps_failed, PassAt.steps_then, PassEnds.ends_after, PassEnds.ends_early, PassLeft.left_same}
use Rattle.bolt_bulk.proofs.{PassLeft.steps_begun}
use Rattle.bolt_bulk.proofs.{FileLayouts.listing_is_back, WalkLeft.first_fits, WalkLeft.others_fit, WalkLeft.whole_fits}
use Rattle.bolt_bulk.proofs.members_copy.put_members.Goals as goal

pub members-init : goal.members-init
members-init g c = record {
  same = λ whole. (λ is. is, λ is. is);
  end = λ end is. is;
  setup = c.new-pass.ensures.setup;
  writer = record { setup = refl; sink = refl };
  ready = c.new-pass.ensures.ready;
  fit = whole_fits g.M.Members.reads g.M.Members.left c.args.members.now c.requires.whole;
  steps = λ which whole is fit.
      let wanted : Wanted = record { which = which; tree = tree_of (g.M.Members.listing whole); notes = c.args.notes } in
      let all = listing_is_back (g.M.Members.listing whole) (c.requires.whole.one whole is) ∙ sym (c.requires.whole.all whole is) in
      subst (λ (n : ℕ).
      Steps {A = ⊤} wanted g.S.Sink c.args.writer.now.sink.now c.args.writer.now.sink.now c.args.writer.now.setup []
      (HasLeft wanted c.new-pass.result n (g.M.Members.left c.args.members.now whole)) (Ok tt)) (sym c.requires.first)
      (subst (λ (b : PageSetup).
      Steps {A = ⊤} wanted g.S.Sink c.args.writer.now.sink.now c.args.writer.now.sink.now b []
      (HasLeft wanted c.new-pass.result first_page (g.M.Members.left c.args.members.now whole)) (Ok tt)) c.new-pass.ensures.setup
      (steps_begun (left_same all (c.new-pass.ensures.at wanted refl fit))));
}

pub returns-in_err-item-clause-pages : goal.returns-in_err-item-clause-pages
returns-in_err-item-clause-pages g c = λ which whole is fit.
    ends_early c.from_residual.ensures.1 (steps_failed {B = ⊤} (c.members.invariant.steps which whole is fit))

pub returns-clause-pages : goal.returns-clause-pages
returns-clause-pages g c = λ which whole is fit.
    let given = rw c.in_default.is at c.in_ok-item.ensures.given in
    let none : g.M.Members.left c.members.members whole ≡ [] = (given whole ((c.members.invariant.same whole).1 is)).0 in
    ends_after c.members.invariant.setup (c.members.invariant.steps which whole is fit)
    (λ all mid. c.end_all.ensures.ends _ all (left_same none mid))

pub take_member-requires-clause-fit : goal.take_member-requires-clause-fit
take_member-requires-clause-fit g c =
    let given = rw (c.in-Some.is, sym c.path.ensures) at c.in_ok-item.ensures.given in
    first_fits g.M.Members.reads g.M.Members.left c.args.members.now c.members.members c.next.new.self (path_of c.path.result.now) (item_view c.in-Some.item)
    c.requires.whole.some c.members.invariant.fit
    (λ whole is. given whole ((c.members.invariant.same whole).1 is))

pub returns-in_err-take_member-clause-pages : goal.returns-in_err-take_member-clause-pages
returns-in_err-take_member-clause-pages g c = λ which whole is fit.
    let given = rw (c.in-Some.is, sym c.path.ensures) at c.in_ok-item.ensures.given in
    let next = given whole ((c.members.invariant.same whole).1 is) in
    ends_early c.from_residual-in_err-take_member.ensures.1 (steps_then {B = ⊤} c.members.invariant.setup (c.members.invariant.steps which whole is fit)
    (λ all mid. c.in_err-take_member.ensures.steps _ (g.M.Members.left c.next.new.self whole) all (left_same next mid)))

pub members-preserved : goal.members-preserved
members-preserved g c =
    let given = rw (c.in-Some.is, sym c.path.ensures) at c.in_ok-item.ensures.given in
    record {
      same = λ whole. (
        λ is. (c.members.invariant.same whole).0 ((c.next.ensures.reads whole).0 is),
        λ is. (c.next.ensures.reads whole).1 ((c.members.invariant.same whole).1 is),
      );
      end = λ end is. c.members.invariant.end end (c.next.ensures.same_end end is);
      setup = c.in_ok-take_member.ensures.on.setup ∙ c.members.invariant.setup;
      writer = record {
        setup = c.in_ok-take_member.ensures.same.setup ∙ c.members.invariant.writer.setup;
        sink = c.in_ok-take_member.ensures.same.sink ∙ c.members.invariant.writer.sink;
      };
      ready = c.in_ok-take_member.ensures.on.ready;
      fit =
          others_fit g.M.Members.reads g.M.Members.left c.args.members.now c.members.members c.next.new.self (path_of c.path.result.now)
          (item_view c.in-Some.item)
          c.members.invariant.fit (λ whole is. given whole ((c.members.invariant.same whole).1 is));
      steps = λ which whole is fit.
          steps_then c.members.invariant.setup (c.members.invariant.steps which whole is fit)
          (λ all mid.
          c.in_ok-take_member.ensures.steps _ (g.M.Members.left c.next.new.self whole) all
          (left_same (given whole ((c.members.invariant.same whole).1 is)) mid));
    }
