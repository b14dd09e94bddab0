use Rattle.std.proofs.Common.{arith, ◌∙◌, List, ◌++◌, Option, Some, refl, sym, ap, subst}
use Rattle.std.proofs.lemmas.Grind.{common_steps}
use Rattle.bolt_tree.proofs.Words.{AreCursorsOfFile, Cursor, Position, cursor_view, fresh_view}
use Rattle.bolt_tree.proofs.KeptLemmas.{first_one, innermost_file, opens_fresh, put_last, same_file, same_views, waits, waits_view}
use Rattle.bolt_tree.proofs.open_buckets.OpenBuckets.open.Goals as goal

pub invariant_of-self-in_default : goal.invariant_of-self-in_default
invariant_of-self-in_default c = record {
  kept =
      first_one c.args.self.now.checked c.args.self.now.waiting.items c.args.self.now.positions.items c.args.self.now.innermost c.cursor.result
      c.args.self.now.kept c.in_default.is
      (c.cursor.ensures.checked ∙ c.requires);
}

pub begin-requires : goal.begin-requires
begin-requires c = grind (arith, common_steps, innermost_file)

pub invariant_of-self-in-Break-branch-2 : goal.invariant_of-self-in-Break-branch-2
invariant_of-self-in-Break-branch-2 c = record {
  kept = subst (λ (o : Option Cursor). ∥ AreCursorsOfFile c.args.self.now.checked c.reserve-2.new.self.items c.args.self.now.positions.items o ∥₁) c.in-Some.is
      (same_file c.args.self.now.checked c.args.self.now.waiting.items c.reserve-2.new.self.items c.args.self.now.positions.items
      c.args.self.now.positions.items c.args.self.now.innermost
      c.reserve-2.ensures.items refl c.args.self.now.kept);
}

pub invariant_of-self-in-Break-branch-3 : goal.invariant_of-self-in-Break-branch-3
invariant_of-self-in-Break-branch-3 c = record {
  kept =
      subst (λ (o : Option Cursor). ∥ AreCursorsOfFile c.args.self.now.checked c.reserve-2.new.self.items c.extend_from_slice.new.self.items o ∥₁) c.in-Some.is
      (same_file c.args.self.now.checked c.args.self.now.waiting.items c.reserve-2.new.self.items c.args.self.now.positions.items
      c.extend_from_slice.new.self.items c.args.self.now.innermost
      c.reserve-2.ensures.items c.in_err-extend_from_slice.ensures.items c.args.self.now.kept);
}

pub invariant_of-self-2 : goal.invariant_of-self-2
invariant_of-self-2 c =
    let cursors = c.args.self.now in
    let file = innermost_file cursors.checked cursors.waiting.items cursors.positions.items cursors.innermost c.in-Some.cursor cursors.kept c.in-Some.is in
    let put =
    put_last cursors.waiting.items c.reserve-2.new.self.items c.push_reserved.new.self.items c.at.result c.in-Some.cursor.pages.at c.is_past.result
    c.in-Some.cursor.is_past c.len-begin.result
    c.push_reserved.ensures.items c.reserve-2.ensures.items c.at.ensures c.is_past.ensures in
    let more = c.in_ok-extend_from_slice.ensures.items ∙ ap (λ (ps : List Position). cursors.positions.items ++ ps) c.positions.ensures in
    record {
      kept = same_file cursors.checked _ c.push_reserved.new.self.items _ c.extend_from_slice.new.self.items (Some c.begin.new.self) put more
          (waits cursors.checked cursors.waiting.items cursors.positions.items cursors.innermost c.in-Some.cursor c.begin.new.self c.len-begin.result
          cursors.kept c.in-Some.is
          (c.len-begin.ensures ∙ cursors.positions.ok.0) (c.begin.ensures.checked ∙ file));
    }

pub returns-clause-cursors : goal.returns-clause-cursors
returns-clause-cursors c =
    let cursors = c.args.self.now in
    let file = innermost_file cursors.checked cursors.waiting.items cursors.positions.items cursors.innermost c.in-Some.cursor cursors.kept c.in-Some.is in
    let put =
    put_last cursors.waiting.items c.reserve-2.new.self.items c.push_reserved.new.self.items c.at.result c.in-Some.cursor.pages.at c.is_past.result
    c.in-Some.cursor.is_past c.len-begin.result
    c.push_reserved.ensures.items c.reserve-2.ensures.items c.at.ensures c.is_past.ensures in
    let more = c.in_ok-extend_from_slice.ensures.items ∙ ap (λ (ps : List Position). cursors.positions.items ++ ps) c.positions.ensures in
    opens_fresh _ _ (cursor_view c.begin.new.self) (fresh_view c.args.bucket)
    (same_views cursors.checked _ c.push_reserved.new.self.items _ c.extend_from_slice.new.self.items put more
    ∙ waits_view cursors.checked cursors.waiting.items cursors.positions.items cursors.innermost c.in-Some.cursor c.begin.new.self c.len-begin.result
    cursors.kept c.in-Some.is
    (c.len-begin.ensures ∙ cursors.positions.ok.0) (c.begin.ensures.checked ∙ file))
    (c.begin.ensures.checked ∙ (file ∙ sym c.requires)) (c.begin.ensures.start ∙ c.at-2.ensures.start) c.begin.ensures.place
