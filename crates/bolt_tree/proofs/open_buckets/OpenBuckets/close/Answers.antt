use Rattle.std.proofs.Common.{rules, ◌-◌, Some, List, drop, length, take, sym, subst}
use Rattle.bolt_tree.proofs.Words.{AreCursorsOfFile, Checked, IsKeptStack, Position, cursor_checked, cursor_view}
use Rattle.bolt_tree.proofs.KeptLemmas.{goes_on, goes_on_view, innermost_file, others, views_left}
use Rattle.bolt_tree.proofs.open_buckets.OpenBuckets.close.Goals as goal

pub resume-requires : goal.resume-requires
resume-requires c =
    let w = c.in-Some.outer in
    let file =
    innermost_file c.args.self.now.checked c.args.self.now.waiting.items c.args.self.now.positions.items c.args.self.now.innermost
    c.in-Some-innermost.cursor c.args.self.now.kept c.in-Some-innermost.is in
    subst (λ (checked : Checked).
    ∥ IsKeptStack checked w.at w.is_past (take (length c.deref.result.now - w.begin) (drop w.begin c.deref.result.now)) ∥₁) (sym file)
    (subst (λ (ps : List Position). ∥ IsKeptStack c.args.self.now.checked w.at w.is_past (take (length ps - w.begin) (drop w.begin ps)) ∥₁)
    (sym c.deref.ensures.value)
    (goes_on c.args.self.now.checked c.args.self.now.waiting.items c.pop.new.self.items w c.args.self.now.positions.items c.args.self.now.innermost
    c.args.self.now.kept c.in-Some.ensures.items))

pub invariant_of-self-2 : goal.invariant_of-self-2
invariant_of-self-2 c =
    let file =
    innermost_file c.args.self.now.checked c.args.self.now.waiting.items c.args.self.now.positions.items c.args.self.now.innermost
    c.in-Some-innermost.cursor c.args.self.now.kept c.in-Some-innermost.is in
    let view =
    goes_on_view c.args.self.now.checked (cursor_checked c.in-Some-innermost.cursor) c.in-Some.outer c.args.self.now.positions.items c.deref.result.now
    (cursor_view c.resume.new.self) file c.deref.ensures.value c.resume.ensures in
    record {
      kept =
          subst (λ (ps : List Position). ∥ AreCursorsOfFile c.args.self.now.checked c.pop.new.self.items ps (Some c.resume.new.self) ∥₁)
          (sym c.truncate.ensures.items)
          (others c.args.self.now.checked c.args.self.now.waiting.items c.pop.new.self.items c.in-Some.outer c.args.self.now.positions.items
          c.args.self.now.innermost c.args.self.now.kept c.in-Some.ensures.items
          c.resume.new.self view);
    }

pub returns-clause-cursors : goal.returns-clause-cursors
returns-clause-cursors c outer last all = search (rules, innermost_file, goes_on_view, views_left)
