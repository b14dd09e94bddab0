-- Each member that begins with the path has its line written, and the first that doesn't ends the text.
use Rattle.std.proofs.Common.{rules, ◌∙◌, ap, sym}
use Rattle.bolt_lemmas.proofs.Exports.{iff_then}
use Rattle.bolt_report.proofs.Words.{front_more, front_none, item_view, lines_form, list_line, ListForm, Member, path_of, Wrote-same}
use Rattle.bolt_report.proofs.ListPartTexts.{front_text}
use Rattle.bolt_text.proofs.Exports.{front_fault}
use Rattle.bolt_report.proofs.part_lines.put_part.Goals as goal

pub part-init : goal.part-init
part-init g c = search (rules, front_none)

pub part-preserved : goal.part-preserved
part-preserved g c =
    let m : Member = (g.M.Members.last_path c.next.new.self, item_view c.in-Some.item) in
    let begins = sym (rw c.path.ensures at c.is_below.ensures) ∙ c.if-not-is_below.false in
    record {
      form = c.put.ensures.form ∙ c.part.invariant.form;
      same = λ whole. iff_then (c.next.ensures.reads whole) (c.part.invariant.same whole);
      put = λ whole lists.
          let first = (rw c.in-Some.is at c.in_ok-item.ensures.given) whole ((c.part.invariant.same whole).1 lists) in
          front_more (c.part.invariant.put whole lists)
          (Wrote-same (ap (λ (f : ListForm). list_line f m) c.part.invariant.form) (rw c.path-in-Some.ensures at c.in_ok-put.ensures.written))
          (front_text (path_of c.args.below.now) (lines_form c.args.lines.now) _ _ m first begins);
    }

pub returns-in_err-put-clause-written : goal.returns-in_err-put-clause-written
returns-in_err-put-clause-written g c = λ whole lists.
    let m : Member = (g.M.Members.last_path c.next.new.self, item_view c.in-Some.item) in
    let begins = sym (rw c.path.ensures at c.is_below.ensures) ∙ c.if-not-is_below.false in
    let first = (rw c.in-Some.is at c.in_ok-item.ensures.given) whole ((c.part.invariant.same whole).1 lists) in
    front_fault _ _ _ (c.part.invariant.put whole lists)
    (Wrote-same (ap (λ (f : ListForm). list_line f m) c.part.invariant.form) (rw c.path-in-Some.ensures at c.in_err-put.ensures.written))
    (front_text (path_of c.args.below.now) (lines_form c.args.lines.now) _ _ m first begins) c.from_residual-in_err-put.ensures.1
