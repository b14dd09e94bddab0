-- The bucket at the path comes before all that begins with the path, so nothing is missed before it is found.
use Rattle.std.proofs.Common.{rules, ◌≡◌, ◌∙◌, ◌∷◌, ◌||◌, Bool, List, ap, sym}
use Rattle.bolt_lemmas.proofs.Exports.{iff_then}
use Rattle.bolt_report.proofs.Words.{front_more, is_bucket_at, item_view, length-map, lines_form, list_any, list_line, ListForm, listing_lines}
use Rattle.bolt_report.proofs.Words.{Member, member_cmp, path_of, rest_from, Rises, Wrote-same}
use Rattle.bolt_report.proofs.ListPartTexts.{before_bucket, has_next, left_part, over_unwanted, with_wanted}
use Rattle.bolt_text.proofs.Exports.{front_fault}
use Rattle.bolt_format.proofs.Exports.{front_same}
use Rattle.bolt_report.proofs.part_lines.put_bucket_part.Goals as goal
use Rattle.bolt_report.proofs.part_lines.put_bucket_part.Goals.{else-found-via-then-found+else-is_in_part, else-found-via-else-found}

pub part-init : goal.part-init
part-init g c = search (rules, length-map, list_any)

pub part-preserved-then-is_in_part : goal.part-preserved-then-is_in_part
part-preserved-then-is_in_part g c = search (rules, iff_then, has_next, front_more, with_wanted)

pub returns-in_err-put-clause-written : goal.returns-in_err-put-clause-written
returns-in_err-put-clause-written g c = λ whole lists up.
    let below = path_of c.args.below.now in
    let m : Member = (g.M.Members.last_path c.next.new.self, item_view c.in-Some.item) in
    let now = c.part.found || c.is_bucket_at-found.result in
    let is : now ≡ (c.part.found || is_bucket_at below m) = ap (λ (b : Bool). c.part.found || b) (rw c.path.ensures at c.is_bucket_at-found.ensures) in
    let both = sym (rw c.path-then-found.ensures at c.is_in_part.ensures) ∙ c.if-is_in_part.true in
    let first = (rw c.in-Some.is at c.in_ok-item.ensures.given) whole ((c.part.invariant.same whole).1 lists) in
    front_fault _ _ _ (rw first at (c.part.invariant.put whole lists up))
    (Wrote-same (ap (λ (f : ListForm). list_line f m) c.part.invariant.form) (rw c.path-then-is_in_part.ensures at c.in_err-put.ensures.written))
    (with_wanted below c.part.found now m _ is (path_of c.args.from.now) (lines_form c.args.lines.now) c.if-found.true both)
    c.from_residual-in_err-put.ensures.1

pub part-preserved : goal.part-preserved
part-preserved g c =
    let below = path_of c.args.below.now in
    let from = path_of c.args.from.now in
    let m : Member = (g.M.Members.last_path c.next.new.self, item_view c.in-Some.item) in
    let now = c.part.found || c.is_bucket_at-found.result in
    let is : now ≡ (c.part.found || is_bucket_at below m) = ap (λ (b : Bool). c.part.found || b) (rw c.path.ensures at c.is_bucket_at-found.ensures) in
    let first : (whole : g.M.Members.Whole) → g.M.Members.reads c.args.members.now whole
    → g.M.Members.left c.part.members whole ≡ m ∷ g.M.Members.left c.next.new.self whole =
    λ whole lists. (rw c.in-Some.is at c.in_ok-item.ensures.given) whole ((c.part.invariant.same whole).1 lists) in
    let passed : (ms : List Member) → Rises member_cmp (m ∷ ms)
    → rest_from from (left_part below c.part.found (m ∷ ms)) ≡ rest_from from (left_part below now ms) =
    λ ms up. elim c.else-found.branch [
      | else-found-via-then-found+else-is_in_part w ↦
          over_unwanted below c.part.found now m ms is from w.if-found.true (sym (rw w.path-then-found.ensures at w.is_in_part.ensures) ∙ w.if-is_in_part.false)
      | else-found-via-else-found w ↦ ap (rest_from from) (before_bucket below c.part.found now m ms is w.if-found.false up)
    ] in
    record {
      form = c.part.invariant.form;
      same = λ whole. iff_then (c.next.ensures.reads whole) (c.part.invariant.same whole);
      end = λ end is. c.part.invariant.end end (c.next.ensures.same_end end is);
      has = λ whole lists. rw (first whole lists) at (c.part.invariant.has whole lists) ∙ has_next below c.part.found now m _ is;
      rises = λ whole lists up. (rw (first whole lists) at (c.part.invariant.rises whole lists up)).1;
      put = λ whole lists up.
          let here = rw (first whole lists) at (c.part.invariant.rises whole lists up) in
          front_same (rw (first whole lists) at (c.part.invariant.put whole lists up))
          (ap (listing_lines (lines_form c.args.lines.now)) (passed (g.M.Members.left c.next.new.self whole) here));
    }
