-- A walk from the later of the two paths comes to the part first.
use Rattle.std.proofs.Common.{◌∙◌, ap, sym}
use Rattle.bolt_report.proofs.Words.{left_of, ListForm, listing_lines, Path, path_of, rest_from, walk_checked, Wrote-same}
use Rattle.bolt_report.proofs.ListPartTexts.{same_listing, front}
use Rattle.bolt_text.proofs.Exports.{Wrote-unbegun}
use Rattle.bolt_tree.proofs.Exports.{part_from_later}
use Rattle.bolt_report.proofs.part_lines.put_list_part.Goals as goal

pub returns-in_err-walk-clause-written : goal.returns-in_err-walk-clause-written
returns-in_err-walk-clause-written g c = λ listing lists. Wrote-unbegun _ _ _ c.from_residual.ensures.1

pub returns-clause-written : goal.returns-clause-written
returns-clause-written g c = λ listing lists.
    let below = path_of c.args.below.now in
    let from = path_of c.args.from.now in
    let here = same_listing (walk_checked c.in_ok-walk.walk) c.args.checked listing c.in_ok-walk.ensures.checked lists in
    let left = c.in_ok-walk.ensures.rest listing lists ∙ ap (λ (p : Path). rest_from p listing) c.later_of.ensures in
    Wrote-same (ap (λ (form : ListForm). listing_lines form (front below (left_of c.in_ok-walk.walk listing))) c.new.ensures
    ∙ ap (listing_lines c.args.form) (ap (front below) left ∙ sym (part_from_later below from listing lists.rises))) (c.put_part.ensures.written listing here)
