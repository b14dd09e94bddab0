use Rattle.std.proofs.Common.{◌∙◌, ◌<◌, ℕ, Global, Vec, append-nil, length, nat_le, sym, ap, arith}
use Rattle.std.proofs.{lemmas.Bool.le-leb, lemmas.Bool.lt-leb}
use Rattle.bolt_check.proofs.{ListedIds.past_more, Words.shown_ids, listed_pages.ids_from.Goals.else-first-id}
use Rattle.bolt_check.proofs.{listed_pages.ids_from.Goals.then-first-id+in_ok-push}
use Rattle.bolt_check.proofs.listed_pages.ids_from.Goals as goal

pub loop-i-preserved : goal.loop-i-preserved
loop-i-preserved c =
    let inside : c.loop-i.i < length (shown_ids c.args.ids) = omega arith in
    let more =
    past_more (λ id. nat_le c.args.first id) (shown_ids c.args.ids) c.loop-i.i c.get-id.result c.loop-i.past.items inside c.get-id.ensures c.loop-i.invariant in
    elim c.if-first-id.branch [
      | then-first-id+in_ok-push w ↦
          ap (λ (v : Vec ℕ Global). v.items) w.past-is ∙ w.in_ok-push.ensures.items ∙ rw (le-leb c.args.first c.get-id.result w.if-first-id.true) at more
      | else-first-id w ↦
          ap (λ (v : Vec ℕ Global). v.items) w.past-is ∙ sym (append-nil c.loop-i.past.items)
          ∙ rw (lt-leb c.args.first c.get-id.result w.if-first-id.false) at more
    ]
