use Rattle.std.proofs.Common.{◌∙◌, ap, arith, is_lt, sym, false, ◌≡◌}
use Rattle.std.proofs.lemmas.Bool.{ltb-true}
use Rattle.std.specs.Str.{bytes_eq}
use Rattle.bolt_lemmas.proofs.Exports.{same_at}
use Rattle.bolt_check.specs.Keys.{Key, key_cmp}
use Rattle.bolt_etcd.specs.declared.wire.revision.Revision.{Revision}
use Rattle.bolt_repair.proofs.{KeyWalks.found, KeyWalks.past_all}
use Rattle.bolt_repair.proofs.candidates.has_candidate.Goals as goal
use Rattle.bolt_repair.proofs.candidates.has_candidate.Goals.{then-loop-i-test+else-is_under_lesser_key, else-loop-i-test}

pub returns-then-i-candidates : goal.returns-then-i-candidates
returns-then-i-candidates c =
    let key = c.args.key.now in
    let xs = c.args.candidates.now in
    let r = c.index-candidates-i-then-i-candidates.result in
    let at = c.index-candidates-i-then-i-candidates.is in
    let not_less : is_lt (key_cmp r.key.now key) ≡ false = elim c.loop-i-test.branch [
      | then-loop-i-test+else-is_under_lesser_key w ↦
          let same = same_at xs c.loop-i.i w.index-candidates-i.result r c.if-i-candidates.true w.index-candidates-i.is at in
          ap (λ (x : Revision). is_lt (key_cmp x.key.now key)) (sym same) ∙ sym w.is_under_lesser_key.ensures ∙ w.if-is_under_lesser_key.false
      | else-loop-i-test w ↦ absurd (let past = w.loop-i-test.false in let within = c.if-i-candidates.true in omega (arith, past, within))
    ] in
    found key xs c.requires c.loop-i.i r c.loop-i.invariant c.if-i-candidates.true at not_less c.eq.result
    (c.eq.ensures ∙ ap (λ (k : Key). bytes_eq k key) c.stored_key.ensures.entry)

pub returns-else-i-candidates : goal.returns-else-i-candidates
returns-else-i-candidates c = (
  λ e. absurd (let lt = ltb-true _ _ e in let past = c.if-i-candidates.false in omega (arith, lt, past)),
  λ has. absurd (past_all c.args.key.now c.args.candidates.now c.requires c.loop-i.i c.loop-i.invariant c.if-i-candidates.false has),
)
