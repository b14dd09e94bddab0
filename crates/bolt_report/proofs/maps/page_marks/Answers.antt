use Rattle.std.proofs.Common.{rules, ◌≡◌, ◌∙◌, ◌+◌, ◌-◌, ◌≤◌, ◌++◌, ◌∷◌, [], ℕ, List, ap, arith, map, sym}
use Rattle.std.proofs.lemmas.List.FromFn.{map-range_with_len_more}
use Rattle.bolt_report.proofs.{Words.page_mark, Words.range_with_len, Words.roles_checked, PageTableLemmas.same_role}
use Rattle.bolt_report.proofs.maps.page_marks.Goals as goal

pub loop-id-preserved : goal.loop-id-preserved
loop-id-preserved c = record {
  short = omega (arith, c.push.ensures.items, c.push.ensures.len, c.loop-id.invariant.short, c.loop-id.auto.id);
  marks = λ roles are.
      let marks : ℕ → List ℕ = λ n. map (λ k. page_mark (roles k)) (range_with_len c.args.first n) in
      let id : ℕ = c.loop-id.id in
      let low : c.args.first ≤ id = omega (arith, c.loop-id.auto.id) in
      let mark =
      c.page_mark.ensures ∙ ap page_mark
      (same_role (roles_checked c.args.table.now) c.requires.accounts roles are id c.role.result (omega (arith, c.loop-id-test.true, c.requires.below))
      c.role.ensures) in
      c.push.ensures.items ∙ ap (λ t. t ++ c.page_mark.result ∷ []) (c.loop-id.invariant.marks roles are)
      ∙ ap (λ (m : ℕ). marks (id - c.args.first) ++ m ∷ []) mark
      ∙ sym (map-range_with_len_more (λ k. page_mark (roles k)) c.args.first (id - c.args.first) id (omega (arith, low)))
      ∙ ap marks (let e : id - c.args.first + 1 ≡ id + 1 - c.args.first = omega (arith, low) in e);
}

pub returns : goal.returns
returns c = search (rules, range_with_len)
