-- One row after another gets its limit.
use Rattle.std.proofs.Common.{List, ap, arith, drop, get_or, length, map, refl, subst, sym, ℕ, ◌+◌, ◌<◌, ◌∙◌, ◌∷◌, ◌≡◌, ◌≤◌}
use Rattle.std.proofs.{lemmas.List.drop_more, lemmas.List.length-map, Math.ListN.get_or-map}
use Rattle.bolt_bulk.specs.{Private.limit_in, Private.run_end, declared.limits.Limits.Limits}
use Rattle.bolt_bulk.proofs.{LimitLemmas.Noting, LimitLemmas.noted_all, LimitLemmas.noting_more, limits.Limits.add_bucket.Goals.in-Some+in_ok-set}
use Rattle.bolt_bulk.proofs.{limits.Limits.add_bucket.Goals.in_default}
use Rattle.bolt_bulk.proofs.limits.Limits.add_bucket.Goals as goal

pub loop-level-preserved : goal.loop-level-preserved
loop-level-preserved c =
    let i : ℕ = c.loop-level.level in
    let rows : List (ℕ × ℕ) = map run_end c.args.runs.now in
    let row : ℕ × ℕ = run_end c.index-runs-level.result in
    let count = length-map c.args.runs.now run_end in
    let within : i < length rows = (let t = c.loop-level-test.true in let e = c.loop-level.auto.level-end in omega arith) in
    let same : get_or rows i row ≡ row = get_or-map run_end c.args.runs.now i c.index-runs-level.result ∙ ap run_end (sym c.index-runs-level.is) in
    let at : drop i rows ≡ row ∷ drop (i + 1) rows = drop_more rows i row within ∙ ap (λ (r : ℕ × ℕ). r ∷ drop (i + 1) rows) same in
    let Then : Limits → Type 0 = λ l. Noting c.args.self.now l c.args.bucket rows c.row_limit-limit.result.loses (i + 1) in
    let more =
    λ (new : Limits).
    noting_more c.args.self.now c.loop-level.self new c.args.bucket rows c.loop-level.lost c.row_limit-limit.result.loses i row
    c.row_limit-limit.result.allowed at c.row_limit-limit.ensures c.loop-level.invariant in
    elim c.match-limit.branch [
      | in-Some+in_ok-set w ↦ subst Then (sym w.self-is) (more w.set.new.self (λ _. w.in_ok-set.ensures.row ∙ sym w.in-Some.is) w.in_ok-set.ensures.others)
      | in_default w ↦ subst Then (sym w.self-is) (more c.loop-level.self (λ none. none ∙ sym w.in_default.is) (λ b k other. refl))
    ]

pub returns-clause-noted : goal.returns-clause-noted
returns-clause-noted c =
    let count = length-map c.args.runs.now run_end in
    let past : length (map run_end c.args.runs.now) ≤ c.loop-level.level =
    (let t = c.loop-level-test.false in let e = c.loop-level.auto.level-end in omega arith) in
    λ fresh. noted_all (map run_end c.args.runs.now) c.loop-level.lost c.loop-level.level (limit_in c.loop-level.self c.args.bucket) past
    (c.loop-level.invariant.below fresh) (c.loop-level.invariant.above fresh) c.loop-level.invariant.rest
