-- What was given is dropped too, and then the values after it; after the last member nothing is left.
use Rattle.std.proofs.Common.{◌∙◌, List, [], ◌∷◌, ◌++◌, Result, OnErr, ap, append_assoc, sym, arith}
use Rattle.bolt_recover.proofs.{Words.Member, Words.recovery_file, Words.recovery_left, Words.recovery_meta, Existing.recovers}
use Rattle.bolt_recover.specs.Recoveries.{DropsFirst, LeavesRest}
use Rattle.bolt_recover.proofs.recovery.Recovery.finish.Goals as goal

drops_on : (a b c : List Member) → DropsFirst a b → DropsFirst b c → DropsFirst a c
drops_on a b c (first, whole) (then, rest) = (first ++ then, whole ∙ ap (λ (ms : List Member). first ++ ms) rest ∙ sym (append_assoc first then c))

on_error : {T E : Type 0} (result : Result T E) (P : Type 0) → P → OnErr result P
on_error result P p = grind arith

pub loop-self-preserved : goal.loop-self-preserved
loop-self-preserved c =
    let was = c.loop-self.invariant in
    let next = c.in_ok-next.ensures in
    let skipped = c.skip_values.ensures in
    let given = rw c.in-Some.is at next.given in
    record {
      file = skipped.file ∙ next.file ∙ was.file;
      meta = skipped.meta ∙ next.meta ∙ was.meta;
      begun = skipped.begun ∙ next.begun ∙ was.begun;
      rest = λ listing recovered.
          let here = rw (← was.file, ← was.meta) at recovered in
          let there = rw (← next.file, ← next.meta) at here in
          drops_on _ (recovery_left c.loop-self.self listing) _ (was.rest listing recovered)
          (drops_on _ (recovery_left c.next.new.self listing) _ (_ ∷ [], given listing here) (skipped.dropped listing there));
    }

pub returns-in_err-next-clause-dropped : goal.returns-in_err-next-clause-dropped
returns-in_err-next-clause-dropped c =
    let was = c.loop-self.invariant in
    on_error c.from_residual.result (LeavesRest c.args.self.now c.next.new.self) (λ listing recovered.
    let (dropped, whole) = was.rest listing recovered in
    (dropped, whole ∙ ap (λ (ms : List Member). dropped ++ ms) (sym (c.in_err-next.ensures.same listing (rw (← was.file, ← was.meta) at recovered)))))

pub returns-clause-all : goal.returns-clause-all
returns-clause-all c = rw (← c.loop-self.invariant.file, ← c.loop-self.invariant.meta) (rw c.in_default.is at c.in_ok-next.ensures.all)

pub returns-clause-kept : goal.returns-clause-kept
returns-clause-kept c = rw (← c.loop-self.invariant.file, ← c.loop-self.invariant.meta) (rw c.in_default.is at c.in_ok-next.ensures.kept)

pub returns-clause-none : goal.returns-clause-none
returns-clause-none c = λ listing recovered.
    let given = rw c.in_default.is at c.in_ok-next.ensures.given in
    (given listing (rw (← c.loop-self.invariant.file, ← c.loop-self.invariant.meta) at recovered)).1

pub returns-clause-path : goal.returns-clause-path
returns-clause-path c =
    let self = c.loop-self.self in
    let given = rw c.in_default.is at c.in_ok-next.ensures.given in
    (given _ (recovers (recovery_file self) (recovery_meta self))).2

pub returns-clause-gaps : goal.returns-clause-gaps
returns-clause-gaps c = rw (← c.loop-self.invariant.file, ← c.loop-self.invariant.meta) (rw c.in_default.is at c.in_ok-next.ensures.gaps)
