use Rattle.std.proofs.Common.{◌∙◌, arith, inl, refl}
use Rattle.bolt_lemmas.proofs.Exports.{none_left}
use Rattle.bolt_stats.proofs.{ReadDepths.moved_depth, ReadSums.moved_from, ReadSums.moved_sum}
use Rattle.bolt_stats.proofs.bucket_stats.add_buckets.Goals as goal

pub roots-preserved : goal.roots-preserved
roots-preserved c = record {
  sums =
      λ w. moved_sum c.roots.buckets.items c.push.new.self.items _ c.roots.roots.items c.pop.new.self.items c.in-Some.root c.in-Some.ensures.items
      c.in_ok-push.ensures.items refl w ∙ c.roots.invariant.sums w;
  from =
      λ m h. c.roots.invariant.from m
      (moved_from c.roots.buckets.items c.push.new.self.items _ c.roots.roots.items c.pop.new.self.items c.in-Some.root c.in-Some.ensures.items
      c.in_ok-push.ensures.items refl m h);
  deepest =
      λ f. moved_depth c.roots.buckets.items c.push.new.self.items c.roots.roots.items c.pop.new.self.items c.in-Some.root f c.args.above
      c.in-Some.ensures.items c.in_ok-push.ensures.items ∙ c.roots.invariant.deepest f;
}

pub returns-clause-sums : goal.returns-clause-sums
returns-clause-sums c =
    λ w. let whole = rw (none_left _ _ _ c.in_default.ensures.cases.0 c.in_default.ensures.rest c.in_default.ensures.items) at (c.roots.invariant.sums w) in
    omega (arith, whole)

pub returns-clause-from : goal.returns-clause-from
returns-clause-from c = λ m h. c.roots.invariant.from m (inl h)

pub returns-clause-deepest : goal.returns-clause-deepest
returns-clause-deepest c =
    λ f. let whole = rw (none_left _ _ _ c.in_default.ensures.cases.0 c.in_default.ensures.rest c.in_default.ensures.items) at (c.roots.invariant.deepest f) in
    omega (arith, whole)
