use Rattle.std.proofs.Common.{◌≡◌, ◌∙◌, refl, rules, sym}
use Rattle.bolt_commands.proofs.Vocabulary.{bucket_checked, bytes_of, fewer_left, meta_of, next_shows, next_stands, no_stats}
use Rattle.bolt_commands.proofs.StatsAnswers.{adds_bucket, adds_none, shown_none, shown_some, total_more}
use Rattle.bolt_tree.proofs.Exports.{stands_on}
use Rattle.bolt_commands.proofs.commands.stats_command.sum_buckets.Goals as goal

pub rest-init : goal.rest-init
rest-init c = record {
  checked = c.cursor-cursor.ensures.checked;
  start = c.cursor-cursor.ensures.start;
  sum = λ entries are total known.
      let none : c.default-total.result ≡ no_stats = search (rules, c.default-total.ensures) in
      rw (none, c.cursor-cursor.ensures.place) at known;
}

pub rest-smaller : goal.rest-smaller
rest-smaller c =
    let (x, shown) = shown_some c.next.result (sym c.is_some.ensures ∙ c.rest-test.true) in
    fewer_left c.args.bucket.now _ _ _ _ x c.rest.invariant.checked c.rest.invariant.start (rw shown at c.next.ensures.moves)

pub rest-smaller-in-Some : goal.rest-smaller-in-Some
rest-smaller-in-Some c =
    let (x, shown) = shown_some c.next.result (sym c.is_some.ensures ∙ c.rest-test.true) in
    fewer_left c.args.bucket.now _ _ _ _ x c.rest.invariant.checked c.rest.invariant.start (rw shown at c.next.ensures.moves)

pub rest-preserved : goal.rest-preserved
rest-preserved c = record {
  checked = c.next.ensures.checked ∙ c.rest.invariant.checked;
  start = c.next.ensures.start ∙ c.rest.invariant.start;
  sum = λ entries are total later.
      let bucket = c.args.bucket.now in
      let (x, shown) = shown_some c.next.result (sym c.is_some.ensures ∙ c.rest-test.true) in
      let (e, is, first, at) = next_stands _ _ _ _ _ _ x c.rest.invariant.checked c.rest.invariant.start (rw shown at c.next.ensures.moves) entries are in
      let plain = stands_on _ _ _ _ _ (c.next.ensures.start ∙ c.rest.invariant.start) (rw c.in_default.is at c.bucket_at.ensures.bucket) entries are e at in
      c.rest.invariant.sum entries are total
      (total_more (bytes_of (bucket_checked bucket)) (meta_of (bucket_checked bucket)) _ _ e _ _ total first
      (adds_none (bytes_of (bucket_checked bucket)) (meta_of (bucket_checked bucket)) c.rest.total e plain) later);
}

pub rest-preserved-in-Some : goal.rest-preserved-in-Some
rest-preserved-in-Some c = record {
  checked = c.next.ensures.checked ∙ c.rest.invariant.checked;
  start = c.next.ensures.start ∙ c.rest.invariant.start;
  sum = λ entries are total later.
      let bucket = c.args.bucket.now in
      let (x, shown) = shown_some c.next.result (sym c.is_some.ensures ∙ c.rest-test.true) in
      let (e, is, first, at) = next_stands _ _ _ _ _ _ x c.rest.invariant.checked c.rest.invariant.start (rw shown at c.next.ensures.moves) entries are in
      let own = stands_on _ _ _ _ _ (c.next.ensures.start ∙ c.rest.invariant.start) c.in-Some.ensures.bucket entries are e at in
      let adds =
      adds_bucket c.in-Some.inner (bucket_checked bucket) _ c.rest.total c.add-total.result e c.in-Some.ensures.checked own c.in_ok-stats.ensures
      c.add-total.ensures in
      c.rest.invariant.sum entries are total (total_more (bytes_of (bucket_checked bucket)) (meta_of (bucket_checked bucket)) _ _ e _ _ total first adds later);
}

pub returns : goal.returns
returns c = λ entries are.
    let moves = rw (shown_none c.next.result (sym c.is_some.ensures ∙ c.rest-test.false)) at c.next.ensures.moves in
    let none = next_shows _ _ _ _ _ _ _ c.rest.invariant.checked c.rest.invariant.start moves entries are in
    c.rest.invariant.sum entries are c.rest.total (rw none (∣ refl ∣₁))
