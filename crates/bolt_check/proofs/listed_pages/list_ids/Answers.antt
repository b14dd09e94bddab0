use Rattle.std.proofs.Common.{◌≡◌, ◌∙◌, ◌<◌, length, arith}
use Rattle.bolt_check.proofs.{Words.shown_ids, Words.times_of, Words.use_at, ListedIds.times_before, ListedIds.times_more}
use Rattle.bolt_check.proofs.listed_pages.list_ids.Goals as goal

pub loop-i-preserved : goal.loop-i-preserved
loop-i-preserved c =
    let now = c.list_id.ensures in
    let long : length c.loop-i.table ≡ length c.args.table.now = omega arith in
    let inside : c.loop-i.i < length (shown_ids c.args.ids) = omega arith in
    record {
      used = λ n. now.used n ∙ c.loop-i.invariant.used n;
      times = λ n h. now.times n (omega arith)
          ∙ times_more (shown_ids c.args.ids) c.loop-i.i c.get.result n (times_of (use_at c.loop-i.table n)) inside c.get.ensures
          (c.loop-i.invariant.times n h);
      kept = λ n none. let before = times_before (shown_ids c.args.ids) c.loop-i.i c.get.result n inside c.get.ensures none in
          now.kept n before.1 ∙ c.loop-i.invariant.kept n before.0;
    }
