-- Memory for the item is there before anything is written, and what is open of the outer bucket stays until then.
use Rattle.std.proofs.Common.{◌∙◌, ◌+◌, ap, arith, rules, ℕ, length}
use Rattle.bolt_bulk.specs.Private.{bucket_runs, BucketRunsView, leaves_have_room, root_element, runs_end, runs_push}
use Rattle.bolt_bulk.proofs.{BucketLemmas.room_fits, PutsLemmas.closes_early}
use Rattle.bolt_format.proofs.Exports.{length-head_bytes}
use Rattle.bolt_bulk.proofs.bucket_runs.BucketRuns.end_inner.Goals as goal

pub push_reserved-requires-clause-size : goal.push_reserved-requires-clause-size
push_reserved-requires-clause-size g c = let l = length-head_bytes c.in_ok-root.root c.args.sequence in omega arith

pub push_reserved-requires-clause-room : goal.push_reserved-requires-clause-room
push_reserved-requires-clause-room g c =
    let size : ℕ = 32 + length c.args.key.now in
    let same = ap (λ (runs : BucketRunsView). leaves_have_room c.args.writer.now.setup.page_size runs.leaves size) (c.reserve.ensures.runs 0) in
    room_fits c.args.writer.now.setup.page_size size c.reserve.new.self.leaves c.args.writer.now.setup.high c.in_ok-reserve.ensures.open.leaves
    (omega arith) (same ∙ c.requires.room)

pub returns-in_err-reserve-clause-ends : goal.returns-in_err-reserve-clause-ends
returns-in_err-reserve-clause-ends g c = record { closes = closes_early c.from_residual.ensures.1 c.in_err-reserve.ensures.fault; runs = search rules }

pub returns-clause-ends : goal.returns-clause-ends
returns-clause-ends g c =
    let closes = c.in_ok-root.ensures.closes.closes in
    record {
      closes = record { writes = record { pages = closes.writes.pages; large = tt }; short = tt; marked = closes.marked };
      runs = λ before.
          let f : BucketRunsView → ℕ → ℕ → BucketRunsView =
          λ runs root next. runs_push runs (root_element c.args.key.now root c.args.sequence) (32 + length c.args.key.now) next in
          c.push_reserved.ensures.runs before c.close_runs.new.writer.next
          ∙ (ap (λ (runs : BucketRunsView). f runs c.in_ok-root.root c.close_runs.new.writer.next) (c.reserve.ensures.runs before)
          ∙ (ap (λ (n : ℕ). f (bucket_runs c.args.self.now before) n c.close_runs.new.writer.next) c.in_ok-root.ensures.closes.root
          ∙ ap (λ (n : ℕ).
          f (bucket_runs c.args.self.now before) (runs_end c.args.writer.now.setup.page_size (bucket_runs c.args.inner.now c.args.writer.now.next)) n)
          closes.marked));
    }
