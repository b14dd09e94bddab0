-- A bucket has one set of figures.
use Rattle.std.proofs.Common.{ap}
use Rattle.bolt_report.proofs.{Words.bucket_checked, Words.bucket_start, Words.bytes_of, Words.meta_of, Words.props, Words.Stats, Words.Wrote-same}
use Rattle.bolt_report.proofs.{Words.∥∥₁_elim, SizeLemmas.size_some}
use Rattle.bolt_report.specs.SizeLines.{size_text}
use Rattle.bolt_stats.proofs.Exports.{one_stats}
use Rattle.bolt_text.proofs.Exports.{Wrote-unbegun, short_same, short_unbegun}
use Rattle.bolt_report.proofs.size_lines.put_bucket_size.Goals as goal

pub returns-in_err-stats-clause-written : goal.returns-in_err-stats-clause-written
returns-in_err-stats-clause-written g c = λ own are. Wrote-unbegun c.args.sink.now _ _ c.from_residual.ensures.1

-- each line has a first byte
pub returns-in_err-stats-clause-short : goal.returns-in_err-stats-clause-short
returns-in_err-stats-clause-short g c = λ own are. short_unbegun (size_some c.args.items.now.form own c.args.name.now)

pub returns-clause-written : goal.returns-clause-written
returns-clause-written g c = λ own are.
    let bucket = c.args.bucket.now in
    let same =
    ∥∥₁_elim c.in_ok-stats.ensures (hlevel props)
    (λ known. one_stats (bytes_of (bucket_checked bucket)) (meta_of (bucket_checked bucket)) (bucket_start bucket) c.in_ok-stats.stats own known are) in
    Wrote-same (ap (λ (stats : Stats). size_text c.args.items.now.form stats c.args.name.now) same) c.put_size.ensures.written

pub returns-clause-short : goal.returns-clause-short
returns-clause-short g c = λ own are.
    let bucket = c.args.bucket.now in
    let same =
    ∥∥₁_elim c.in_ok-stats.ensures (hlevel props)
    (λ known. one_stats (bytes_of (bucket_checked bucket)) (meta_of (bucket_checked bucket)) (bucket_start bucket) c.in_ok-stats.stats own known are) in
    short_same (ap (λ (stats : Stats). size_text c.args.items.now.form stats c.args.name.now) same) c.put_size.ensures.short
