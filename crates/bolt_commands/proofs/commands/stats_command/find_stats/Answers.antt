use Rattle.std.proofs.Common.{◌∙◌, length, sym}
use Rattle.bolt_commands.proofs.{Vocabulary.both_ways, Vocabulary.eq-eqb, Vocabulary.eqb-true, StatsAnswers.bucket_stats, StatsAnswers.root_stats}
use Rattle.bolt_commands.proofs.commands.stats_command.find_stats.Goals as goal

pub returns-then-is_empty-clause-found : goal.returns-then-is_empty-clause-found
returns-then-is_empty-clause-found c =
    let path = c.args.path.now in
    root_stats path c.args.checked c.root.result c.in_ok-sum_buckets.field-0 (eqb-true (length path) 0 (sym c.is_empty.ensures ∙ c.if-is_empty.true)) c.requires
    c.root.ensures.checked c.root.ensures.start c.in_ok-sum_buckets.ensures

pub returns-clause-found : goal.returns-clause-found
returns-clause-found c =
    let path = c.args.path.now in
    bucket_stats path c.args.checked c.in_ok-bucket.bucket c.in_ok-stats.field-0
    (λ empty. both_ways _ (sym c.is_empty.ensures ∙ c.if-is_empty.false) (eq-eqb (length path) 0 empty))
    c.in_ok-bucket.ensures.file c.in_ok-bucket.ensures.named c.in_ok-stats.ensures
