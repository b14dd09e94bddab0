use Rattle.bolt_stats.proofs.{Words.bucket_checked, Words.bytes_of, Words.meta_of, Words.∥∥₁_elim, Words.∥∥₁_map, Words.∥∥₁_prop, StatsExist.are_good}
use Rattle.bolt_stats.proofs.{StatsExist.paged_stats_are}
use Rattle.bolt_check.proofs.Exports.{checked_trees}
use Rattle.bolt_stats.proofs.bucket_stats.stats.Goals as goal

pub paged_stats-requires : goal.paged_stats-requires
paged_stats-requires c =
    let checked = bucket_checked c.args.bucket.now in
    rw c.checked.ensures
    (∥∥₁_elim c.in-Page.ensures.begins ∥∥₁_prop
    (λ on. ∥∥₁_map (checked_trees checked) (λ trees. are_good (bytes_of checked) (meta_of checked) trees c.in-Page.root on)))

pub returns-in_ok-paged_stats-in-Page : goal.returns-in_ok-paged_stats-in-Page
returns-in_ok-paged_stats-in-Page c =
    let checked = bucket_checked c.args.bucket.now in
    let stats = rw c.checked.ensures at c.in_ok-paged_stats-in-Page.ensures.stats in
    let depth = rw c.checked.ensures at c.in_ok-paged_stats-in-Page.ensures.depth in
    rw (← c.in-Page.ensures.start)
    (∥∥₁_elim c.in-Page.ensures.begins ∥∥₁_prop (λ on. ∥∥₁_map (checked_trees checked) (λ trees.
    paged_stats_are (bytes_of checked) (meta_of checked) trees c.in-Page.root on c.in_ok-paged_stats-in-Page.field-0 stats depth)))
