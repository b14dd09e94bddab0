use Rattle.std.proofs.Common.{◌≡◌, ◌+◌, ◌-◌, ◌^◌, ◌≤◌, max, [], ◌∷◌}
use Rattle.bolt_stats.proofs.Words.{AreGood, bucket_figure, bytes_of, saturated, depth_of, figure, Figure, greatest, meta_of, one, own_figure}
use Rattle.bolt_stats.proofs.Words.{roots_of, total_of}
use Rattle.bolt_stats.proofs.ReadDepths.{bucket_end}
use Rattle.bolt_stats.proofs.bucket_stats.paged_stats.Given as goal

-- what was read, and the buckets that are left, are the whole
abbrev pub invariant-buckets : goal.invariant-buckets
invariant-buckets l = record {
  pages : l.pages.items ≡ [];
  roots : l.roots.items ≡ [];
  good : ∥ AreGood (bytes_of l.checked) (meta_of l.checked) (roots_of l.buckets.items) ∥₁;
  fits : (f : Figure) → figure f l.total ≤ 2 ^ 64 - 1;
  stats : (f : Figure)
      → saturated (figure f l.total
      + total_of (bytes_of l.checked) (meta_of l.checked) (own_figure (bytes_of l.checked) (meta_of l.checked) f) (roots_of l.buckets.items))
      ≡ saturated (bucket_figure f + total_of (bytes_of l.checked) (meta_of l.checked) (own_figure (bytes_of l.checked) (meta_of l.checked) f) (l.root ∷ []));
  depth_fits : l.total.depth ≤ 2 ^ 64 - 1;
  depth : saturated (max l.total.depth (greatest (bucket_end (bytes_of l.checked) (meta_of l.checked)) l.buckets.items))
      ≡ saturated (depth_of (bytes_of l.checked) (meta_of l.checked) l.root);
}

abbrev pub decreases-buckets : goal.decreases-buckets
decreases-buckets l = total_of (bytes_of l.checked) (meta_of l.checked) one (roots_of l.buckets.items)
