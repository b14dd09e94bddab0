use Rattle.std.proofs.Common.{◌≡◌, ◌⊎◌, ◌+◌, ◌-◌, ◌^◌, ◌<◌, ◌≤◌, ◌++◌, max, [], ◌∷◌}
use Rattle.bolt_stats.proofs.Words.{AreGood, bytes_of, saturated, deepest_of, depth_of, figure, Figure, greatest, height_of, meta_of, unread_numbers}
use Rattle.bolt_stats.proofs.Words.{one, own_figure, total_of}
use Rattle.bolt_stats.proofs.ReadDepths.{page_height}
use Rattle.bolt_stats.proofs.bucket_stats.read_bucket.Given as goal

-- what was read, and what is left, are the whole
abbrev pub invariant-pages : goal.invariant-pages
invariant-pages l = record {
  good : ∥ AreGood (bytes_of l.checked) (meta_of l.checked) (unread_numbers l.pages.items ++ l.roots.items) ∥₁;
  fewer : ((unread_numbers l.pages.items ≡ l.root ∷ []) × (l.roots.items ≡ []))
      ⊎ (total_of (bytes_of l.checked) (meta_of l.checked) one (unread_numbers l.pages.items)
      + total_of (bytes_of l.checked) (meta_of l.checked) one l.roots.items
      < total_of (bytes_of l.checked) (meta_of l.checked) one (l.root ∷ []));
  fits : (f : Figure) → figure f l.whole.stats ≤ 2 ^ 64 - 1;
  stats : (f : Figure)
      → saturated (figure f l.whole.stats
      + (total_of (bytes_of l.checked) (meta_of l.checked) (own_figure (bytes_of l.checked) (meta_of l.checked) f) (unread_numbers l.pages.items)
      + total_of (bytes_of l.checked) (meta_of l.checked) (own_figure (bytes_of l.checked) (meta_of l.checked) f) l.roots.items))
      ≡ saturated (total_of (bytes_of l.checked) (meta_of l.checked) (own_figure (bytes_of l.checked) (meta_of l.checked) f) (l.root ∷ []));
  height : saturated (max l.whole.height (greatest (page_height (bytes_of l.checked) (meta_of l.checked)) l.pages.items))
      ≡ saturated (height_of (bytes_of l.checked) (meta_of l.checked) 1 l.root);
  deepest : max l.whole.inline_depth
      (max (greatest (deepest_of (bytes_of l.checked) (meta_of l.checked)) (unread_numbers l.pages.items))
      (greatest (depth_of (bytes_of l.checked) (meta_of l.checked)) l.roots.items))
      ≡ deepest_of (bytes_of l.checked) (meta_of l.checked) l.root;
}

abbrev pub decreases-pages : goal.decreases-pages
decreases-pages l = total_of (bytes_of l.checked) (meta_of l.checked) one (unread_numbers l.pages.items)
