use Rattle.std.proofs.Common.{◌≡◌, ◌++◌, flat_map, max}
use Rattle.bolt_stats.proofs.Words.{greatest, inline_depth, leaf_entry, LeafElement, leaves_left, leaves_on, root_page_of}
use Rattle.bolt_stats.proofs.bucket_stats.find_buckets.Given as goal

-- with the buckets of the elements that are left, all will be found
abbrev pub invariant-loop-leaf : goal.invariant-loop-leaf
invariant-loop-leaf l = record {
  roots : l.roots.items ++ flat_map root_page_of (leaves_left l.leaf-iterator) ≡ l.initial.roots.items ++ flat_map root_page_of (leaves_on l.page);
  depth : max l.deepest (greatest (λ (e : LeafElement). inline_depth (leaf_entry e)) (leaves_left l.leaf-iterator))
      ≡ greatest (λ (e : LeafElement). inline_depth (leaf_entry e)) (leaves_on l.page);
}
