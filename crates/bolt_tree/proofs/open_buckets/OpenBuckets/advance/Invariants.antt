use Rattle.std.proofs.Common.{◌≡◌, length}
use Rattle.bolt_tree.proofs.Words.{ForListing, IsInPlace, beyond, cursors_of, left_by, open_path}
use Rattle.bolt_tree.proofs.open_buckets.OpenBuckets.advance.Given as goal

-- what stands beyond the path is what was left at the beginning
abbrev pub invariant-loop-self : goal.invariant-loop-self
invariant-loop-self l = record {
  checked : l.self.checked ≡ l.fn.self.checked;
  placed : IsInPlace l.self;
  left : ForListing l.self.checked (λ listing. left_by l.fn.ahead (open_path l.fn.self) listing ≡ beyond (open_path l.self) listing);
}

abbrev pub decreases-loop-self : goal.decreases-loop-self
decreases-loop-self l = length (cursors_of l.self)
