use Rattle.std.proofs.Common.{◌≡◌, ◌<◌, length, take}
use Rattle.bolt_tree.proofs.Words.{IsInPlace, IsNamed, open_path, path_of}
use Rattle.bolt_tree.proofs.open_buckets.OpenBuckets.seek.Given as goal

-- the parts so far name the bucket, and unless there are none, one is left
abbrev pub invariant-loop-i : goal.invariant-loop-i
invariant-loop-i l = record {
  checked : l.self.checked ≡ l.initial.self.checked;
  placed : IsInPlace l.self;
  named : IsNamed l.self l.bucket;
  parts : open_path l.self ≡ path_of (take l.i l.path);
  more : 0 < l.i → l.i < length l.path;
}
