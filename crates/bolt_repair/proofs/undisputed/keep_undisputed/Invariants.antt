use Rattle.std.proofs.Common.{◌≡◌, ◌≤◌, ◌+◌, ◌++◌, true, drop, length, map, take}
use Rattle.bolt_etcd.specs.Wire.ShownRevisions.{entry_of}
use Rattle.bolt_repair.proofs.Alones.{alones, count_keys}
use Rattle.bolt_repair.proofs.undisputed.keep_undisputed.Given as goal

-- those kept and those to be kept are all such ones, and so are the keys
abbrev pub invariant-loop-i : goal.invariant-loop-i
invariant-loop-i l = record {
  long : length l.candidates.items ≡ length l.fn.candidates.items;
  kept : l.kept ≤ l.i;
  keys : l.keys ≤ l.i;
  told : map entry_of (take l.kept l.candidates.items) ++ alones l.is_first (map entry_of (drop l.i l.candidates.items))
      ≡ alones true (map entry_of l.fn.candidates.items);
  number : l.keys + count_keys (map entry_of (drop l.i l.candidates.items)) ≡ count_keys (map entry_of l.fn.candidates.items);
}
