use Rattle.std.proofs.Common.{◌≡◌, drop}
use Rattle.bolt_format.specs.Bytes.{fnv_from, fnv_of}
use Rattle.bolt_format.proofs.bytes.fnv1a.Given as goal

-- the hash so far and the bytes that are left give the hash of all
abbrev pub invariant-loop-byte : goal.invariant-loop-byte
invariant-loop-byte l = fnv_from l.hash (drop l.byte-index l.bytes) ≡ fnv_of l.bytes
