-- What a command says of the hash of a snapshot: docs/COMMANDS.md, "Snapshots".
use Rattle.std.specs.Prelude.{ℕ, List, ◌++◌, Bool, true, false, Option, None, Some}
use Rattle.sha2.specs.Sha256.{sha256}
use Rattle.bolt_etcd.specs.{Check.SnapshotFaults.hash_fault, declared.check.snapshot.SnapshotFault.SnapshotFault}
use Rattle.bolt_etcd.specs.declared.check.snapshot.SnapshotFault.TheVariants.{HashCutOff, HashDiffers, HashMissing}

-- what is wrong with the hash, if a snapshot is asked for
abbrev pub asked_hash_fault : (snapshot : Bool) → List ℕ → Option SnapshotFault
asked_hash_fault false file = None
asked_hash_fault true file = hash_fault file

-- a file without a hash has none that isn't right
abbrev of_hash : Option SnapshotFault → Option SnapshotFault
of_hash None = None
of_hash (Some HashMissing) = None
of_hash (Some HashCutOff) = Some HashCutOff
of_hash (Some HashDiffers) = Some HashDiffers

-- a snapshot is to be made of the file, but the hash that it has isn't right
abbrev pub bad_hash : (snapshot : Bool) → List ℕ → Option SnapshotFault
bad_hash snapshot file = of_hash (asked_hash_fault snapshot file)

-- a copy is a layout and, in a snapshot, its hash after it
abbrev pub copy_of : (snapshot : Bool) → (layout : List ℕ) → List ℕ
copy_of false layout = layout
copy_of true layout = layout ++ sha256 layout
