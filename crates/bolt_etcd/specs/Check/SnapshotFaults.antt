-- etcd's snapshots: docs/COMMANDS.md, "Snapshots".
use Rattle.std.specs.Prelude.{◌≡◌, ◌==◌, ◌-◌, ◌%◌, ℕ, List, ◌++◌, Bool, drop, length, take, Option, None, Some, not, if◌then◌else◌}
use Rattle.std.specs.Str.{bytes_eq}
use Rattle.sha2.specs.Sha256.{sha256}
use Rattle.bolt_etcd.specs.declared.check.snapshot.SnapshotFault.{SnapshotFault}
use Rattle.bolt_etcd.specs.declared.check.snapshot.SnapshotFault.TheVariants.{HashMissing, HashCutOff, HashDiffers}

-- a file, and its hash after it
abbrev pub snapshot_of : List ℕ → List ℕ
snapshot_of body = body ++ sha256 body

-- a file of whole blocks of 512 bytes, and the hash of it
pub record IsSnapshot (file : List ℕ) : Type 0 where
  pub body : List ℕ
  pub parts : file ≡ snapshot_of body
  pub blocks : length body % 512 ≡ 0

-- the bytes before the hash, and the hash itself
abbrev pub body_of : List ℕ → List ℕ
body_of file = take (length file - 32) file

abbrev pub hash_of : List ℕ → List ℕ
hash_of file = drop (length file - 32) file

-- the fault of a hash by the number of bytes after the last whole block, and whether they are the hash of all before them
abbrev pub fault_by : (extra : ℕ) (is_right : Bool) → Option SnapshotFault
fault_by extra is_right =
    if extra == 0 then Some HashMissing
    else if not (extra == 32) then Some HashCutOff
    else if is_right then None
    else Some HashDiffers

-- The hash is missing if the file has whole blocks of 512 bytes alone. It is cut off if the file ends anywhere else than 32 bytes after a
-- block. It differs if the file ends there, and those 32 bytes aren't the hash of all bytes before them.
abbrev pub hash_fault : List ℕ → Option SnapshotFault
hash_fault file = fault_by (length file % 512) (bytes_eq (sha256 (body_of file)) (hash_of file))

-- what is wrong if only this many bytes of a hash are there
abbrev pub cut_hash_fault : ℕ → SnapshotFault
cut_hash_fault n = if n == 0 then HashMissing else HashCutOff
