-- The hash is right exactly if the file is a snapshot.
use Rattle.std.proofs.Common.{◌≡◌, ◌↔◌, ◌∙◌, ◌-◌, ◌%◌, ◌+◌, ◌<◌, ℕ, List, ◌++◌, Bool, true, Option, None, Some, ap, arith, length, length-append}
use Rattle.std.proofs.Common.{length-take-le, sym, take, take-append-drop}
use Rattle.std.proofs.{Math.Seq.drop-append_seam, Math.Seq.take-append_seam, lemmas.Slice.Eq.bytes_eq-Decides}
use Rattle.std.specs.Str.{bytes_eq}
use Rattle.sha2.specs.Sha256.{sha256}
use Rattle.sha2.proofs.Facts256.{length-sha256}
use Rattle.bolt_etcd.specs.Check.SnapshotFaults.{IsSnapshot, body_of, cut_hash_fault, fault_by, hash_fault, hash_of, snapshot_of}
use Rattle.bolt_etcd.specs.declared.check.snapshot.SnapshotFault.{SnapshotFault}

-- where the hash begins
seam : (body : List ℕ) → length (body ++ sha256 body) - 32 ≡ length body
seam body = omega (arith, length-append body (sha256 body), length-sha256 body)

right_of : (body : List ℕ) → sha256 (body_of (body ++ sha256 body)) ≡ hash_of (body ++ sha256 body)
right_of body = grind (arith, seam, take-append_seam, drop-append_seam)

length_of : (body : List ℕ) → length body % 512 ≡ 0 → length (body ++ sha256 body) % 512 ≡ 32
length_of body blocks = omega (arith, length-append body (sha256 body), length-sha256 body)

no_fault : (file body : List ℕ) → file ≡ body ++ sha256 body → length body % 512 ≡ 0 → hash_fault file ≡ None
no_fault file body parts blocks = grind (arith, bytes_eq-Decides, right_of, length_of)

both_right : (extra : ℕ) (is_right : Bool) → fault_by extra is_right ≡ None → (extra ≡ 32) × (is_right ≡ true)
both_right extra is_right none = grind arith

is_snapshot : (file : List ℕ) → length file % 512 ≡ 32 → sha256 (body_of file) ≡ hash_of file → IsSnapshot file
is_snapshot file long right =
    let n = length file - 32 in
    let block : (length file - 32) % 512 ≡ 0 = omega arith in
    record {
      body = body_of file;
      parts = sym (take-append-drop n file) ∙ ap (λ hash. take n file ++ hash) (sym right);
      blocks = ap (λ k. k % 512) (length-take-le n file (omega arith)) ∙ block;
    }

pub no_fault_iff : (file : List ℕ) (fault : Option SnapshotFault) → fault ≡ hash_fault file → fault ≡ None ↔ IsSnapshot file
no_fault_iff file fault is = (
  λ none. let tests = both_right (length file % 512) (bytes_eq (sha256 (body_of file)) (hash_of file)) (sym is ∙ none) in
      is_snapshot file tests.0 ((bytes_eq-Decides _ _).0 tests.1),
  λ snapshot. is ∙ no_fault file snapshot.body snapshot.parts snapshot.blocks,
)

cut_length : (body : List ℕ) (n : ℕ) → length body % 512 ≡ 0 → n < 32 → length (take (length body + n) (snapshot_of body)) % 512 ≡ n
cut_length body n blocks less = grind (arith, length-append, length-sha256, length-take-le)

cut_by : (n : ℕ) (is_right : Bool) → n < 32 → fault_by n is_right ≡ Some (cut_hash_fault n)
cut_by n is_right less = grind arith

pub cut_fault : (body : List ℕ) (n : ℕ) → length body % 512 ≡ 0 → n < 32
    → hash_fault (take (length body + n) (snapshot_of body)) ≡ Some (cut_hash_fault n)
cut_fault body n blocks less = grind (arith, cut_length, cut_by)
