-- Headers, and the heads of buckets' values, that were written are read back.
use Rattle.std.proofs.Common.{◌≡◌, ◌∙◌, ℕ, ◌+◌, ◌^◌, ◌<◌, ◌≤◌, ◌==◌, nat_lt, Bool, true, false, List, [], ◌++◌, length, drop, None, Some, refl, sym}
use Rattle.std.proofs.Common.{ap, arith, append_assoc, append-nil}
use Rattle.std.proofs.{lemmas.Bool.le-ltb, lemmas.Bool.ne_eqb, lemmas.List.length-append}
use Rattle.bolt_format.specs.Elements.{branch_child, branch_key_length, branch_key_start, element_at, head_fault, head_root, leaf_flags}
use Rattle.bolt_format.specs.Elements.{leaf_key_length, leaf_key_start, leaf_value_length, value_fault}
use Rattle.bolt_format.specs.Headers.{flags_of, kind_of}
use Rattle.bolt_format.specs.ReadBack.{IsBranchHeader, IsBranchHeaderFit, IsHead, IsHeader, IsHeaderFit, IsLeafHeader, IsLeafHeaderFit}
use Rattle.bolt_format.specs.{Encoded.branch_header, Encoded.head_bytes, Encoded.header_bytes, Encoded.leaf_flag, Encoded.leaf_header}
use Rattle.bolt_format.specs.{Encoded.number_bytes, declared.header.Kind.Kind}
use Rattle.bolt_format.specs.declared.header.Kind.TheVariants as kind
use Rattle.bolt_format.proofs.{FaultLemmas.first_of-both, NumberLemmas.length-number_bytes, NumberLemmas.number_next, NumberLemmas.number_read}

-- The header of a page.
flags_small : (k : Kind) → flags_of k < 256 ^ 2
flags_small kind.Branch = omega arith
flags_small kind.Leaf = omega arith
flags_small kind.Meta = omega arith
flags_small kind.Freelist = omega arith

kind_of-flags : (k : Kind) → kind_of (flags_of k) ≡ Some k
kind_of-flags kind.Branch = refl
kind_of-flags kind.Leaf = refl
kind_of-flags kind.Meta = refl
kind_of-flags kind.Freelist = refl

pub header_written : (bytes rest : List ℕ) (number : ℕ) (is : Kind) (count overflow : ℕ) → bytes ≡ header_bytes number is count overflow ++ rest
    → IsHeaderFit number count overflow → IsHeader bytes number is count overflow × (drop 16 bytes ≡ rest)
unfolding header_bytes
header_written bytes rest number is count overflow h fit =
    let d0 : drop 0 bytes ≡ number_bytes 8 number ++ (number_bytes 2 (flags_of is) ++ (number_bytes 2 count ++ (number_bytes 4 overflow ++ rest))) =
    h ∙ simp append_assoc in
    let d1 = number_next bytes _ 0 8 number 8 d0 refl in
    let d2 = number_next bytes _ 8 2 (flags_of is) 10 d1 refl in
    let d3 = number_next bytes _ 10 2 count 12 d2 refl in
    let flags = number_read bytes _ 8 2 (flags_of is) d1 (flags_small is) in (
      record {
        id = number_read bytes _ 0 8 number d0 fit.id;
        flags = flags;
        kind = ap kind_of flags ∙ kind_of-flags is;
        count = number_read bytes _ 10 2 count d2 fit.count;
        overflow = number_read bytes _ 12 4 overflow d3 fit.overflow;
      },
      number_next bytes rest 12 4 overflow 16 d3 refl,
    )

pub length-header_bytes : (number : ℕ) (is : Kind) (count overflow : ℕ) → length (header_bytes number is count overflow) ≡ 16
unfolding header_bytes
length-header_bytes number is count overflow = grind (arith, length-number_bytes, length-append)

-- The header of a branch element.
pub branch_header_written : (bytes rest : List ℕ) (i pos key child : ℕ) → drop (element_at i) bytes ≡ branch_header pos key child ++ rest
    → IsBranchHeaderFit pos key child → IsBranchHeader bytes i pos key child × (drop (element_at (i + 1)) bytes ≡ rest)
unfolding branch_header branch_key_start branch_key_length branch_child
branch_header_written bytes rest i pos key child h fit =
    let d0 : drop (element_at i) bytes ≡ number_bytes 4 pos ++ (number_bytes 4 key ++ (number_bytes 8 child ++ rest)) = h ∙ simp append_assoc in
    let d1 = number_next bytes _ (element_at i) 4 pos (element_at i + 4) d0 refl in
    let d2 = number_next bytes _ (element_at i + 4) 4 key (element_at i + 8) d1 (omega arith) in (
      record {
        start = ap (λ (n : ℕ). element_at i + n) (number_read bytes _ (element_at i) 4 pos d0 fit.start);
        key = number_read bytes _ (element_at i + 4) 4 key d1 fit.key;
        child = number_read bytes rest (element_at i + 8) 8 child d2 fit.child;
      },
      number_next bytes rest (element_at i + 8) 8 child (element_at (i + 1)) d2 (omega arith),
    )

pub length-branch_header : (pos key child : ℕ) → length (branch_header pos key child) ≡ 16
unfolding branch_header
length-branch_header pos key child = grind (arith, length-number_bytes, length-append)

-- The header of a leaf element.
flag_small : (b : Bool) → leaf_flag b < 256 ^ 4
flag_small true = omega arith
flag_small false = omega arith

flag_bucket : (b : Bool) → (leaf_flag b == 1) ≡ b
flag_bucket true = refl
flag_bucket false = refl

pub leaf_header_written : (bytes rest : List ℕ) (i : ℕ) (is_bucket : Bool) (pos key value : ℕ)
    → drop (element_at i) bytes ≡ leaf_header is_bucket pos key value ++ rest
    → IsLeafHeaderFit pos key value → IsLeafHeader bytes i is_bucket pos key value × (drop (element_at (i + 1)) bytes ≡ rest)
unfolding leaf_header leaf_flags leaf_key_start leaf_key_length leaf_value_length
leaf_header_written bytes rest i is_bucket pos key value h fit =
    let flag : ℕ = leaf_flag is_bucket in
    let d0 : drop (element_at i) bytes ≡ number_bytes 4 flag ++ (number_bytes 4 pos ++ (number_bytes 4 key ++ (number_bytes 4 value ++ rest))) =
    h ∙ simp append_assoc in
    let d1 = number_next bytes _ (element_at i) 4 flag (element_at i + 4) d0 refl in
    let d2 = number_next bytes _ (element_at i + 4) 4 pos (element_at i + 8) d1 (omega arith) in
    let d3 = number_next bytes _ (element_at i + 8) 4 key (element_at i + 12) d2 (omega arith) in
    let flags = number_read bytes _ (element_at i) 4 flag d0 (flag_small is_bucket) in (
      record {
        flags = flags;
        bucket = ap (λ (n : ℕ). n == 1) flags ∙ flag_bucket is_bucket;
        start = ap (λ (n : ℕ). element_at i + n) (number_read bytes _ (element_at i + 4) 4 pos d1 fit.start);
        key = number_read bytes _ (element_at i + 8) 4 key d2 fit.key;
        value = number_read bytes _ (element_at i + 12) 4 value d3 fit.value;
      },
      number_next bytes rest (element_at i + 12) 4 value (element_at (i + 1)) d3 (omega arith),
    )

pub length-leaf_header : (is_bucket : Bool) (pos key value : ℕ) → length (leaf_header is_bucket pos key value) ≡ 16
unfolding leaf_header
length-leaf_header is_bucket pos key value = grind (arith, length-number_bytes, length-append)

-- The head of a bucket's value.
pub length-head_bytes : (root sequence : ℕ) → length (head_bytes root sequence) ≡ 16
unfolding head_bytes
length-head_bytes root sequence = grind (arith, length-number_bytes, length-append)

pub head_written : (value rest : List ℕ) (root sequence : ℕ) → value ≡ head_bytes root sequence ++ rest → root < 2 ^ 64 → sequence < 2 ^ 64
    → IsHead value root sequence rest
unfolding head_bytes
head_written value rest root sequence h small sized =
    let d0 : drop 0 value ≡ number_bytes 8 root ++ (number_bytes 8 sequence ++ rest) = h ∙ simp append_assoc in
    let d1 = number_next value _ 0 8 root 8 d0 refl in
    let l = ap (λ (xs : List ℕ). length xs) d0 in
    let a = length-number_bytes 8 root in
    let b = length-number_bytes 8 sequence in
    let long : length value ≡ 8 + (8 + length rest) = l ∙ simp length-append (omega (arith, a, b)) in
    let room : nat_lt (length value) 16 ≡ false = le-ltb (length value) 16 (omega arith) in
    record {
      root = number_read value _ 0 8 root d0 small;
      sequence = number_read value rest 8 8 sequence d1 sized;
      inline = number_next value rest 8 8 sequence 16 d1 refl;
      passes = rw room refl;
    }

-- the value of a bucket with a root page passes its tests
pub root_passes : (root sequence : ℕ) → 1 ≤ root → root < 2 ^ 64 → sequence < 2 ^ 64 → value_fault (head_bytes root sequence) ≡ None
unfolding value_fault
root_passes root sequence some small sized =
    let value : List ℕ = head_bytes root sequence in
    let head = head_written value [] root sequence (sym (append-nil value)) small sized in
    let not_zero : (head_root value == 0) ≡ false = ap (λ (n : ℕ). n == 0) head.root ∙ ne_eqb root 0 (λ e. omega arith) in
    first_of-both (head_fault value) _ head.passes (rw not_zero refl)
