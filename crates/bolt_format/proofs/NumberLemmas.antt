-- Numbers that were written as bytes are read back, one after another.
use Rattle.std.proofs.Common.{◌≡◌, ◌∙◌, ℕ, ◌+◌, ◌^◌, ◌<◌, ◌≤◌, List, ◌++◌, length, drop, take, refl, sym, ap, arith}
use Rattle.std.proofs.lemmas.List.{drop-drop, drop_at, take_at, length-append, length-drop}
use Rattle.byteorder.specs.{Numbers.little_number-reads_back, Numbers.length-bytes_low_first, Endian.little_number}
use Rattle.bolt_format.specs.{Bytes.number_at, Encoded.number_bytes}

pub length-number_bytes : (n x : ℕ) → length (number_bytes n x) ≡ n
unfolding number_bytes
length-number_bytes n x = length-bytes_low_first 0 n x

-- the number that stands at a place
pub number_read : (bytes rest : List ℕ) (at n x : ℕ) → drop at bytes ≡ number_bytes n x ++ rest → x < 256 ^ n → number_at bytes at n ≡ x
unfolding number_at number_bytes
number_read bytes rest at n x e h = ap (little_number n) e ∙ little_number-reads_back n x rest h

-- what comes after a part
pub part_next : (bytes part rest : List ℕ) (at m : ℕ) → drop at bytes ≡ part ++ rest → at + length part ≡ m → drop m bytes ≡ rest
part_next bytes part rest at m e h =
    ap (λ (k : ℕ). drop k bytes) (sym h) ∙ (sym (drop-drop (length part) at bytes) ∙ (ap (drop (length part)) e ∙ drop_at part rest (length part) refl))

pub number_next : (bytes rest : List ℕ) (at n x m : ℕ) → drop at bytes ≡ number_bytes n x ++ rest → at + n ≡ m → drop m bytes ≡ rest
number_next bytes rest at n x m e h = part_next bytes (number_bytes n x) rest at m e (let l = length-number_bytes n x in omega arith)

-- the part itself
pub part_read : (bytes part rest : List ℕ) (at n : ℕ) → drop at bytes ≡ part ++ rest → length part ≡ n → take n (drop at bytes) ≡ part
part_read bytes part rest at n e h = ap (take n) e ∙ take_at part rest n h

-- so there are as many bytes
pub part_within : (bytes part rest : List ℕ) (at : ℕ) → drop at bytes ≡ part ++ rest → at ≤ length bytes → at + length part ≤ length bytes
part_within bytes part rest at e h =
    let l = ap (λ (xs : List ℕ). length xs) e in
    let d : length (drop at bytes) ≡ length part + length rest = l ∙ length-append part rest in
    let f = length-drop at bytes in omega arith
