-- Bytes of a file are those that are written for the numbers that stand in them.
use Rattle.std.proofs.Common.{◌≡◌, ◌∙◌, ◌⊎◌, ℕ, zero, suc, ◌+◌, ◌^◌, ◌<◌, ◌≤◌, ◌==◌, Bool, true, false, cond, List, [], ◌∷◌, ◌++◌, length, drop}
use Rattle.std.proofs.Common.{take, Option, None, Some, inl, inr, refl, sym, ap, arith, append_assoc}
use Rattle.std.proofs.Math.Nat.{mod-lt}
use Rattle.std.proofs.lemmas.Bool.{cases_lt, eqb-true}
use Rattle.std.proofs.lemmas.List.{append-nil, drop-drop, get_or-take, get_or_past, length-drop, length-take, length-take-le, take-append-drop}
use Rattle.std.proofs.lemmas.Option.{same_Some}
use Rattle.std.specs.Int.{byte_at, bytes_low_first}
use Rattle.byteorder.specs.{Endian.little_from, Endian.little_number, Numbers.length-bytes_low_first, Numbers.little_from-cons}
use Rattle.byteorder.specs.{Numbers.little_from-lt, Numbers.little_from-take, Numbers.little_number-reads_back}
use Rattle.bolt_format.proofs.Exports.{drop_bytes}
use Rattle.bolt_format.specs.{Bytes.IsBytes, Bytes.number_at, Elements.branch_child, Elements.branch_key_length, Elements.branch_key_start}
use Rattle.bolt_format.specs.{Elements.element_at}
use Rattle.bolt_format.specs.Elements.{leaf_flags, leaf_key_length, leaf_key_start, leaf_value_length}
use Rattle.bolt_format.specs.{Encoded.branch_header, Encoded.header_bytes, Encoded.leaf_flag, Encoded.leaf_header, Encoded.number_bytes}
use Rattle.bolt_format.specs.Headers.{count_field, flags_field, flags_of, id_field, kind_of, overflow_field}
use Rattle.bolt_format.specs.declared.header.Kind.{Kind}
use Rattle.bolt_format.specs.declared.header.Kind.TheVariants as kind

-- ---- a number has one list of so many bytes

one_number : (n : ℕ) (xs ys : List ℕ) → length xs ≡ n → length ys ≡ n → IsBytes xs → IsBytes ys → little_from 0 n xs ≡ little_from 0 n ys → xs ≡ ys
one_number zero [] [] long also are these same = refl
one_number (suc n) (x ∷ xs) (y ∷ ys) long also are these same =
    let a = little_from-cons 0 n x xs in
    let b = little_from-cons 0 n y ys in
    let low : x < 256 = are 0 in
    let less : y < 256 = these 0 in
    let first : x ≡ y = omega (arith, same, a, b, low, less) in
    let next : little_from 0 n xs ≡ little_from 0 n ys = omega (arith, same, a, b, low, less) in
    let rest : xs ≡ ys = one_number n xs ys (omega arith) (omega arith) (λ i. are (suc i)) (λ i. these (suc i)) next in
    cc
one_number n xs ys long also are these same = absurd (omega arith)

byte_small : (i x : ℕ) → byte_at i x < 256
byte_small zero x = mod-lt x (omega arith)
byte_small (suc i) x = mod-lt _ (omega arith)

number_small : (i n x : ℕ) → IsBytes (bytes_low_first i n x)
number_small i zero x k = omega arith
number_small i (suc n) x zero = byte_small i x
number_small i (suc n) x (suc k) = number_small (suc i) n x k

take_bytes : (bytes : List ℕ) (n : ℕ) → IsBytes bytes → IsBytes (take n bytes)
take_bytes bytes n h i = grind (arith, cases_lt, get_or-take, get_or_past, length-take)

-- so many bytes from a place on are those of their number
pub number_there : (bytes : List ℕ) (at n m : ℕ) → IsBytes bytes → at + n ≡ m → m ≤ length bytes
    → drop at bytes ≡ number_bytes n (number_at bytes at n) ++ drop m bytes
unfolding number_at number_bytes
number_there bytes at n m are end within =
    let from : List ℕ = drop at bytes in
    let x : ℕ = little_number n from in
    let these : IsBytes from = drop_bytes bytes at are in
    let left = length-drop at bytes in
    let long : length (take n from) ≡ n = length-take-le n from (omega (arith, left)) in
    let small : x < 256 ^ n = little_from-lt 0 n from these in
    let back : little_from 0 n (bytes_low_first 0 n x) ≡ x = rw append-nil at (little_number-reads_back n x [] small) in
    let same : little_from 0 n (take n from) ≡ little_from 0 n (bytes_low_first 0 n x) = little_from-take 0 n n from (omega arith) ∙ sym back in
    let is : take n from ≡ bytes_low_first 0 n x =
    one_number n (take n from) (bytes_low_first 0 n x) long (length-bytes_low_first 0 n x) (take_bytes from n these) (number_small 0 n x) same in
    let behind : drop n from ≡ drop m bytes = drop-drop n at bytes ∙ ap (λ (k : ℕ). drop k bytes) end in
    sym (take-append-drop n from) ∙ ap (λ (xs : List ℕ). xs ++ drop n from) is ∙ ap (λ (xs : List ℕ). bytes_low_first 0 n x ++ xs) behind

-- the same, if the number is known
known_there : (bytes : List ℕ) (at n m x : ℕ) → IsBytes bytes → at + n ≡ m → m ≤ length bytes → number_at bytes at n ≡ x
    → drop at bytes ≡ number_bytes n x ++ drop m bytes
known_there bytes at n m x are end within is = number_there bytes at n m are end within ∙ ap (λ (k : ℕ). number_bytes n k ++ drop m bytes) is

-- ---- headers

chosen : (b : Bool) (k is : Kind) (other : Option Kind) → cond b (Some k) other ≡ Some is → ((b ≡ true) × (k ≡ is)) ⊎ (other ≡ Some is)
chosen true k is other e = inl (refl, same_Some k is e)
chosen false k is other e = inr e

flags_are : (flags : ℕ) (is : Kind) → kind_of flags ≡ Some is → flags ≡ flags_of is
flags_are flags is e = elim (chosen (flags == 1) kind.Branch is _ e) [
  | inl (here, same) ↦ eqb-true flags 1 here ∙ ap flags_of same
  | inr more ↦ (elim (chosen (flags == 2) kind.Leaf is _ more) [
    | inl (here, same) ↦ eqb-true flags 2 here ∙ ap flags_of same
    | inr rest ↦ (elim (chosen (flags == 4) kind.Meta is _ rest) [
      | inl (here, same) ↦ eqb-true flags 4 here ∙ ap flags_of same
      | inr last ↦ (elim (chosen (flags == 16) kind.Freelist is None last) [
        | inl (here, same) ↦ eqb-true flags 16 here ∙ ap flags_of same
        | inr none ↦ absurd (cc)
      ])
    ])
  ])
]

-- that of a page
pub header_there : (bytes : List ℕ) (is : Kind) → IsBytes bytes → 16 ≤ length bytes → kind_of (flags_field bytes) ≡ Some is
    → bytes ≡ header_bytes (id_field bytes) is (count_field bytes) (overflow_field bytes) ++ drop 16 bytes
unfolding header_bytes
header_there bytes is are long known =
    let a = number_there bytes 0 8 8 are refl (omega arith) in
    let b = known_there bytes 8 2 10 (flags_of is) are refl (omega arith) (flags_are (flags_field bytes) is known) in
    let c = number_there bytes 10 2 12 are refl (omega arith) in
    let d = number_there bytes 12 4 16 are refl (omega arith) in
    let all : bytes ≡ number_bytes 8 (id_field bytes)
    ++ (number_bytes 2 (flags_of is) ++ (number_bytes 2 (count_field bytes) ++ (number_bytes 4 (overflow_field bytes) ++ drop 16 bytes))) =
    a ∙ ap (λ (xs : List ℕ). number_bytes 8 (id_field bytes) ++ xs)
    (b ∙ ap (λ (xs : List ℕ). number_bytes 2 (flags_of is) ++ xs) (c ∙ ap (λ (xs : List ℕ). number_bytes 2 (count_field bytes) ++ xs) d)) in
    simp append_assoc all

-- that of branch element i
pub branch_header_there : (bytes : List ℕ) (i pos key child : ℕ) → IsBytes bytes → element_at (suc i) ≤ length bytes
    → branch_key_start bytes i ≡ element_at i + pos → branch_key_length bytes i ≡ key → branch_child bytes i ≡ child
    → drop (element_at i) bytes ≡ branch_header pos key child ++ drop (element_at (suc i)) bytes
unfolding branch_header branch_key_start branch_key_length branch_child
branch_header_there bytes i pos key child are within start long leads =
    let a = known_there bytes (element_at i) 4 (element_at i + 4) pos are refl (omega arith) (omega (arith, start)) in
    let b = known_there bytes (element_at i + 4) 4 (element_at i + 8) key are (omega arith) (omega arith) long in
    let c = known_there bytes (element_at i + 8) 8 (element_at (suc i)) child are (omega arith) within leads in
    let all : drop (element_at i) bytes ≡ number_bytes 4 pos ++ (number_bytes 4 key ++ (number_bytes 8 child ++ drop (element_at (suc i)) bytes)) =
    a ∙ ap (λ (xs : List ℕ). number_bytes 4 pos ++ xs) (b ∙ ap (λ (xs : List ℕ). number_bytes 4 key ++ xs) c) in
    simp append_assoc all

-- that of leaf element i
pub leaf_header_there : (bytes : List ℕ) (i : ℕ) (is_bucket : Bool) (pos key value : ℕ) → IsBytes bytes → element_at (suc i) ≤ length bytes
    → leaf_flags bytes i ≡ leaf_flag is_bucket → leaf_key_start bytes i ≡ element_at i + pos → leaf_key_length bytes i ≡ key → leaf_value_length bytes i ≡ value
    → drop (element_at i) bytes ≡ leaf_header is_bucket pos key value ++ drop (element_at (suc i)) bytes
unfolding leaf_header leaf_flags leaf_key_start leaf_key_length leaf_value_length
leaf_header_there bytes i is_bucket pos key value are within flags start long more =
    let flag : ℕ = leaf_flag is_bucket in
    let a = known_there bytes (element_at i) 4 (element_at i + 4) flag are refl (omega arith) flags in
    let b = known_there bytes (element_at i + 4) 4 (element_at i + 8) pos are (omega arith) (omega arith) (omega (arith, start)) in
    let c = known_there bytes (element_at i + 8) 4 (element_at i + 12) key are (omega arith) (omega arith) long in
    let d = known_there bytes (element_at i + 12) 4 (element_at (suc i)) value are (omega arith) within more in
    let all : drop (element_at i) bytes
    ≡ number_bytes 4 flag ++ (number_bytes 4 pos ++ (number_bytes 4 key ++ (number_bytes 4 value ++ drop (element_at (suc i)) bytes))) =
    a ∙ ap (λ (xs : List ℕ). number_bytes 4 flag ++ xs)
    (b ∙ ap (λ (xs : List ℕ). number_bytes 4 pos ++ xs) (c ∙ ap (λ (xs : List ℕ). number_bytes 4 key ++ xs) d)) in
    simp append_assoc all
