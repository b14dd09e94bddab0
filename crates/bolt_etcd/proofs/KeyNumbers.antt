-- Revision keys are in the order of their numbers.
use Rattle.std.proofs.Common.{◌≡◌, ◌∙◌, ◌<◌, ◌≤◌, ◌+◌, ◌*◌, ◌%◌, ◌^◌, inl, inr, ℕ, zero, suc, Bool, true, false, List, [], ◌∷◌, ◌++◌, nat_cmp, nat_lt}
use Rattle.std.proofs.Common.{◌==◌, refl, sym, ap, arith, if◌then◌else◌}
use Rattle.std.proofs.Math.Nat.{mod-eq_of_lt, mod-lt, mul-le-mul_right, one-le-pow}
use Rattle.std.proofs.lemmas.Bool.{cases_order, cond-false, cond-true, le-ltb, lt-ltb, ne_eqb}
use Rattle.std.proofs.lemmas.Cmp.{nat_cmp_total, tied_itself}
use Rattle.std.specs.{Cmp.Lexicographic.slice_cmp, Int.byte_at, Int.bytes_high_first, Ordering.bool_cmp, Ordering.ordering_then}
use Rattle.std.specs.{declared.cmp.Ordering.Ordering}
use Rattle.std.specs.declared.cmp.Ordering.TheVariants.{Equal, Greater, Less}
use Rattle.byteorder.specs.{Endian.big_bytes, Numbers.big_from-bytes, Numbers.big_from-cons}
use Rattle.bolt_check.specs.Keys.{key_cmp}
use Rattle.bolt_etcd.specs.{Wire.RevisionKeys.IsSpelled, Wire.RevisionKeys.numbers_cmp, Wire.RevisionKeys.spelling}
use Rattle.bolt_etcd.specs.{declared.wire.revision_key.RevisionKey.RevisionKey}

pub less : (a b : ℕ) → a < b → nat_cmp a b ≡ Less
less a b lt = cond-true (nat_lt a b) _ _ (lt-ltb a b lt)

pub greater : (a b : ℕ) → b < a → nat_cmp a b ≡ Greater
greater a b lt = cond-false (nat_lt a b) _ _ (le-ltb a b (omega arith)) ∙ cond-false (a == b) _ _ (ne_eqb a b (λ e. omega (arith, lt, e)))

equal : (a b : ℕ) → a ≡ b → nat_cmp a b ≡ Equal
equal a b e = ap (nat_cmp a) (sym e) ∙ tied_itself nat_cmp_total a

-- two digits, the higher one first
digits_cmp : (unit a b c d : ℕ) → b < unit → d < unit → nat_cmp (a * unit + b) (c * unit + d) ≡ ordering_then (nat_cmp a c) (nat_cmp b d)
digits_cmp unit a b c d low high = elim (cases_order a c) [
  | inl same ↦ (
      let top : a * unit ≡ c * unit = ap (λ (n : ℕ). n * unit) same in
      rw (equal a c same) (elim (cases_order b d) [
        | inl e ↦ equal (a * unit + b) (c * unit + d) (omega (arith, top, e)) ∙ sym (equal b d e)
        | inr (inl lt) ↦ less (a * unit + b) (c * unit + d) (omega (arith, top, lt)) ∙ sym (less b d lt)
        | inr (inr gt) ↦ greater (a * unit + b) (c * unit + d) (omega (arith, top, gt)) ∙ sym (greater b d gt)
      ]))
  | inr (inl lt) ↦ (
      let room : suc a * unit ≤ c * unit = mul-le-mul_right unit lt in
      rw (less a c lt) (less (a * unit + b) (c * unit + d) (omega (arith, room))))
  | inr (inr gt) ↦ (
      let room : suc c * unit ≤ a * unit = mul-le-mul_right unit gt in
      rw (greater a c gt) (greater (a * unit + b) (c * unit + d) (omega (arith, room))))
]

then_assoc : (o p q : Ordering) → ordering_then o (ordering_then p q) ≡ ordering_then (ordering_then o p) q
then_assoc o p q = grind arith

-- the highest of n + 1 bytes, and the others
split : (n x : ℕ) → x % 256 ^ suc n ≡ byte_at n x * 256 ^ n + x % 256 ^ n
split n x =
    sym (big_from-bytes (suc n) x [])
    ∙ ap (λ (r : ℕ). byte_at n x * 256 ^ n + r) (big_from-cons 0 n (byte_at n x) (bytes_high_first n x ++ []) ∙ big_from-bytes n x [])

below : (n x : ℕ) → x % 256 ^ n < 256 ^ n
below n x = let some = one-le-pow n 256 (omega arith) in mod-lt x (omega arith)

-- n bytes of two numbers compare as the numbers do, and then what follows them
bytes_cmp : (n a b : ℕ) (xs ys : List ℕ) → slice_cmp nat_cmp (bytes_high_first n a ++ xs) (bytes_high_first n b ++ ys)
    ≡ ordering_then (nat_cmp (a % 256 ^ n) (b % 256 ^ n)) (slice_cmp nat_cmp xs ys)
bytes_cmp zero a b xs ys = rw (equal (a % 1) (b % 1) (omega arith)) refl
bytes_cmp (suc n) a b xs ys =
    ap (ordering_then (nat_cmp (byte_at n a) (byte_at n b))) (bytes_cmp n a b xs ys)
    ∙ then_assoc (nat_cmp (byte_at n a) (byte_at n b)) (nat_cmp (a % 256 ^ n) (b % 256 ^ n)) (slice_cmp nat_cmp xs ys)
    ∙ ap (λ (o : Ordering). ordering_then o (slice_cmp nat_cmp xs ys))
    (sym (digits_cmp (256 ^ n) (byte_at n a) (a % 256 ^ n) (byte_at n b) (b % 256 ^ n) (below n a) (below n b)) ∙ rw (sym (split n a), sym (split n b)) refl)

eight : (a b : ℕ) (xs ys : List ℕ) → a < 2 ^ 63 → b < 2 ^ 63
    → slice_cmp nat_cmp (big_bytes 8 a ++ xs) (big_bytes 8 b ++ ys) ≡ ordering_then (nat_cmp a b) (slice_cmp nat_cmp xs ys)
eight a b xs ys low high =
    bytes_cmp 8 a b xs ys
    ∙ ap (λ (n : ℕ). ordering_then (nat_cmp n (b % 256 ^ 8)) (slice_cmp nat_cmp xs ys)) (mod-eq_of_lt (omega arith))
    ∙ ap (λ (n : ℕ). ordering_then (nat_cmp a n) (slice_cmp nat_cmp xs ys)) (mod-eq_of_lt (omega arith))

-- a deletion is longer by one byte
ends_cmp : (a b : Bool) → slice_cmp nat_cmp (if a then 0x74 ∷ [] else []) (if b then 0x74 ∷ [] else []) ≡ bool_cmp a b
ends_cmp true true = refl
ends_cmp true false = refl
ends_cmp false true = refl
ends_cmp false false = refl

pub spellings_cmp : (a b : RevisionKey) → IsSpelled a → IsSpelled b → key_cmp (spelling a) (spelling b) ≡ numbers_cmp a b
unfolding spelling
spellings_cmp a b (main, sub) (main2, sub2) =
    eight a.main b.main (0x5F ∷ (big_bytes 8 a.sub ++ (if a.deleted then 0x74 ∷ [] else [])))
    (0x5F ∷ (big_bytes 8 b.sub ++ (if b.deleted then 0x74 ∷ [] else []))) main main2
    ∙ ap (ordering_then (nat_cmp a.main b.main))
    (eight a.sub b.sub (if a.deleted then 0x74 ∷ [] else []) (if b.deleted then 0x74 ∷ [] else []) sub sub2
    ∙ ap (ordering_then (nat_cmp a.sub b.sub)) (ends_cmp a.deleted b.deleted))
