-- How revision keys are spelled: what is spelled is read, and what is read is spelled so.
use Rattle.std.proofs.Common.{◌≡◌, ◌∙◌, ◌<◌, ◌≤◌, ◌^◌, ◌+◌, ℕ, Bool, true, false, List, [], ◌∷◌, ◌++◌, Some, None, drop, take, length, slice_index}
use Rattle.std.proofs.Common.{nat_lt, lit<, refl, sym, ap, subst, arith, ◌==◌, ◌&&◌, if◌then◌else◌}
use Rattle.std.proofs.lemmas.Bool.{and_from, and_parts, cases_lt, cond-true, eq-eqb, eqb-true, lt-ltb, ltb-true}
use Rattle.std.proofs.lemmas.List.{drop-drop, drop_all, drop_at, drop_more, get_or-drop, get_or-take, get_or_at, get_or_past, length-append}
use Rattle.std.proofs.lemmas.List.{length-drop, length-take-le, take-append-drop}
use Rattle.std.proofs.{lemmas.Nat.be_bytes_8, lemmas.Option.cond_some}
use Rattle.byteorder.specs.{Endian.big_bytes, Endian.big_number, Numbers.big_number-reads_back, Numbers.length-bytes_high_first}
use Rattle.bolt_format.specs.Bytes.{IsBytes}
use Rattle.bolt_etcd.specs.{Wire.RevisionKeys.IsSpelled, Wire.RevisionKeys.numbers, Wire.RevisionKeys.revision_key, Wire.RevisionKeys.spelling}
use Rattle.bolt_etcd.specs.{declared.wire.revision_key.RevisionKey.RevisionKey}

-- ---- what is spelled is read

chosen : (k : RevisionKey) (mark main sub : ℕ) → mark ≡ 0x5F → main ≡ k.main → sub ≡ k.sub → IsSpelled k
    → (if (mark == 0x5F) && nat_lt main (2 ^ 63) && nat_lt sub (2 ^ 63) then Some (record { main = main; sub = sub; deleted = k.deleted }) else None) ≡ Some k
chosen k mark main sub marked is_main is_sub (low, high) = grind (arith, cond-true, and_from, eq-eqb, lt-ltb)

module _ (m s end : List ℕ) (eight : length m ≡ 8) (other : length s ≡ 8) where
  long : length (m ++ (0x5F ∷ (s ++ end))) ≡ 17 + length end
  long = omega (arith, length-append m (0x5F ∷ (s ++ end)), length-append s end)

  later : drop 9 (m ++ (0x5F ∷ (s ++ end))) ≡ s ++ end
  later = sym (drop-drop 1 8 (m ++ (0x5F ∷ (s ++ end)))) ∙ ap (drop 1) (drop_at m (0x5F ∷ (s ++ end)) 8 eight)

  last : (b : ℕ) (rest : List ℕ) → end ≡ b ∷ rest → slice_index (m ++ (0x5F ∷ (s ++ end))) 17 ≡ b
  last b rest is =
      sym (get_or-drop 9 (m ++ (0x5F ∷ (s ++ end))) 8 0) ∙ ap (λ (xs : List ℕ). slice_index xs 8) (later ∙ ap (λ (xs : List ℕ). s ++ xs) is)
      ∙ get_or_at s b rest 0 8 other

  numbers_read : (k : RevisionKey) → IsSpelled k → big_number 8 (m ++ (0x5F ∷ (s ++ end))) ≡ k.main → big_number 8 (s ++ end) ≡ k.sub
      → numbers (m ++ (0x5F ∷ (s ++ end))) k.deleted ≡ Some k
  numbers_read k spelled main sub = chosen k _ _ _ (get_or_at m 0x5F (s ++ end) 0 8 eight) main (ap (big_number 8) later ∙ sub) spelled

read_parts : (m s : List ℕ) (main sub : ℕ) (deleted : Bool) → length m ≡ 8 → length s ≡ 8 → ((rest : List ℕ) → big_number 8 (m ++ rest) ≡ main)
    → ((rest : List ℕ) → big_number 8 (s ++ rest) ≡ sub) → main < 2 ^ 63 → sub < 2 ^ 63
    → revision_key (m ++ (0x5F ∷ (s ++ (if deleted then 0x74 ∷ [] else [])))) ≡ Some (record { main = main; sub = sub; deleted = deleted })
unfolding revision_key
read_parts m s main sub false eight other is_main is_sub low high =
    rw (long m s [] eight other) (numbers_read m s [] eight other (record { main = main; sub = sub; deleted = false }) (low, high) (is_main _) (is_sub _))
read_parts m s main sub true eight other is_main is_sub low high =
    rw (long m s (0x74 ∷ []) eight other, last m s (0x74 ∷ []) eight other 0x74 [] refl)
    (numbers_read m s (0x74 ∷ []) eight other (record { main = main; sub = sub; deleted = true }) (low, high) (is_main _) (is_sub _))

pub read_back : (k : RevisionKey) → IsSpelled k → revision_key (spelling k) ≡ Some k
unfolding spelling
read_back k (low, high) =
    read_parts (big_bytes 8 k.main) (big_bytes 8 k.sub) k.main k.sub k.deleted (length-bytes_high_first 8 k.main) (length-bytes_high_first 8 k.sub)
    (λ rest. big_number-reads_back 8 k.main rest (omega arith)) (λ rest. big_number-reads_back 8 k.sub rest (omega arith)) low high

-- ---- what is read is spelled

record Parts (bytes : List ℕ) (k : RevisionKey) : Type 0 where
  pub mark : slice_index bytes 8 ≡ 0x5F
  pub spelled : IsSpelled k
  pub main : big_number 8 bytes ≡ k.main
  pub sub : big_number 8 (drop 9 bytes) ≡ k.sub

parts_of : (bytes : List ℕ) (deleted : Bool) (k : RevisionKey) → numbers bytes deleted ≡ Some k → Parts bytes k × (deleted ≡ k.deleted)
parts_of bytes deleted k is =
    let (test, same) = cond_some _ _ k is in
    let (front, high) =
    and_parts ((slice_index bytes 8 == 0x5F) && nat_lt (big_number 8 bytes) (2 ^ 63)) (nat_lt (big_number 8 (drop 9 bytes)) (2 ^ 63)) test in
    let (mark, low) = and_parts (slice_index bytes 8 == 0x5F) (nat_lt (big_number 8 bytes) (2 ^ 63)) front in
    let main = ap (λ (x : RevisionKey). x.main) same in
    let sub = ap (λ (x : RevisionKey). x.sub) same in (
      record {
        mark = eqb-true _ _ mark;
        spelled = (subst (λ (n : ℕ). n < 2 ^ 63) main (ltb-true _ _ low), subst (λ (n : ℕ). n < 2 ^ 63) sub (ltb-true _ _ high));
        main = main;
        sub = sub;
      },
      ap (λ (x : RevisionKey). x.deleted) same,
    )

are_bytes : (n : ℕ) (xs : List ℕ) → n ≤ length xs → IsBytes xs → IsBytes (take n xs)
are_bytes n xs le h i = grind (arith, cases_lt, get_or-take, get_or_past, length-take-le, lit<)

eight_back : (xs : List ℕ) → IsBytes xs → 8 ≤ length xs → take 8 xs ≡ big_bytes 8 (big_number 8 xs)
eight_back xs h le = grind (arith, be_bytes_8, length-take-le, are_bytes)

spelled_by : (bytes : List ℕ) (k : RevisionKey) → IsBytes bytes → 17 ≤ length bytes → Parts bytes k
    → bytes ≡ big_bytes 8 k.main ++ (0x5F ∷ (big_bytes 8 k.sub ++ drop 17 bytes))
spelled_by bytes k h le p =
    let main = eight_back bytes h (omega arith) ∙ ap (big_bytes 8) p.main in
    let sub = eight_back (drop 9 bytes) (λ i. rw (get_or-drop 9 bytes i 0) (h (9 + i))) (omega (arith, length-drop 9 bytes)) ∙ ap (big_bytes 8) p.sub in
    sym (take-append-drop 8 bytes)
    ∙ ap (λ (xs : List ℕ). take 8 bytes ++ xs) (drop_more bytes 8 0 (omega arith))
    ∙ ap (λ (xs : List ℕ). xs ++ (slice_index bytes 8 ∷ drop 9 bytes)) main
    ∙ ap (λ (b : ℕ). big_bytes 8 k.main ++ (b ∷ drop 9 bytes)) p.mark
    ∙ ap (λ (xs : List ℕ). big_bytes 8 k.main ++ (0x5F ∷ xs)) (
    sym (take-append-drop 8 (drop 9 bytes))
    ∙ ap (λ (xs : List ℕ). xs ++ drop 8 (drop 9 bytes)) sub
    ∙ ap (λ (xs : List ℕ). big_bytes 8 k.sub ++ xs) (drop-drop 8 9 bytes))

IsReadAs : List ℕ → RevisionKey → Type 0
IsReadAs bytes k = (bytes ≡ spelling k) × IsSpelled k

by_tests : (bytes : List ℕ) (k : RevisionKey) (plain deleted : Bool) → IsBytes bytes → (length bytes == 17) ≡ plain
    → ((length bytes == 18) && (slice_index bytes 17 == 0x74)) ≡ deleted
    → (if plain then numbers bytes false else if deleted then numbers bytes true else None) ≡ Some k → IsReadAs bytes k
unfolding IsReadAs spelling
by_tests bytes k true deleted h at17 at18 is = grind (arith, eqb-true, spelled_by, drop_all)
by_tests bytes k false true h at17 at18 is = grind (arith, and_parts, slice_index, eqb-true, drop_more, drop_all, spelled_by)
by_tests bytes k false false h at17 at18 is = cc

pub read_spelled : (bytes : List ℕ) (k : RevisionKey) → IsBytes bytes → revision_key bytes ≡ Some k → (bytes ≡ spelling k) × IsSpelled k
unfolding IsReadAs revision_key
read_spelled bytes k h is = by_tests bytes k _ _ h refl refl is

bounded : (bytes : List ℕ) (k : RevisionKey) (plain deleted : Bool)
    → (if plain then numbers bytes false else if deleted then numbers bytes true else None) ≡ Some k → IsSpelled k
bounded bytes k true deleted is = let (p, flag) = parts_of bytes false k is in p.spelled
bounded bytes k false true is = let (p, flag) = parts_of bytes true k is in p.spelled
bounded bytes k false false is = cc

-- its numbers are below 2^63
pub read_fits : (bytes : List ℕ) (k : RevisionKey) → revision_key bytes ≡ Some k → IsSpelled k
unfolding revision_key
read_fits bytes k is = bounded bytes k _ _ is
