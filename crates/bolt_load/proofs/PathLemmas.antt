-- A path in hexadecimal is read part by part.
use Rattle.std.proofs.lemmas.Grind.{common_steps}
use Rattle.std.proofs.Common.{◌≡◌, ◌∙◌, ◌==◌, ◌<◌, ◌≤◌, ◌*◌, ℕ, Bool, true, false, List, [], ◌∷◌, ◌++◌, Option, Some, None, length, refl, sym, ap}
use Rattle.std.proofs.Common.{arith, append_assoc, append-nil}
use Rattle.std.proofs.lemmas.Bool.{le-ltb, lt-ltb}
use Rattle.bolt_lemmas.proofs.Exports.{is_there, ok_is}
use Rattle.bolt_load.proofs.Words.{AddsDecoded, hex_bytes_in, hex_path_in, if◌then◌else◌, is_long_key, is_some, IsCutAt, IsWithout, Key, list_any}
use Rattle.bolt_load.proofs.Words.{option_and_then, option_map, part_in, parts_in, Path, path_bytes, Text}
use Rattle.bolt_text.proofs.Exports.{parts_cut, parts_whole}
use Rattle.std.specs.Prelude.{◌/◌, ◌||◌, nat_lt}
use Rattle.hex.specs.Hex.{decode_of}
use Rattle.hex.proofs.HexLemmas.{decode_of-ok}

-- ---- how many digits there are

pub digits_are : (digits bytes : List ℕ) → hex_bytes_in digits ≡ Some bytes → length digits ≡ 2 * length bytes
digits_are digits bytes is = (decode_of-ok digits bytes (ok_is (decode_of digits) bytes is)).2

-- ---- part by part

abbrev pub put_before : Path → Option Path → Option Path
put_before front found = option_map (λ path. front ++ path) found

abbrev pub with_part : Option Key → Option Path → Option Path
with_part part rest = option_and_then (λ part. option_map (λ parts. part ∷ parts) rest) part

pub first_part : (word part after : Text) → IsCutAt 47 word part after → hex_path_in word ≡ with_part (part_in part) (hex_path_in after)
unfolding hex_path_in
first_part word part after cut = ap parts_in (parts_cut 47 word part after cut)

pub last_part : (word : Text) → IsWithout 47 word → hex_path_in word ≡ with_part (part_in word) (Some [])
unfolding hex_path_in
last_part word without = ap parts_in (parts_whole 47 word without)

-- the parts so far, and those of the rest
abbrev pub IsFront : (word rest : Text) → Path → Type 0
IsFront word rest front = hex_path_in word ≡ put_before front (hex_path_in rest)

one_more : (front : Path) (key : Key) (found : Option Path)
    → put_before front (option_map (λ parts. key ∷ parts) found) ≡ put_before (front ++ key ∷ []) found
one_more front key found = grind (arith, common_steps)

module _ (word rest : Text) (front : Path) (is : IsFront word rest front) where
  pub next_part : (part after : Text) (key : Key) → IsCutAt 47 rest part after → part_in part ≡ Some key → IsFront word after (front ++ key ∷ [])
  next_part part after key cut found =
      is ∙ ap (put_before front) (first_part rest part after cut ∙ ap (λ found. with_part found (hex_path_in after)) found)
      ∙ one_more front key (hex_path_in after)

  pub bad_part : (part after : Text) → IsCutAt 47 rest part after → part_in part ≡ None → hex_path_in word ≡ None
  bad_part part after cut bad = is ∙ ap (put_before front) (first_part rest part after cut ∙ ap (λ found. with_part found (hex_path_in after)) bad)

  pub end_part : (key : Key) → IsWithout 47 rest → part_in rest ≡ Some key → hex_path_in word ≡ Some (front ++ key ∷ [])
  end_part key without found = is ∙ ap (put_before front) (last_part rest without ∙ ap (λ found. with_part found (Some [])) found)

  pub bad_end : IsWithout 47 rest → part_in rest ≡ None → hex_path_in word ≡ None
  bad_end without bad = is ∙ ap (put_before front) (last_part rest without ∙ ap (λ found. with_part found (Some [])) bad)

-- ---- the bytes so far

-- the parts before the rest of a word, whose bytes were added
pub record AddsParts (word rest : Text) (old new : List ℕ) : Type 0 where
  pub front : Path
  pub parts : IsFront word rest front
  pub added : new ≡ old ++ path_bytes front

pub path_bytes_push : (front : Path) (key : Key) → path_bytes (front ++ key ∷ []) ≡ path_bytes front ++ key
path_bytes_push [] key = append-nil key
path_bytes_push (part ∷ front) key = ap (λ bytes. part ++ bytes) (path_bytes_push front key) ∙ sym (append_assoc part (path_bytes front) key)

module _ (word rest : Text) (old bytes new : List ℕ) (so_far : AddsParts word rest old bytes) where
  more_added : (more : List ℕ) → new ≡ bytes ++ more → new ≡ old ++ (path_bytes so_far.front ++ more)
  more_added more is = is ∙ ap (λ bytes. bytes ++ more) so_far.added ∙ append_assoc old (path_bytes so_far.front) more

  pub part_added : (part after : Text) → IsCutAt 47 rest part after → is_some (part_in part) ≡ true → AddsDecoded (part_in part) bytes new
      → AddsParts word after old new
  part_added part after cut good adds =
      let found = is_there (part_in part) good in
      record {
        front = so_far.front ++ found.0 ∷ [];
        parts = next_part word rest so_far.front so_far.parts part after found.0 cut found.1;
        added =
            more_added adds.more adds.added
            ∙ ap (λ bytes. old ++ bytes) (ap (λ more. path_bytes so_far.front ++ more) (adds.are found.0 found.1) ∙ sym (path_bytes_push so_far.front found.0));
      }

  pub path_refused : (found : Option Key) → hex_path_in word ≡ None → AddsDecoded found bytes new
      → AddsDecoded (option_map path_bytes (hex_path_in word)) old new
  path_refused found none adds = grind (arith, common_steps, path_bytes, more_added)

  pub path_added : IsWithout 47 rest → AddsDecoded (part_in rest) bytes new → AddsDecoded (option_map path_bytes (hex_path_in word)) old new
  path_added without adds = at (part_in rest) refl
    where
      at : (found : Option Key) → part_in rest ≡ found → AddsDecoded (option_map path_bytes (hex_path_in word)) old new
      at None found = path_refused (part_in rest) (bad_end word rest so_far.front so_far.parts without found) adds
      at (Some key) found =
          let whole = end_part word rest so_far.front so_far.parts key without found in
          record {
            more = path_bytes so_far.front ++ adds.more;
            added = more_added adds.more adds.added;
            are = λ all is.
                let same : Some (path_bytes (so_far.front ++ key ∷ [])) ≡ Some all = sym (ap (option_map path_bytes) whole) ∙ is in
                let last = ap (λ more. path_bytes so_far.front ++ more) (adds.are key found) ∙ sym (path_bytes_push so_far.front key) in cc;
          }

  pub path_good : IsWithout 47 rest → is_some (part_in rest) ≡ is_some (option_map path_bytes (hex_path_in word))
  path_good without = at (part_in rest) refl
    where
      at : (found : Option Key) → part_in rest ≡ found → is_some (part_in rest) ≡ is_some (option_map path_bytes (hex_path_in word))
      at None found = ap is_some found ∙ sym (ap (λ path. is_some (option_map path_bytes path)) (bad_end word rest so_far.front so_far.parts without found))
      at (Some key) found =
          ap is_some found ∙ sym (ap (λ path. is_some (option_map path_bytes path)) (end_part word rest so_far.front so_far.parts key without found))

-- ---- the lengths of the parts

-- the parts so far aren't long
abbrev pub HasShort : (word rest : Text) → Type 0
HasShort word rest =
    (path : Path) → hex_path_in word ≡ Some path → (left : Path) × (hex_path_in rest ≡ Some left) × (list_any is_long_key path ≡ list_any is_long_key left)

some_else : {A : Type 0} (b : Bool) (x : Option A) (a : A) → (if b then None else x) ≡ Some a → x ≡ Some a
some_else b x a is = grind arith

pub part_is : (word : Text) (key : Key) → part_in word ≡ Some key → hex_bytes_in word ≡ Some key
part_is word key is = some_else (length word == 0) (hex_bytes_in word) key is

-- half as many bytes as digits
pub halved : (digits bytes : List ℕ) → hex_bytes_in digits ≡ Some bytes → length digits / 2 ≡ length bytes
halved digits bytes is = let twice = digits_are digits bytes is in omega (arith, twice)

pub long_part : (word : Text) (key : Key) → part_in word ≡ Some key → nat_lt 0x40000000 (length word / 2) ≡ is_long_key key
long_part word key is = ap (nat_lt 0x40000000) (halved word key (part_is word key is))

pub with_some : (found : Option Key) (rest : Option Path) (path : Path) → with_part found rest ≡ Some path
    → (key : Key) × (path' : Path) × (found ≡ Some key) × (rest ≡ Some path') × (path ≡ key ∷ path')
with_some found rest path is = grind arith

module _ (rest part after : Text) (cut : IsCutAt 47 rest part after) (left : Path) (is : hex_path_in rest ≡ Some left) where
  cut_path : (key : Key) × (path : Path) × (part_in part ≡ Some key) × (hex_path_in after ≡ Some path) × (left ≡ key ∷ path)
  cut_path = with_some (part_in part) (hex_path_in after) left (sym (first_part rest part after cut) ∙ is)

  any_of : (b : Bool) → nat_lt 0x40000000 (length part / 2) ≡ b → list_any is_long_key left ≡ (b || list_any is_long_key cut_path.1)
  any_of b test = ap (list_any is_long_key) cut_path.4 ∙ ap (λ b. b || list_any is_long_key cut_path.1) (sym (long_part part cut_path.0 cut_path.2) ∙ test)

module _ (word rest : Text) (so_far : HasShort word rest) where
  pub long_here : (part after : Text) → IsCutAt 47 rest part after → 0x40000000 < length part / 2 → (path : Path) → hex_path_in word ≡ Some path
      → true ≡ list_any is_long_key path
  long_here part after cut long path is =
      let left = so_far path is in sym (left.2 ∙ any_of rest part after cut left.0 left.1 true (lt-ltb 0x40000000 (length part / 2) long))

  pub short_here : (part after : Text) → IsCutAt 47 rest part after → length part / 2 ≤ 0x40000000 → HasShort word after
  short_here part after cut short path is =
      let left = so_far path is in
      let found = cut_path rest part after cut left.0 left.1 in
      (found.1, found.3, left.2 ∙ any_of rest part after cut left.0 left.1 false (le-ltb 0x40000000 (length part / 2) short))

  pub long_end : IsWithout 47 rest → (path : Path) → hex_path_in word ≡ Some path → nat_lt 0x40000000 (length rest / 2) ≡ list_any is_long_key path
  long_end without path is = grind (arith, common_steps, with_some, part_in, last_part, long_part, list_any, is_long_key)
