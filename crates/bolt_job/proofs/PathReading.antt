-- The parts of a path are read one after another.
use Rattle.std.proofs.Common.{arith, ◌≡◌, ◌∙◌, ◌==◌, Bool, List, [], ◌∷◌, ◌++◌, Result, Ok, Err, codes, length, refl, sym, ap, ap₂, inl, inr}
use Rattle.std.proofs.Common.{append_assoc, map}
use Rattle.bolt_job.proofs.Vocabulary.{Bor, ReadsAs, IsErrAnd, Key, None, Option, Path, Refusal, Some, Text, each_part, false, hex_path_of}
use Rattle.bolt_job.proofs.Vocabulary.{if◌then◌else◌, ◌>>=◌, list_any, option_and_then, option_map, or_bad_hex, or_cases, or_parts, part_of}
use Rattle.bolt_job.proofs.Vocabulary.{slice_split, true}
use Rattle.bolt_text.specs.HexPaths.{hex_bytes_in, hex_path_in, part_in, parts_in}
use Rattle.bolt_text.specs.declared.part_words.Parts.TheVariants as parts

-- the words behind borrows
abbrev pub texts : List (Bor Text) → List Text
texts words = map (λ (word : Bor Text). word.now) words

-- what is read of the words that are left, after the parts so far
abbrev pub continued : Path → Result Path Text → Result Path Text
continued front left = left >>= λ path. Ok (front ++ path)

one_continued : (front : Path) (part : Key) (rest : Result Path Text)
    → continued front (rest >>= λ path. Ok (part ∷ path)) ≡ continued (front ++ part ∷ []) rest
one_continued front part (Ok path) = ap Ok (sym (append_assoc front (part ∷ []) path))
one_continued front part (Err why) = refl

module _ (read : Text → Result Key Text) (word : Text) (words : List Text) where
  pub continued_one : (front : Path) (part : Key) → read word ≡ Ok part
      → continued front (each_part read (word ∷ words)) ≡ continued (front ++ part ∷ []) (each_part read words)
  continued_one front part is =
      ap (λ r. continued front (r >>= λ part. each_part read words >>= λ path. Ok (part ∷ path))) is ∙ one_continued front part (each_part read words)

  pub continued_bad : (front : Path) (why : Text) → read word ≡ Err why → continued front (each_part read (word ∷ words)) ≡ Err why
  continued_bad front why is = ap (λ r. continued front (r >>= λ part. each_part read words >>= λ path. Ok (part ∷ path))) is

  -- a part that can't be read is reported of the whole
  pub part_refused : {T U : Type 0} (view : T → Path) (part_view : U → Key) (front : Path) (whole : Result Path Text) (refusal : Refusal)
      (result : Result T Refusal)
      → ReadsAs part_view (read word) (Err refusal) → continued front (each_part read (word ∷ words)) ≡ whole → IsErrAnd result (λ said. said ≡ refusal)
      → ReadsAs view whole result
  part_refused view part_view front whole refusal (Ok path) gives same is = absurd is
  part_refused view part_view front whole refusal (Err said) gives same is = grind (arith, continued_bad)

-- ---- a path in one word, by the parts between its slashes

abbrev empties : List Text → Bool
empties words = list_any (λ part. length part == 0) words

-- the path of the words, if no part is empty and all are in hexadecimal
with_rest : (part : Option Key) (rest : Option Path)
    → or_bad_hex (option_and_then (λ part. option_map (λ parts. part ∷ parts) rest) part)
    ≡ (or_bad_hex part >>= λ part. or_bad_hex rest >>= λ path. Ok (part ∷ path))
with_rest None rest = refl
with_rest (Some part) None = refl
with_rest (Some part) (Some path) = refl

all_parts : (words : List Text) → empties words ≡ false → or_bad_hex (parts_in words) ≡ each_part (part_of parts.Hex) words
all_parts [] none = refl
all_parts (word ∷ words) none =
    let both = or_parts (length word == 0) (empties words) none in
    with_rest (part_in word) (parts_in words)
    ∙ ap₂ (λ (part : Option Key) (rest : Result Path Text). or_bad_hex part >>= λ part. rest >>= λ path. Ok (part ∷ path))
    (ap (λ b. if b then None else hex_bytes_in word) both.0) (all_parts words both.1)

no_path : (part : Option Key) → option_and_then {U = Path} (λ part. option_map (λ parts. part ∷ parts) None) part ≡ None
no_path None = refl
no_path (Some part) = refl

an_empty : (words : List Text) → empties words ≡ true → parts_in words ≡ None
an_empty [] some = absurd (cc)
an_empty (word ∷ words) some = elim (or_cases (length word == 0) (empties words) some) [
  | inl here ↦
      ap (λ part. option_and_then (λ part. option_map (λ parts. part ∷ parts) (parts_in words)) part) (ap (λ b. if b then None else hex_bytes_in word) here)
  | inr later ↦ ap (λ rest. option_and_then (λ part. option_map (λ parts. part ∷ parts) rest) (part_in word)) (an_empty words later) ∙ no_path (part_in word)
]

pub path_cut : (word : Text) (words : List Text) (bad : Bool) → words ≡ slice_split (λ byte. byte == 47) word → empties words ≡ bad
    → hex_path_of word ≡ (if bad then Err (codes "bad hex") else each_part (part_of parts.Hex) words)
unfolding hex_path_in
path_cut word words true cut some = ap or_bad_hex (ap parts_in (sym cut) ∙ an_empty words some)
path_cut word words false cut none = ap or_bad_hex (ap parts_in (sym cut)) ∙ all_parts words none
