-- The parts of a path are found again in the bytes that were decoded.
use Rattle.std.proofs.lemmas.Grind.{common_steps}
use Rattle.std.proofs.Common.{◌≡◌, ◌∙◌, ◌≤◌, ℕ, List, [], ◌∷◌, ◌++◌, Option, Some, None, length, take, drop, refl, sym, ap, arith, append_assoc}
use Rattle.std.proofs.Common.{append-nil, length-append}
use Rattle.bolt_load.proofs.Words.{BeginsWith, drop-append_seam, hex_bytes_in, hex_path_in, IsCutAt, IsWithout, item_bytes, Key, option_map, part_in}
use Rattle.bolt_load.proofs.Words.{Path, path_bytes, take-append_seam, Text, Value}
use Rattle.bolt_load.proofs.PathLemmas.{first_part, halved, last_part, part_is, with_some}
use Rattle.std.specs.Prelude.{◌/◌, IsSomeAnd}

module _ {A : Type 0} (front after whole : List A) (n : ℕ) (is : whole ≡ front ++ after) (many : n ≡ length front) where
  pub front_fits : n ≤ length whole
  front_fits = let l = ap length is ∙ length-append front after in omega (arith, l, many)

  pub front_is : take n whole ≡ front
  front_is = ap (λ n. take n whole) many ∙ ap (take (length front)) is ∙ take-append_seam front after

  pub after_is : drop n whole ≡ after
  after_is = ap (λ n. drop n whole) many ∙ ap (drop (length front)) is ∙ drop-append_seam front after

-- ---- a value

module _ (digits bytes : List ℕ) (said : IsSomeAnd (option_map Value (hex_bytes_in digits)) (λ item. BeginsWith (item_bytes item) bytes)) where
  value_said : (value : List ℕ) × (hex_bytes_in digits ≡ Some value) × BeginsWith value bytes
  value_said = at (hex_bytes_in digits) refl said
    where
      at : (found : Option (List ℕ)) → hex_bytes_in digits ≡ found → IsSomeAnd (option_map Value found) (λ item. BeginsWith (item_bytes item) bytes)
          → (value : List ℕ) × (hex_bytes_in digits ≡ Some value) × BeginsWith value bytes
      at None is said = absurd said
      at (Some value) is said = (value, is, said)

  pub value_fits : length digits / 2 ≤ length bytes
  value_fits = front_fits value_said.0 value_said.2.after bytes (length digits / 2) value_said.2.whole (halved digits value_said.0 value_said.1)

  pub value_is : (value : List ℕ) → value ≡ take (length digits / 2) bytes → Some (Value value) ≡ option_map Value (hex_bytes_in digits)
  value_is value is = grind (arith, common_steps, front_is, halved)

-- ---- the parts of a path

-- The parts before the rest of a word were found; those of the rest come next in the bytes that are left.
pub record PushesParts (word rest : Text) (bytes bytes_left : List ℕ) (old new : Path) : Type 0 where
  pub front : Path
  pub left : Path
  pub after : List ℕ
  pub said : hex_path_in word ≡ Some (front ++ left)
  pub left_said : hex_path_in rest ≡ Some left
  pub pushed : new ≡ old ++ front
  pub whole : bytes ≡ path_bytes front ++ bytes_left
  pub next : bytes_left ≡ path_bytes left ++ after

pub none_pushed : (word : Text) (bytes : List ℕ) (old : Path) → IsSomeAnd (hex_path_in word) (λ said. BeginsWith (path_bytes said) bytes)
    → PushesParts word word bytes bytes old old
none_pushed word bytes old said = at (hex_path_in word) refl said
  where
    at : (found : Option Path) → hex_path_in word ≡ found → IsSomeAnd found (λ said. BeginsWith (path_bytes said) bytes)
        → PushesParts word word bytes bytes old old
    at None is said = absurd said
    at (Some path) is said = record {
      front = [];
      left = path;
      after = said.after;
      said = is;
      left_said = is;
      pushed = sym (append-nil old);
      whole = refl;
      next = said.whole;
    }

module _ (word rest : Text) (bytes bytes_left : List ℕ) (old new : Path) (so_far : PushesParts word rest bytes bytes_left old new) where
  module _ (part : Text) (key : Key) (path : Path) (part_said : part_in part ≡ Some key) (left_is : so_far.left ≡ key ∷ path) where
    many : length part / 2 ≡ length key
    many = halved part key (part_is part key part_said)

    next_is : bytes_left ≡ key ++ (path_bytes path ++ so_far.after)
    next_is = so_far.next ∙ ap (λ left. path_bytes left ++ so_far.after) left_is ∙ append_assoc key (path_bytes path) so_far.after

    fits : length part / 2 ≤ length bytes_left
    fits = front_fits key (path_bytes path ++ so_far.after) bytes_left (length part / 2) next_is many

    module _ (slice rest_bytes : List ℕ) (newer : Path) (slice_is : slice ≡ take (length part / 2) bytes_left)
        (rest_is : rest_bytes ≡ drop (length part / 2) bytes_left) (more : newer ≡ new ++ slice ∷ []) where
      now_said : hex_path_in word ≡ Some ((so_far.front ++ key ∷ []) ++ path)
      now_said = so_far.said ∙ ap (λ left. Some (so_far.front ++ left)) left_is ∙ ap Some (sym (append_assoc so_far.front (key ∷ []) path))

      now_pushed : newer ≡ old ++ (so_far.front ++ key ∷ [])
      now_pushed = grind (arith, common_steps, front_is, path_bytes, next_is, many)

      now_next : rest_bytes ≡ path_bytes path ++ so_far.after
      now_next = rest_is ∙ after_is key (path_bytes path ++ so_far.after) bytes_left (length part / 2) next_is many

      now_whole : bytes ≡ path_bytes (so_far.front ++ key ∷ []) ++ rest_bytes
      now_whole = grind (arith, common_steps, path_bytes, next_is, now_next, append_assoc)

  module _ (part after : Text) (cut : IsCutAt 47 rest part after) where
    found : (key : Key) × (path : Path) × (part_in part ≡ Some key) × (hex_path_in after ≡ Some path) × (so_far.left ≡ key ∷ path)
    found = with_some (part_in part) (hex_path_in after) so_far.left (sym (first_part rest part after cut) ∙ so_far.left_said)

    pub part_fits : length part / 2 ≤ length bytes_left
    part_fits = fits part found.0 found.1 found.2 found.4

    pub part_pushed : (slice rest_bytes : List ℕ) (newer : Path) → slice ≡ take (length part / 2) bytes_left
        → rest_bytes ≡ drop (length part / 2) bytes_left
        → newer ≡ new ++ slice ∷ [] → PushesParts word after bytes rest_bytes old newer
    part_pushed slice rest_bytes newer slice_is rest_is more = record {
      front = so_far.front ++ found.0 ∷ [];
      left = found.1;
      after = so_far.after;
      said = now_said part found.0 found.1 found.2 found.4 slice rest_bytes newer slice_is rest_is more;
      left_said = found.3;
      pushed = now_pushed part found.0 found.1 found.2 found.4 slice rest_bytes newer slice_is rest_is more;
      whole = now_whole part found.0 found.1 found.2 found.4 slice rest_bytes newer slice_is rest_is more;
      next = now_next part found.0 found.1 found.2 found.4 slice rest_bytes newer slice_is rest_is more;
    }

  module _ (without : IsWithout 47 rest) where
    last : (key : Key) × (path : Path) × (part_in rest ≡ Some key) × (Some [] ≡ Some path) × (so_far.left ≡ key ∷ path)
    last = with_some (part_in rest) (Some []) so_far.left (sym (last_part rest without) ∙ so_far.left_said)

    last_is : so_far.left ≡ last.0 ∷ []
    last_is = let f : Some [] ≡ Some last.1 = last.3 in let none : [] ≡ last.1 = cc in last.4 ∙ ap (λ path. last.0 ∷ path) (sym none)

    pub last_fits : length rest / 2 ≤ length bytes_left
    last_fits = fits rest last.0 [] last.2 last_is

    pub all_pushed : (slice rest_bytes : List ℕ) (newer : Path) → slice ≡ take (length rest / 2) bytes_left
        → rest_bytes ≡ drop (length rest / 2) bytes_left
        → newer ≡ new ++ slice ∷ [] → (said : Path) → hex_path_in word ≡ Some said → (newer ≡ old ++ said) × (bytes ≡ path_bytes said ++ rest_bytes)
    all_pushed slice rest_bytes newer slice_is rest_is more said is =
        let all = now_said rest last.0 [] last.2 last_is slice rest_bytes newer slice_is rest_is more ∙ ap Some (append-nil (so_far.front ++ last.0 ∷ [])) in
        let f : Some (so_far.front ++ last.0 ∷ []) ≡ Some said = sym all ∙ is in
        let same : so_far.front ++ last.0 ∷ [] ≡ said = cc in (
          now_pushed rest last.0 [] last.2 last_is slice rest_bytes newer slice_is rest_is more ∙ ap (λ said. old ++ said) same,
          now_whole rest last.0 [] last.2 last_is slice rest_bytes newer slice_is rest_is more ∙ ap (λ said. path_bytes said ++ rest_bytes) same,
        )
