-- The elements of a leaf, whatever the code keeps of them: `view` is the element that it keeps. And an inline value, written piece by piece.
use Rattle.std.proofs.Common.{◌≡◌, ℕ, ◌+◌, List, [], ◌∷◌, ◌++◌, length, map, refl, arith}
use Rattle.std.proofs.lemmas.List.{length-append, length-map}
use Rattle.std.specs.List.{AllByRecursion}
use Rattle.bolt_format.specs.{ElementPlaces.leaf_view, Elements.LeafElement, Encoded.header_bytes, Encoded.leaf_header, Encoded.head_bytes}
use Rattle.bolt_format.specs.{declared.element.Leaf.Leaf}
use Rattle.bolt_layout.specs.PageBytes.{inline_value, leaf_bytes, leaf_data, leaf_headers}
use Rattle.bolt_format.specs.declared.header.Kind.TheVariants as kind
use Rattle.bolt_bulk.specs.Private.{data_of, data_size, heads_from}
use Rattle.bolt_format.specs.{Endings.Ending, Wrote.Wrote, declared.sink.Sink.Ghosts}

module _ {X : Type 0} (view : X → LeafElement) where
  abbrev pub head_by : ℕ → ℕ → ℕ → X → List ℕ
  head_by pos key value x = leaf_header (view x).is_bucket pos key value

  abbrev pub key_by : X → List ℕ
  key_by x = (view x).key

  abbrev pub value_by : X → List ℕ
  value_by x = (view x).value

  leaf_datas : (xs : List X) → data_of key_by value_by xs ≡ leaf_data (map view xs)
  leaf_datas [] = refl
  leaf_datas (x ∷ xs) = grind (arith, leaf_datas xs)

  module _ (value_length : X → ℕ) where
    -- the lengths are those of the values
    abbrev pub AreLong : List X → Type 0
    AreLong xs = AllByRecursion (λ (x : X). value_length x ≡ length (view x).value) xs

    leaf_heads : (before : ℕ) (xs : List X) → AreLong xs → heads_from head_by key_by value_length before xs ≡ leaf_headers before (map view xs)
    leaf_heads before [] long = refl
    leaf_heads before (x ∷ xs) long = grind (arith, length-map, leaf_heads (before + (length (view x).key + value_length x)) xs long.1)

    pub leaf_size : (xs : List X) → AreLong xs → data_size key_by value_length xs ≡ length (leaf_data (map view xs))
    leaf_size [] long = refl
    leaf_size (x ∷ xs) long = grind (arith, leaf_size xs long.1, length-append)

    -- all that is written of them
    abbrev pub elements_text : List X → List ℕ
    elements_text xs = heads_from head_by key_by value_length 0 xs ++ data_of key_by value_by xs

    pub leaf_elements : (xs : List X) → AreLong xs → elements_text xs ≡ leaf_bytes (map view xs)
    unfolding leaf_bytes
    leaf_elements xs long = let heads = leaf_heads 0 xs long in let datas = leaf_datas xs in rw (heads, datas) refl

abbrev pub entry_length : Leaf → ℕ
entry_length x = length x.value.now

entries_long : (xs : List Leaf) → AreLong leaf_view entry_length xs
entries_long [] = tt
entries_long (x ∷ xs) = (refl, entries_long xs)

pub entries_size : (xs : List Leaf) → data_size (key_by leaf_view) entry_length xs ≡ length (leaf_data (map leaf_view xs))
entries_size xs = leaf_size leaf_view entry_length xs (entries_long xs)

-- The pieces of an inline value.
pub inline_wrote : {S : Type 0} {sink : Ghosts S} {old new : S} {end : Ending} (sequence : ℕ) (xs : List Leaf)
    → Wrote sink old new (head_bytes 0 sequence ++ (header_bytes 0 kind.Leaf (length xs) 0 ++ elements_text leaf_view entry_length xs)) end
    → Wrote sink old new (inline_value sequence (map leaf_view xs)) end
unfolding inline_value
inline_wrote sequence xs wrote = let all = leaf_elements leaf_view entry_length xs (entries_long xs) in grind (arith, length-map)
