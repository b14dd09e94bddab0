-- The headers and the data of a page's elements, whatever a run keeps of them: `key` and `value` are those of an element, and `head` is its
-- header, by the distance from there to its key and by both lengths.
use Rattle.std.specs.Prelude.{ℕ, ◌+◌, List, [], ◌∷◌, ◌++◌, length}
use Rattle.bolt_layout.specs.PageBytes.{key_pos}

-- how many bytes of data elements have
abbrev pub data_size : {X : Type 0} (key : X → List ℕ) (value_length : X → ℕ) → List X → ℕ
data_size key value_length [] = 0
data_size key value_length (x ∷ xs) = (length (key x) + value_length x) + data_size key value_length xs

-- the headers of elements, if the preceding elements have `before` bytes of data
abbrev pub heads_from : {X : Type 0} (head : ℕ → ℕ → ℕ → X → List ℕ) (key : X → List ℕ) (value_length : X → ℕ) → (before : ℕ) → List X → List ℕ
heads_from head key value_length before [] = []
heads_from head key value_length before (x ∷ xs) =
    head (key_pos (x ∷ xs) before) (length (key x)) (value_length x) x ++ heads_from head key value_length (before + (length (key x) + value_length x)) xs

abbrev pub data_of : {X : Type 0} (key value : X → List ℕ) → List X → List ℕ
data_of key value [] = []
data_of key value (x ∷ xs) = key x ++ (value x ++ data_of key value xs)
