-- Lines, written and read: docs/COMMANDS.md, "What is printed"; docs/LISTING.md, "A listing as text".
use Rattle.std.specs.Prelude.{◌==◌, ◌-◌, ℕ, List, [], ◌∷◌, ◌++◌, codes, decimal, length, replicate, if◌then◌else◌}
use Rattle.std.specs.List.{slice_split}

-- a line ends with one line feed
abbrev pub line : List ℕ → List ℕ
line text = text ++ 10 ∷ []

-- a name, a space and a number in decimal
unfoldable pub figure_line : List ℕ → ℕ → List ℕ
figure_line name n = name ++ (codes " " ++ line (decimal n))

-- a text and spaces, as wide as its column; a longer text passes the column
unfoldable pub column : ℕ → List ℕ → List ℕ
column width text = text ++ replicate (width - length text) 0x20

-- ---- the lines of a text

abbrev pub Text : Type 0
Text = List ℕ

-- an empty part at the end is no line
abbrev pub without_empty_end : List Text → List Text
without_empty_end [] = []
without_empty_end (line ∷ []) = if length line == 0 then [] else line ∷ []
without_empty_end (line ∷ next ∷ lines) = line ∷ without_empty_end (next ∷ lines)

-- Each line ends with a line feed, which is 10. The last one may lack it.
unfoldable pub lines_of : Text → List Text
lines_of text = without_empty_end (slice_split (λ byte. byte == 10) text)
