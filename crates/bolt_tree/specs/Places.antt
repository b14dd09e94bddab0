-- How a cursor's place moves over the entries of its bucket: docs/LISTING.md, "Places".
use Rattle.std.specs.Prelude.{◌≡◌, ℕ, zero, suc, List, [], ◌∷◌, length, Option, None, if◌then◌else◌, slice_get, nat_lt, not}
use Rattle.std.specs.{List.position_or_len, Option.option_map}
use Rattle.bolt_format.specs.Elements.{LeafElement}
use Rattle.bolt_check.specs.Keys.{Key, key_lt}
use Rattle.bolt_tree.specs.Entries.{AreEntries, EntryView, Start, entry_view}

-- before the first call, on entry i, or past the last entry
pub data Place : Type 0 where
  Fresh : Place
  On : (i : ℕ) → Place
  Past : Place

-- the place after a call, and what it returns
pub record Move : Type 0 where
  pub place : Place
  pub answer : Option LeafElement

abbrev pub move_onto : List LeafElement → ℕ → Move
move_onto entries i = record { place = On i; answer = slice_get entries i }

abbrev pub nothing_at : Place → Move
nothing_at place = record { place = place; answer = None }

-- without entries every call returns nothing, and the place stays fresh
abbrev pub first_move : List LeafElement → Move
first_move [] = nothing_at Fresh
first_move (e ∷ entries) = move_onto (e ∷ entries) 0

abbrev pub last_move : List LeafElement → Move
last_move [] = nothing_at Fresh
last_move (e ∷ entries) = move_onto (e ∷ entries) (length entries)

-- a move to the next entry; at the last one nothing, and the place stays
abbrev pub next_move : List LeafElement → Place → Move
next_move entries Fresh = first_move entries
next_move entries (On i) = if nat_lt (suc i) (length entries) then move_onto entries (suc i) else nothing_at (On i)
next_move [] Past = nothing_at Fresh
next_move (e ∷ entries) Past = nothing_at Past

-- a move to the preceding entry; at the first one nothing, and the place stays
abbrev pub prev_move : List LeafElement → Place → Move
prev_move entries Fresh = last_move entries
prev_move entries (On zero) = nothing_at (On 0)
prev_move entries (On (suc i)) = move_onto entries i
prev_move entries Past = last_move entries

-- the least entry with a key at or above this one, or the number of entries if there is none
abbrev pub least_from : Key → List LeafElement → ℕ
least_from key entries = position_or_len (λ (e : LeafElement). not (key_lt e.key key)) entries

-- a move to the least entry with a key at or above this one; past all if there is none
abbrev pub seek_move : Key → List LeafElement → Move
seek_move key [] = nothing_at Fresh
seek_move key (e ∷ entries) =
    if nat_lt (least_from key (e ∷ entries)) (length (e ∷ entries)) then move_onto (e ∷ entries) (least_from key (e ∷ entries)) else nothing_at Past

-- moves that come to the same place from each
abbrev pub to_first : List LeafElement → Place → Move
to_first entries place = first_move entries

abbrev pub to_last : List LeafElement → Place → Move
to_last entries place = last_move entries

abbrev pub seek_to : Key → List LeafElement → Place → Move
seek_to key entries place = seek_move key entries

-- the entry at a place, if there is one
abbrev pub entry_at : List LeafElement → Place → Option LeafElement
entry_at entries Fresh = None
entry_at entries (On i) = slice_get entries i
entry_at entries Past = None

-- what is found is the entry at a place, whatever the bucket's entries in order are
abbrev pub IsEntryAt : (Start → LeafElement → Type 0) → Start → Place → Option LeafElement → Type 0
IsEntryAt Entry bucket place found = (entries : List LeafElement) → AreEntries Entry bucket entries → found ≡ entry_at entries place

-- The place of a cursor is where it is; without entries it is always fresh, wherever the cursor assumes it is.
abbrev pub place_in : List LeafElement → Place → Place
place_in [] stand = Fresh
place_in (e ∷ entries) stand = stand

-- A call moves the cursor, and returns, as the move says, whatever the bucket's entries in order are.
abbrev pub Moves : (Start → LeafElement → Type 0) → Start → (List LeafElement → Place → Move) → (old new : Place) → Option LeafElement → Type 0
Moves Entry bucket move old new answer = (entries : List LeafElement) → AreEntries Entry bucket entries
    → (place_in entries new ≡ (move entries (place_in entries old)).place) × (answer ≡ (move entries (place_in entries old)).answer)

-- A call moves the cursor, and returns what the move says, as it is shown, whatever the bucket's entries in order are.
abbrev pub ShowsMove : (Start → LeafElement → Type 0) → Start → (List LeafElement → Place → Move) → (old new : Place) → Option EntryView → Type 0
ShowsMove Entry bucket move old new answer = (entries : List LeafElement) → AreEntries Entry bucket entries
    → (place_in entries new ≡ (move entries (place_in entries old)).place) × (answer ≡ option_map entry_view (move entries (place_in entries old)).answer)
