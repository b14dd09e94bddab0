-- What is wrong with a line, and which texts are right: docs/LISTING.md, "A listing as text".
use Rattle.std.specs.Prelude.{◌≡◌, ◌+◌, ◌-◌, ◌⊎◌, ℕ, Bool, true, false, ◌==◌, List, [], ◌∷◌, ◌++◌, Option, Some, None, codes, length, nat_lt, not}
use Rattle.std.specs.Prelude.{option_and_then, slice_get, take, if◌then◌else◌}
use Rattle.std.specs.{List.ends_with, List.list_any, Option.option_map_or, Option.option_or, Ordering.is_lt}
use Rattle.bolt_check.specs.Keys.{Key}
use Rattle.bolt_tree.specs.{Entries.Bucket, Entries.Item, Entries.Value, Listing.Member, ListingParts.has_bucket, Paths.Path, Paths.path_above, Paths.path_cmp}
use Rattle.bolt_text.specs.{LineMembers.line_member, LineMembers.members_of_lines, Lines.Text, Lines.lines_of}
use Rattle.bolt_load.specs.{declared.load_fault.LineFault.LineFault, declared.load_fault.LoadFault.LoadFault}
use Rattle.bolt_load.specs.declared.load_fault.LoadFault.TheVariants.{Line, Memory}
use Rattle.bolt_load.specs.declared.load_fault.LineFault.TheVariants.{CutOff, KeyTooLong, NoBucketAbove, NotALine, PathNotRising, ValueTooLong}

-- more bytes than a key can have, or a value
abbrev pub is_long_key : Key → Bool
is_long_key key = nat_lt 0x40000000 (length key)

abbrev pub is_long_item : Item → Bool
is_long_item (Value value) = nat_lt 0x7FFFFFFE (length value)
is_long_item (Bucket sequence) = false

abbrev pub length_fault : Member → Option LineFault
length_fault member = if list_any is_long_key member.0 then Some KeyTooLong else if is_long_item member.1 then Some ValueTooLong else None

-- a path above that of the last member before it
abbrev pub is_above_last : List Member → Path → Bool
is_above_last before path = option_map_or (λ (last : Member). is_lt (path_cmp last.0 path)) (slice_get before (length before - 1)) true

-- the place of a member after those before it
abbrev pub place_fault : List Member → Member → Option LineFault
place_fault before member =
    if not (is_above_last before member.0) then Some PathNotRising
    else if not (has_bucket (path_above member.0) before) then Some NoBucketAbove
    else None

-- what is wrong with a line, wherever it stands
abbrev pub shape_fault : Text → Option LineFault
shape_fault line = option_map_or length_fault (line_member line) (Some NotALine)

-- the first thing that is wrong with a line after these members
abbrev pub line_fault : List Member → Text → Option LineFault
line_fault before line = option_or (shape_fault line) (option_and_then (place_fault before) (line_member line))

-- each line is right after those before it, which come after these members
abbrev pub RightAfter : List Member → List Text → Type 0
RightAfter before [] = Unit {0}
RightAfter before (line ∷ lines) = (line_fault before line ≡ None) × RightAfter (before ++ members_of_lines (line ∷ [])) lines

-- the text ends with a line feed, so that its last line is whole
abbrev pub is_whole : Text → Bool
is_whole text = ends_with (λ a b. a == b) text (codes "\n")

-- the number of the last line, or 1 if there is none
abbrev pub last_number : Text → ℕ
last_number text = if length (lines_of text) == 0 then 1 else length (lines_of text)

-- all lines are right, and the last one is whole
pub record IsListingText (text : Text) : Type 0 where
  pub right : RightAfter [] (lines_of text)
  pub whole : is_whole text ≡ true

-- the first line that isn't right has this number, from 1, and this fault
pub record IsFirstFault (text : Text) (number : ℕ) (fault : LineFault) : Type 0 where
  pub front : List Text
  pub line : Text
  pub rest : List Text
  pub lines : lines_of text ≡ front ++ line ∷ rest
  pub number_is : number ≡ length front + 1
  pub right : RightAfter [] front
  pub fault_is : line_fault (members_of_lines front) line ≡ Some fault

-- All lines are right, but the text is cut off within the last of them, or before line 1 if it is empty.
pub record IsCutOff (text : Text) (number : ℕ) : Type 0 where
  pub right : RightAfter [] (lines_of text)
  pub cut : is_whole text ≡ false
  pub number_is : number ≡ last_number text

-- Why the lines of a text are refused. Nothing is said of memory.
abbrev pub IsFaultOfLines : Text → LoadFault → Type 0
IsFaultOfLines text Memory = Unit {0}
IsFaultOfLines text (Line number fault) = IsFirstFault text number fault

-- Why a text isn't read. Nothing is said of memory.
abbrev pub IsLoadFault : Text → LoadFault → Type 0
IsLoadFault text Memory = Unit {0}
IsLoadFault text (Line number fault) = IsFirstFault text number fault ⊎ ((fault ≡ CutOff) × IsCutOff text number)
