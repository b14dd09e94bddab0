-- The bytes that a text has in hexadecimal, one line after another.
use Rattle.std.specs.Prelude.{◌≡◌, ◌<◌, ℕ, List, [], ◌∷◌, ◌++◌, All, IsSome, Option, Some, None, length, take, flat_map}
use Rattle.bolt_tree.specs.{Entries.Item, Entries.item_bytes, Listing.Member, Paths.Path}
use Rattle.bolt_text.specs.{LineMembers.line_member, LineMembers.members_of_lines, Lines.Text, Lines.lines_of}
use Rattle.bolt_load.specs.{LineFaults.shape_fault, declared.load_fault.LineFault.LineFault}

abbrev pub path_bytes : Path → List ℕ
path_bytes path = flat_map (λ part. part) path

abbrev pub member_bytes : Member → List ℕ
member_bytes member = path_bytes member.0 ++ item_bytes member.1

abbrev pub listing_bytes : List Member → List ℕ
listing_bytes listing = flat_map member_bytes listing

-- Bytes were added at the end: these, if there are such.
pub record AddsDecoded (found : Option (List ℕ)) (old new : List ℕ) : Type 0 where
  pub more : List ℕ
  pub added : new ≡ old ++ more
  pub are : (bytes : List ℕ) → found ≡ Some bytes → more ≡ bytes

-- each of these lines tells a member, and the bytes begin with those of all of them
pub record AreDecoded (lines : List Text) (bytes : List ℕ) : Type 0 where
  pub say : All (λ line. IsSome (line_member line)) lines
  pub begin : take (length (listing_bytes (members_of_lines lines))) bytes ≡ listing_bytes (members_of_lines lines)

-- a front of the bytes
pub record BeginsWith (front bytes : List ℕ) : Type 0 where
  pub after : List ℕ
  pub whole : bytes ≡ front ++ after

-- The first line that was left told the member at the path, and the lines after it are left; or no line was left.
abbrev pub GivesLine : (old new : Text) → Option Item → Path → Type 0
GivesLine old new None path = lines_of old ≡ []
GivesLine old new (Some item) path = (line : Text) × (lines_of old ≡ line ∷ lines_of new) × (line_member line ≡ Some (path, item)) × (length new < length old)

-- After the lines of the one text, the other goes on with a line that is wrong in itself.
pub record StopsAt (text decoded : Text) (fault : LineFault) : Type 0 where
  pub line : Text
  pub rest : List Text
  pub lines : lines_of text ≡ lines_of decoded ++ line ∷ rest
  pub fault_is : shape_fault line ≡ Some fault
