-- What a right text tells can be stored: its keys and its values have lengths that the format allows, and its sequences have 64 bits.
use Rattle.std.proofs.{lemmas.Grind.common_steps, lemmas.Bool.ltb-false, lemmas.Bool.or_parts}
use Rattle.std.proofs.Common.{◌≡◌, ◌∙◌, ◌==◌, ◌≤◌, false, List, [], ◌∷◌, ◌++◌, Some, None, length, sym, ap, subst, arith}
use Rattle.bolt_load.proofs.Words.{cases_Bool, Has, has_from_contains, hex_bytes_in, hex_path_in, is_long_item, is_long_key, IsFitItem, IsListingText}
use Rattle.bolt_load.proofs.Words.{item_in, Key, length_fault, line_member, lines_of, list_any, Member, member_in, members_of_lines, option_and_then}
use Rattle.bolt_load.proofs.Words.{option_map_or, part_in, parts_in, Path, place_fault, RightAfter, shape_fault, slice_split, Text, text_members}
use Rattle.bolt_load.proofs.{DecodedLines.shaped_member, NextLines.members_first, NextLines.parts_of, PathLemmas.digits_are, PathLemmas.part_is}
use Rattle.bolt_load.proofs.{PathLemmas.with_some}
use Rattle.bolt_load.proofs.TextTrees.{or_parts_none, text_tree}
use Rattle.bolt_format.specs.ElementLengths.{IsKeyLength}
use Rattle.bolt_layout.specs.Storable.{IsFitListing}

-- ---- a member that can be stored

abbrev pub AreKeys : Path → Type 0
AreKeys [] = Unit {0}
AreKeys (key ∷ path) = IsKeyLength (length key) × AreKeys path

abbrev pub FitsMember : Member → Type 0
FitsMember member = AreKeys member.0 × IsFitItem member.1

-- ---- the member of a line

some_bytes : (word : Text) (key : Key) → part_in word ≡ Some key → 1 ≤ length key
some_bytes word key is = grind (arith, common_steps, cases_Bool, hex_bytes_in, digits_are, part_is)

not_long : (key : Key) → is_long_key key ≡ false → length key ≤ 0x40000000
not_long key short = ltb-false 0x40000000 (length key) short

parts_fit : (words : List Text) (path : Path) → parts_in words ≡ Some path → list_any is_long_key path ≡ false → AreKeys path
parts_fit [] path is short = let none : [] ≡ path = (let f : Some [] ≡ Some path = is in cc) in subst AreKeys none tt
parts_fit (word ∷ words) path is short =
    let found = with_some (part_in word) (parts_in words) path is in
    let both = or_parts (is_long_key found.0) (list_any is_long_key found.1) (sym (ap (list_any is_long_key) found.4) ∙ short) in
    subst AreKeys (sym found.4) ((some_bytes word found.0 found.2, not_long found.0 both.0), parts_fit words found.1 found.3 both.1)

path_fits : (word : Text) (path : Path) → hex_path_in word ≡ Some path → list_any is_long_key path ≡ false → AreKeys path
unfolding hex_path_in
path_fits word path is short = parts_fit (slice_split (λ byte. byte == 47) word) path is short

member_fits : (words : List Text) (member : Member) → member_in words ≡ Some member → list_any is_long_key member.0 ≡ false
    → is_long_item member.1 ≡ false → FitsMember member
member_fits words member is keys value = grind (arith, common_steps, parts_of, hex_path_in, item_in, path_fits)

no_long_part : (member : Member) → length_fault member ≡ None → (list_any is_long_key member.0 ≡ false) × (is_long_item member.1 ≡ false)
no_long_part member none = grind arith

line_fits : (line : Text) (member : Member) → shape_fault line ≡ None → line_member line ≡ Some member → FitsMember member
unfolding line_member
line_fits line member shaped is = grind (arith, common_steps, no_long_part, option_map_or, length_fault, member_fits)

-- ---- the members of all lines

first_or_later : (first : Member) (later : List Member) (member : Member) → FitsMember first → (Has later member → FitsMember member)
    → Has (first ∷ later) member → FitsMember member
first_or_later first later member fits others h = grind arith

lines_fit : (lines : List Text) (before : List Member) → RightAfter before lines → (member : Member) → Has (members_of_lines lines) member
    → FitsMember member
lines_fit [] before right member has = absurd has
lines_fit (line ∷ lines) before right member has =
    let shaped = (or_parts_none (shape_fault line) (option_and_then (place_fault before) (line_member line)) right.0).0 in
    let said = shaped_member line shaped in
    first_or_later said.0 (members_of_lines lines) member (line_fits line said.0 shaped said.1)
    (lines_fit lines (before ++ members_of_lines (line ∷ [])) right.1 member)
    (subst (λ (ms : List Member). Has ms member) (members_first line lines said.0 said.1) has)

-- ---- the listing

last_key : (front : Path) (key : Key) → AreKeys (front ++ key ∷ []) → IsKeyLength (length key)
last_key [] key are = are.0
last_key (part ∷ front) key are = last_key front key are.1

-- what the lines of a right text tell is a listing that the format can hold
pub text_fits : (text : Text) → IsListingText text → IsFitListing (text_members text)
text_fits text is =
    let (tree, lists, rises) = text_tree text is in
    record {
      tree = tree;
      lists = sym lists;
      rises = rises;
      fit = λ path item has.
          let fits = lines_fit (lines_of text) [] is.right (path, item) (has_from_contains (text_members text) (path, item) has) in
          ((λ front key is. last_key front key (subst AreKeys is fits.0)), fits.1);
    }
