-- The places of lines are tested one after another.
use Rattle.std.proofs.Common.{rules, ◌≡◌, ◌∙◌, ◌<◌, ◌≤◌, ◌+◌, ◌==◌, ℕ, Bool, true, List, [], ◌∷◌, ◌++◌, Option, Some, None, length, Bor, refl, sym}
use Rattle.std.proofs.Common.{ap, subst, arith, append_assoc, append-nil, length-append}
use Rattle.std.proofs.lemmas.Grind.{common_steps}
use Rattle.bolt_load.proofs.Words.{All, fault_after, order_fault, filter_map-append, GivesLine, hex_path_in, is_bucket, is_lt, is_open, IsFirstFault}
use Rattle.bolt_load.proofs.Words.{Item, Key, length-map, less_of, line_fault, line_member, LineFault, lines_of, Member, member_in, members_of_lines}
use Rattle.bolt_load.proofs.Words.{option_and_then, option_map, part_in, parts_in, Path, path_above, path_cmp, path_of, place_fault, RightAfter}
use Rattle.bolt_load.proofs.Words.{slice_split, Text}
use Rattle.bolt_load.proofs.{DecodedLines.IsShaped, DecodedLines.members_push, LastPaths.IsLast, LastPaths.next_last, LastPaths.none_last}
use Rattle.bolt_load.proofs.{LastPaths.path_open, LastPaths.place_same}
use Rattle.bolt_load.proofs.NextLines.{first_of, others_of, parts_of}
use Rattle.bolt_text.proofs.Exports.{some_parts}

-- ---- a path has a part

parts_some : (words : List Text) (path : Path) → 0 < length words → parts_in words ≡ Some path → 0 < length path
parts_some [] path some is = absurd (omega (arith, some))
parts_some (word ∷ words) path some is = at (part_in word) (parts_in words) is
  where
    at : (part : Option Key) (rest : Option Path) → option_and_then (λ part. option_map (λ parts. part ∷ parts) rest) part ≡ Some path
        → 0 < length path
    at None rest is = absurd (let f : None ≡ Some path = is in cc)
    at (Some part) None is = absurd (let f : None ≡ Some path = is in cc)
    at (Some part) (Some rest) is =
        let f : Some (part ∷ rest) ≡ Some path = is in
        let same : part ∷ rest ≡ path = cc in
        subst (λ (path : Path). 0 < length path) same (omega arith)

hex_path_some : (word : Text) (path : Path) → hex_path_in word ≡ Some path → 0 < length path
unfolding hex_path_in
hex_path_some word path is = parts_some (slice_split (λ byte. byte == 47) word) path (some_parts 47 word) is

member_some : (words : List Text) (path : Path) (item : Item) → member_in words ≡ Some (path, item) → 0 < length path
member_some words path item is = grind (arith, common_steps, hex_path_some, parts_of, hex_path_in)

pub line_path_some : (line : Text) (path : Path) (item : Item) → line_member line ≡ Some (path, item) → 0 < length path
unfolding line_member
line_path_some line path item is = member_some (slice_split (λ byte. byte == 32) line) path item is

-- ---- what is wrong with a line that is right in itself

pub fault_is_of_place : (before : List Member) (line : Text) (member : Member) → IsShaped line → line_member line ≡ Some member
    → line_fault before line ≡ place_fault before member
fault_is_of_place before line member shaped is = grind arith

right_push : (before : List Member) (front : List Text) (line : Text) → RightAfter before front
    → line_fault (before ++ members_of_lines front) line ≡ None → RightAfter before (front ++ line ∷ [])
right_push before [] line right good = (sym (ap (λ before. line_fault before line) (append-nil before)) ∙ good, tt)
right_push before (first ∷ front) line right good = (
  right.0,
  right_push (before ++ members_of_lines (first ∷ [])) front line right.1
      (ap (λ before. line_fault before line)
      (append_assoc before (members_of_lines (first ∷ [])) (members_of_lines front)
      ∙ ap (λ more. before ++ more) (sym (filter_map-append line_member (first ∷ []) front))) ∙ good),
)

-- ---- the lines so far

pub record HasPlaced (text left : Text) (last : Path) (bucket : Bool) (number : ℕ) : Type 0 where
  pub front : List Text
  pub lines : lines_of text ≡ front ++ lines_of left
  pub number_is : number ≡ length front
  pub fits : number + length left ≤ length text
  pub shaped : All IsShaped (lines_of left)
  pub right : RightAfter [] front
  pub last_is : IsLast (members_of_lines front) last bucket

pub none_placed : (text : Text) → All IsShaped (lines_of text) → HasPlaced text text [] true 0
none_placed text shaped = record { front = []; lines = refl; number_is = refl; fits = omega arith; shaped = shaped; right = tt; last_is = none_last }

pub fault_parts : (above below : Bool) → order_fault above below ≡ None → (above ≡ true) × (below ≡ true)
fault_parts above below none = grind arith

module _ (text left : Text) (last : Path) (bucket : Bool) (number : ℕ) (so_far : HasPlaced text left last bucket number) where
  module _ (after : Text) (item : Item) (path : Path) (given : GivesLine left after (Some item) path) where
    pub path_some : 0 < length path
    path_some = line_path_some given.0 path item given.2

    this_shaped : IsShaped given.0
    this_shaped = first_of IsShaped given.0 (lines_of after) (subst (All IsShaped) given.1 so_far.shaped)

    fault_here : line_fault (members_of_lines so_far.front) given.0 ≡ fault_after last bucket path
    fault_here =
        fault_is_of_place (members_of_lines so_far.front) given.0 (path, item) this_shaped given.2
        ∙ place_same (members_of_lines so_far.front) last bucket so_far.last_is path path_some item

    lines_here : lines_of text ≡ so_far.front ++ given.0 ∷ lines_of after
    lines_here = so_far.lines ∙ ap (λ lines. so_far.front ++ lines) given.1

    pub line_placed : fault_after last bucket path ≡ None → HasPlaced text after path (is_bucket item) (number + 1)
    line_placed none =
        let both = fault_parts (is_lt (path_cmp last path)) (is_open last bucket (path_above path)) none in
        let less = less_of (path_cmp last path) both.0 in
        let is = so_far.number_is in
        let l = length-append so_far.front (given.0 ∷ []) in
        let fits = so_far.fits in
        let below = given.3 in
        record {
          front = so_far.front ++ given.0 ∷ [];
          lines = lines_here ∙ sym (append_assoc so_far.front (given.0 ∷ []) (lines_of after));
          number_is = omega (arith, is, l);
          fits = omega (arith, fits, below);
          shaped = others_of IsShaped given.0 (lines_of after) (subst (All IsShaped) given.1 so_far.shaped);
          right = right_push [] so_far.front given.0 so_far.right (fault_here ∙ none);
          last_is = subst (λ (members : List Member). IsLast members path (is_bucket item)) (sym (members_push so_far.front given.0 (path, item) given.2))
              (next_last (members_of_lines so_far.front) last bucket so_far.last_is path item path_some less
              (path_open (members_of_lines so_far.front) last bucket so_far.last_is path path_some less ∙ both.1));
        }

    pub line_refused : (fault : LineFault) → Some fault ≡ fault_after last bucket path → IsFirstFault text (number + 1) fault
    line_refused fault is = grind (arith, common_steps, lines_of, lines_here, fault_here)

-- ---- as the code holds paths

pub begun : (text left : Text) (path : Path) → All IsShaped (lines_of text) → left ≡ text → path ≡ [] → HasPlaced text left path true 0
begun text left path shaped left_is path_is = search (rules, none_placed)

pub slices_some : (path : Path) (parts : List (Bor (List ℕ))) → path_of parts ≡ path → 0 < length path → 0 < length parts
slices_some path parts is some = let many = length-map parts (λ (part : Bor (List ℕ)). part.now) in let l = ap length is in omega (arith, many, l, some)
