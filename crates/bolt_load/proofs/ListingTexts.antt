-- The text of a listing that is of one tree is read back as that listing.
use Rattle.std.proofs.{lemmas.Grind.common_steps, lemmas.List.Elements.Contains-append_left, lemmas.Bool.Decides.Decides-eqb, lemmas.Slice.Eq.ends_is}
use Rattle.std.proofs.Common.{◌≡◌, ◌∙◌, ◌==◌, ◌<◌, ◌-◌, ℕ, true, false, List, [], ◌∷◌, ◌++◌, Option, Some, None, length, map, slice_get, inl, inr}
use Rattle.std.proofs.Common.{refl, sym, ap, ap₂, subst, arith, append_assoc, append-nil, length-append}
use Rattle.bolt_lemmas.proofs.Exports.{at_has, has_left, has_right}
use Rattle.bolt_load.proofs.Words.{Bucket, Contains, contains_from_has, end, filter_map-append, Has, has_bucket, if◌then◌else◌, is_above_last, is_lt}
use Rattle.bolt_load.proofs.Words.{IsListingText, IsLoadFault, IsMemberOfBytes, Item, Key, Less, line_fault, line_member, LineFault, lines_of}
use Rattle.bolt_load.proofs.Words.{listing_below, listing_of, listing_text, Member, member_cmp, member_line, members_of_lines, option_map_or, Path}
use Rattle.bolt_load.proofs.Words.{path_above, path_cmp, place_fault, RightAfter, Rises, Text, text_members, Tree, Value, with_bucket, with_value}
use Rattle.bolt_load.proofs.{DecodedLines.member_alone, LastPaths.has_more, LastPaths.has_new, NextLines.members_first, PlacedLines.fault_is_of_place}
use Rattle.bolt_load.proofs.{StoredTexts.AreKeys, StoredTexts.FitsMember}
use Rattle.bolt_load.proofs.WrittenLines.{line_back, line_is, line_shaped, member_words, words_without}
use Rattle.bolt_text.proofs.Exports.{lines_cut, no_lines}
use Rattle.bolt_load.specs.{LineFaults.is_whole, declared.load_fault.LineFault.TheVariants.CutOff, declared.load_fault.LoadFault.TheVariants.Line}
use Rattle.bolt_tree.specs.Tree.{tree_of}
use Rattle.bolt_layout.specs.{Copies.IsOfOneTree, Storable.HasLengths}

-- ---- the lines of a text

abbrev AreGood : List Member → Type 0
AreGood listing = (member : Member) → Has listing member → IsMemberOfBytes member

later_good : (member : Member) (listing : List Member) → AreGood (member ∷ listing) → AreGood listing
later_good member listing good other has = good other (inr has)

lines_are : (listing : List Member) → AreGood listing → lines_of (listing_text listing) ≡ map member_words listing
lines_are [] good = no_lines
lines_are (member ∷ listing) good =
    let whole : listing_text (member ∷ listing) ≡ member_words member ++ 10 ∷ listing_text listing =
    ap (λ first. first ++ listing_text listing) (line_is member) ∙ append_assoc (member_words member) (10 ∷ []) (listing_text listing) in
    lines_cut (listing_text (member ∷ listing)) (member_words member) (listing_text listing)
    (record { whole = whole; first = words_without member (good member (inl refl)) })
    ∙ ap (λ lines. member_words member ∷ lines) (lines_are listing (later_good member listing good))

-- ---- the place of a member

rises_after : (before : List Member) (member : Member) (after : List Member) → Rises member_cmp (before ++ member ∷ after) → (other : Member)
    → Has before other → path_cmp other.0 member.0 ≡ Less
rises_after [] member after rises other has = absurd has
rises_after (first ∷ before) member after rises other (inl same) = grind (arith, common_steps, path_cmp, contains_from_has, has_right)
rises_after (first ∷ before) member after rises other (inr has) = rises_after before member after rises.1 other has

rises_front : (xs ys : List Member) → Rises member_cmp (xs ++ ys) → Rises member_cmp xs
rises_front [] ys rises = tt
rises_front (x ∷ xs) ys rises = (λ y has. rises.0 y (Contains-append_left xs ys y has), rises_front xs ys rises.1)

above_last : (before : List Member) (path : Path) → ((other : Member) → Has before other → path_cmp other.0 path ≡ Less)
    → is_above_last before path ≡ true
above_last before path below = at (slice_get before (length before - 1)) refl
  where
    at : (found : Option Member) → slice_get before (length before - 1) ≡ found → is_above_last before path ≡ true
    at None is = ap (λ (found : Option Member). option_map_or (λ (last : Member). is_lt (path_cmp last.0 path)) found true) is
    at (Some last) is =
        ap (λ (found : Option Member). option_map_or (λ (last : Member). is_lt (path_cmp last.0 path)) found true) is
        ∙ ap is_lt (below last (at_has before (length before - 1) last is))

placed : (before : List Member) (front : Path) (key : Key) (item : Item) → is_above_last before (front ++ key ∷ []) ≡ true
    → has_bucket front before ≡ true
    → place_fault before (front ++ key ∷ [], item) ≡ None
placed before front key item above has = grind (arith, common_steps, has_bucket, path_above)

-- ---- all lines

right_append : (before : List Member) (first second : List Text) → RightAfter before first → RightAfter (before ++ members_of_lines first) second
    → RightAfter before (first ++ second)
right_append before [] second right more = subst (λ (ms : List Member). RightAfter ms second) (append-nil before) more
right_append before (line ∷ first) second right more = (
  right.0,
  right_append (before ++ members_of_lines (line ∷ [])) first second right.1
      (subst (λ (ms : List Member). RightAfter ms second) (members_first_of before line first) more),
)
  where
    members_first_of : (before : List Member) (line : Text) (first : List Text)
        → before ++ members_of_lines (line ∷ first) ≡ (before ++ members_of_lines (line ∷ [])) ++ members_of_lines first
    members_first_of before line first =
        ap (λ ms. before ++ ms) (filter_map-append line_member (line ∷ []) first)
        ∙ sym (append_assoc before (members_of_lines (line ∷ [])) (members_of_lines first))

map_append : (xs ys : List Member) → map member_words (xs ++ ys) ≡ map member_words xs ++ map member_words ys
map_append [] ys = refl
map_append (x ∷ xs) ys = ap (λ words. member_words x ∷ words) (map_append xs ys)

-- what a tree lists below a path
record IsPlain (front : Path) (tree : Tree) : Type 0 where
  keys : AreKeys front
  lengths : HasLengths tree
  good : AreGood (listing_below front tree)

push_key : (front : Path) (key : Key) → AreKeys front → AreKeys (key ∷ []) → AreKeys (front ++ key ∷ [])
push_key [] key are last = last
push_key (part ∷ front) key are last = (are.0, push_key front key are.1 last)

some_parts : (front : Path) (key : Key) → 0 < length (front ++ key ∷ [])
some_parts front key = let l = length-append front (key ∷ []) in omega (arith, l)

module _ (before : List Member) (front : Path) (key : Key) (item : Item) (rest : List Member) (fits : FitsMember (front ++ key ∷ [], item))
    (good : IsMemberOfBytes (front ++ key ∷ [], item)) where
  abbrev own : Member
  own = (front ++ key ∷ [], item)

  said : line_member (member_words own) ≡ Some own
  said = line_back own (some_parts front key) fits good

  first_right : Rises member_cmp (before ++ own ∷ rest) → has_bucket front before ≡ true → line_fault before (member_words own) ≡ None
  first_right rises has = grind (arith, common_steps, fault_is_of_place, member_words, line_shaped, said, placed, above_last, rises_after)

  said_alone : members_of_lines (member_words own ∷ []) ≡ own ∷ []
  said_alone = member_alone (member_words own) own said

  said_first : (listing : List Member) → members_of_lines (map member_words listing) ≡ listing
      → members_of_lines (map member_words (own ∷ listing)) ≡ own ∷ listing
  said_first listing same = members_first (member_words own) (map member_words listing) own said ∙ ap (λ ms. own ∷ ms) same

members_back : (front : Path) (tree : Tree) → IsPlain front tree
    → members_of_lines (map member_words (listing_below front tree)) ≡ listing_below front tree
members_back front end plain = refl
members_back front (with_value key value after) plain =
    let fits : FitsMember (front ++ key ∷ [], Value value) = (push_key front key plain.keys (plain.lengths.0, tt), plain.lengths.1) in
    said_first [] front key (Value value) [] fits (plain.good (front ++ key ∷ [], Value value) (inl refl)) (listing_below front after)
    (members_back front after (record { keys = plain.keys; lengths = plain.lengths.2; good = later_good _ (listing_below front after) plain.good }))
members_back front (with_bucket key sequence inside after) plain =
    let keys = push_key front key plain.keys (plain.lengths.0, tt) in
    let deep : List Member = listing_below (front ++ key ∷ []) inside in
    let behind : List Member = listing_below front after in
    let same : members_of_lines (map member_words (deep ++ behind)) ≡ deep ++ behind =
    ap members_of_lines (map_append deep behind) ∙ filter_map-append line_member (map member_words deep) (map member_words behind)
    ∙ ap₂ (λ a b. a ++ b)
    (members_back (front ++ key ∷ []) inside
    (record { keys = keys; lengths = plain.lengths.2; good = λ member has. plain.good member (inr (has_left deep behind member has)) }))
    (members_back front after
    (record { keys = plain.keys; lengths = plain.lengths.3; good = λ member has. plain.good member (inr (has_right deep behind member has)) })) in
    said_first [] front key (Bucket sequence) [] (keys, plain.lengths.1) (plain.good (front ++ key ∷ [], Bucket sequence) (inl refl)) (deep ++ behind) same

right_below : (before : List Member) (front : Path) (tree : Tree) → IsPlain front tree → has_bucket front before ≡ true
    → Rises member_cmp (before ++ listing_below front tree)
    → RightAfter before (map member_words (listing_below front tree))
right_below before front end plain has rises = tt
right_below before front (with_value key value after) plain has rises =
    let own : Member = (front ++ key ∷ [], Value value) in
    let behind : List Member = listing_below front after in
    let fits : FitsMember (front ++ key ∷ [], Value value) = (push_key front key plain.keys (plain.lengths.0, tt), plain.lengths.1) in
    let good = plain.good own (inl refl) in
    let alone = said_alone before front key (Value value) behind fits good in (
      first_right before front key (Value value) behind fits good rises has,
      subst (λ (ms : List Member). RightAfter (before ++ ms) (map member_words behind)) (sym alone)
          (right_below (before ++ own ∷ []) front after (record { keys = plain.keys; lengths = plain.lengths.2; good = later_good own behind plain.good })
          (has_more front before (own ∷ []) has) (subst (Rises member_cmp) (sym (append_assoc before (own ∷ []) behind)) rises)),
    )
right_below before front (with_bucket key sequence inside after) plain has rises =
    let own : Member = (front ++ key ∷ [], Bucket sequence) in
    let deep : List Member = listing_below (front ++ key ∷ []) inside in
    let behind : List Member = listing_below front after in
    let keys = push_key front key plain.keys (plain.lengths.0, tt) in
    let fits : FitsMember (front ++ key ∷ [], Bucket sequence) = (keys, plain.lengths.1) in
    let good = plain.good own (inl refl) in
    let alone = said_alone before front key (Bucket sequence) (deep ++ behind) fits good in
    let plain_inside : IsPlain (front ++ key ∷ []) inside =
    record { keys = keys; lengths = plain.lengths.2; good = λ member has. plain.good member (inr (has_left deep behind member has)) } in
    let plain_after : IsPlain front after =
    record { keys = plain.keys; lengths = plain.lengths.3; good = λ member has. plain.good member (inr (has_right deep behind member has)) } in
    let now : List Member = before ++ own ∷ [] in
    let whole : Rises member_cmp (now ++ (deep ++ behind)) = subst (Rises member_cmp) (sym (append_assoc before (own ∷ []) (deep ++ behind))) rises in
    let within : Rises member_cmp (now ++ deep) = rises_front (now ++ deep) behind (subst (Rises member_cmp) (sym (append_assoc now deep behind)) whole) in
    let right_inside = right_below now (front ++ key ∷ []) inside plain_inside (has_new (front ++ key ∷ []) (Bucket sequence) before refl) within in
    let right_later =
    right_below (now ++ deep) front after plain_after (has_more front now deep (has_more front before (own ∷ []) has))
    (subst (Rises member_cmp) (sym (append_assoc now deep behind)) whole) in (
      first_right before front key (Bucket sequence) (deep ++ behind) fits good rises has,
      subst (λ (ms : List Member). RightAfter (before ++ ms) (map member_words (deep ++ behind))) (sym alone)
          (subst (RightAfter now) (sym (map_append deep behind))
          (right_append now (map member_words deep) (map member_words behind) right_inside
          (subst (λ (ms : List Member). RightAfter (now ++ ms) (map member_words behind)) (sym (members_back (front ++ key ∷ []) inside plain_inside))
          right_later))),
    )

-- ---- the end of the text

ends_so : (front : Text) → is_whole (front ++ 10 ∷ []) ≡ true
ends_so front = (ends_is Decides-eqb (front ++ 10 ∷ []) (10 ∷ []) (is_whole (front ++ 10 ∷ [])) refl).1 front refl

-- a text of a member or more is lines before a last one, and that one's line feed
front_of : (member : Member) (listing : List Member) → (front : Text) × (listing_text (member ∷ listing) ≡ front ++ 10 ∷ [])
front_of member [] = (member_words member, append-nil (member_line member) ∙ line_is member)
front_of member (next ∷ listing) =
    let (front, is) = front_of next listing in
    (member_line member ++ front, ap (λ text. member_line member ++ text) is ∙ sym (append_assoc (member_line member) front (10 ∷ [])))

text_is_whole : (listing : List Member) → 0 < length listing → is_whole (listing_text listing) ≡ true
text_is_whole [] some = absurd (omega (arith, some))
text_is_whole (member ∷ listing) some = let (front, is) = front_of member listing in ap is_whole is ∙ ends_so front

pub no_text_is_right : IsListingText [] → ⊥
no_text_is_right is = let f : false ≡ true = is.whole in cc

-- no line, so none that isn't right
pub no_text_is_cut : (number : ℕ) (fault : LineFault) → IsLoadFault [] (Line number fault) → (number ≡ 1) × (fault ≡ CutOff)
no_text_is_cut number fault (inl is) = absurd (no_line is.front is.line is.rest (sym no_lines ∙ is.lines))
  where
    no_line : (front : List Text) (line : Text) (rest : List Text) → [] ≡ front ++ line ∷ rest → ⊥
    no_line [] line rest same = cc
    no_line (first ∷ front) line rest same = cc
no_text_is_cut number fault (inr (same, cut)) = (cut.number_is ∙ ap (λ lines. if length lines == 0 then 1 else length lines) no_lines, same)

-- ---- the whole text

module _ (listing : List Member) (one : IsOfOneTree listing) (rises : Rises member_cmp listing)
    (bytes : (member : Member) → Contains listing member → IsMemberOfBytes member) where
  good : AreGood listing
  good member has = bytes member (contains_from_has listing member has)

  plain : IsPlain [] (tree_of listing)
  plain = record { keys = tt; lengths = one.storable.lengths; good = subst AreGood (sym one.lists) good }

  lines : lines_of (listing_text listing) ≡ map member_words (listing_of (tree_of listing))
  lines = lines_are listing good ∙ ap (map member_words) (sym one.lists)

  pub text_is_right : 0 < length listing → IsListingText (listing_text listing)
  text_is_right some = grind (arith, common_steps, lines, right_below, tree_of, plain, member_cmp, text_is_whole)

  pub text_is_read_back : text_members (listing_text listing) ≡ listing
  text_is_read_back = ap members_of_lines lines ∙ members_back [] (tree_of listing) plain ∙ one.lists
