-- What the lines of a text tell is what one tree lists: each member is put at the end of its bucket.
use Rattle.std.proofs.Common.{rules, ◌≡◌, ◌∙◌, inl, inr, ◌<◌, ◌||◌, Bool, true, false, List, [], ◌∷◌, ◌++◌, Option, None, drop, length, refl, sym, ap}
use Rattle.std.proofs.Common.{subst, arith, append_assoc, append-nil}
use Rattle.bolt_lemmas.proofs.Exports.{rises_push}
use Rattle.bolt_load.proofs.Words.{and_parts, begins_of, begins_with, end, Has, has_bucket, has_from_contains}
use Rattle.bolt_load.proofs.Words.{is_bucket, is_lt, is_open, IsListingText, Item, Less, less_of, line_member, LineFault, lines_of, listing_of}
use Rattle.bolt_load.proofs.Words.{Member, member_cmp, members_of_lines, nat_tests, option_and_then, option_or, Path, path_above, path_cmp}
use Rattle.bolt_load.proofs.Words.{path_total, place_fault, RightAfter, Rises, shape_fault, Text, text_members, Tree}
use Rattle.bolt_load.proofs.{DecodedLines.member_alone, DecodedLines.shaped_member, EdgeTrees.OnEdge, EdgeTrees.front_on_edge, EdgeTrees.new_on_edge}
use Rattle.bolt_load.proofs.{EdgeTrees.put_last, EdgeTrees.put_lists}
use Rattle.bolt_load.proofs.{LastPaths.IsLast, LastPaths.above_append, LastPaths.next_last, LastPaths.none_last, LastPaths.place_same}
use Rattle.bolt_load.proofs.{LastPaths.split_last, NextLines.members_first}
use Rattle.bolt_load.proofs.PlacedLines.{fault_parts, line_path_some}
use Rattle.std.specs.Prelude.{nat_lt}
use Rattle.std.specs.declared.cmp.Ordering.{Ordering}

-- ---- lists that rise

push_rises : {A : Type 0} (cmp : A → A → Ordering) (xs : List A) (x : A) → Rises cmp xs → ((y : A) → Has xs y → cmp y x ≡ Less)
    → Rises cmp (xs ++ x ∷ [])
push_rises cmp xs x rises below = rises_push cmp xs x rises (λ y has. below y (has_from_contains xs y has))

-- ---- the tree so far

pub record HasGrown (before : List Member) (tree : Tree) (last : Path) (bucket : Bool) : Type 0 where
  pub lists : listing_of tree ≡ before
  pub edge : (above : Path) → is_open last bucket above ≡ true → OnEdge tree above
  pub last_is : IsLast before last bucket
  pub rises : Rises member_cmp before

none_on_edge : (above : Path) → has_bucket above [] ≡ true → OnEdge end above
none_on_edge above has = grind arith

pub none_grown : HasGrown [] end [] true
none_grown = record { lists = refl; edge = λ above goes. none_on_edge above (none_last.opens above goes); last_is = none_last; rises = tt }

module _ (before : List Member) (tree : Tree) (last : Path) (bucket : Bool) (so_far : HasGrown before tree last bucket) (path : Path) (item : Item)
    (some : 0 < length path)
    (less : path_cmp last path ≡ Less) (opens : is_open last bucket (path_above path) ≡ true) where
  abbrev pub next_tree : Tree
  next_tree = put_last tree (path_above path) (split_last path some).0 item

  edge_above : OnEdge tree (path_above path)
  edge_above = so_far.edge (path_above path) opens

  now_lists : listing_of next_tree ≡ before ++ (path, item) ∷ []
  now_lists = grind (arith, put_lists, path_above, split_last, edge_above)

  new_edge : (item : Item) → is_bucket item ≡ true → OnEdge (put_last tree (path_above path) (split_last path some).0 item) path
  new_edge item kind = search (rules, put_last, path_above, split_last, new_on_edge)

  now_edge : (above : Path) → is_open path (is_bucket item) above ≡ true → OnEdge next_tree above
  now_edge above goes =
      let parts = and_parts (begins_with above path) (nat_lt (length above) (length path) || is_bucket item) goes in
      at (drop (length above) path) (begins_of above path parts.0) parts.1
    where
      at : (rest : Path) → path ≡ above ++ rest → (nat_lt (length above) (length path) || is_bucket item) ≡ true → OnEdge next_tree above
      at [] split kind =
          let same : path ≡ above = split ∙ append-nil above in
          let l = ap length same in
          let not_shorter : nat_lt (length above) (length path) ≡ false = grind (arith, nat_tests, l) in
          subst (OnEdge next_tree) same (new_edge item (sym (ap (λ b. b || is_bucket item) not_shorter) ∙ kind))
      at (part ∷ rest) split kind =
          let same : path_above path ≡ above ++ path_above (part ∷ rest) = ap path_above split ∙ above_append above (part ∷ rest) (omega arith) in
          subst (λ (front : Path). OnEdge (put_last tree front (split_last path some).0 item) above) (sym same)
          (front_on_edge tree above (path_above (part ∷ rest)) (split_last path some).0 item (subst (OnEdge tree) same edge_above))

  below : (member : Member) → Has before member → member_cmp member (path, item) ≡ Less
  below member has = elim (so_far.last_is.most member has) [
    | inl earlier ↦ path_total.trans member.0 last path earlier less
    | inr (same, kind) ↦ ap (λ p. path_cmp p path) same ∙ less
  ]

  pub next_grown : HasGrown (before ++ (path, item) ∷ []) next_tree path (is_bucket item)
  next_grown = search (rules, now_lists, now_edge, next_last, path_above, push_rises, member_cmp, below)

-- ---- all lines

pub or_parts_none : (a b : Option LineFault) → option_or a b ≡ None → (a ≡ None) × (b ≡ None)
or_parts_none a b none = grind arith

grows : (lines : List Text) (before : List Member) (tree : Tree) (last : Path) (bucket : Bool) → HasGrown before tree last bucket
    → RightAfter before lines
    → (all : Tree) × (listing_of all ≡ before ++ members_of_lines lines) × Rises member_cmp (before ++ members_of_lines lines)
grows [] before tree last bucket so_far right = (tree, so_far.lists ∙ sym (append-nil before), subst (Rises member_cmp) (sym (append-nil before)) so_far.rises)
grows (line ∷ lines) before tree last bucket so_far right =
    let parts = or_parts_none (shape_fault line) (option_and_then (place_fault before) (line_member line)) right.0 in
    let said = shaped_member line parts.0 in
    let path = said.0.0 in
    let item = said.0.1 in
    let place : place_fault before said.0 ≡ None = sym (ap (option_and_then (place_fault before)) said.1) ∙ parts.1 in
    let some = line_path_some line path item said.1 in
    let both =
    fault_parts (is_lt (path_cmp last path)) (is_open last bucket (path_above path))
    (sym (place_same before last bucket so_far.last_is path some item) ∙ place) in
    let less = less_of (path_cmp last path) both.0 in
    let next = next_grown before tree last bucket so_far path item some less both.1 in
    let rest = grows lines (before ++ said.0 ∷ []) (next_tree before tree last bucket so_far path item some less both.1) path (is_bucket item) next
    (subst (λ (more : List Member). RightAfter (before ++ more) lines) (member_alone line said.0 said.1) right.1) in
    let same : (before ++ said.0 ∷ []) ++ members_of_lines lines ≡ before ++ members_of_lines (line ∷ lines) =
    append_assoc before (said.0 ∷ []) (members_of_lines lines) ∙ ap (λ more. before ++ more) (sym (members_first line lines said.0 said.1)) in
    (rest.0, rest.1 ∙ same, subst (Rises member_cmp) same rest.2)

pub text_tree : (text : Text) → IsListingText text → (tree : Tree) × (listing_of tree ≡ text_members text) × Rises member_cmp (text_members text)
text_tree text is = grows (lines_of text) [] end [] true none_grown is.right
