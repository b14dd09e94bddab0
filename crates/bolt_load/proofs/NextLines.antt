-- The next line tells the member whose bytes come next.
use Rattle.std.proofs.Common.{rules, ◌≡◌, ◌∙◌, ℕ, List, [], ◌∷◌, ◌++◌, Option, Some, None, length, drop, take, refl, sym, ap, subst, arith}
use Rattle.std.proofs.Common.{append_assoc}
use Rattle.std.proofs.lemmas.List.{append_cancel_left}
use Rattle.bolt_load.proofs.Words.{All, AreDecoded, BeginsWith, IsFirstLine, IsSome, Item, item_bytes, line_member, lines_of, Member, member_bytes}
use Rattle.bolt_load.proofs.Words.{members_of_lines, Path, path_bytes, take-append-drop, take-append_seam, Text, text_members}
use Rattle.bolt_load.proofs.MemberLemmas.{member_of}
use Rattle.std.specs.Prelude.{suc, IsSomeAnd}
use Rattle.bolt_load.specs.Private.Decoding.{listing_bytes}

said_by : (found : Option Member) → IsSome found → (member : Member) × (found ≡ Some member)
said_by found some = grind arith

pub first_of : (P : Text → Type 0) (line : Text) (lines : List Text) → All P (line ∷ lines) → P line
first_of P line lines all = all 0 line (omega arith)

pub others_of : (P : Text → Type 0) (line : Text) (lines : List Text) → All P (line ∷ lines) → All P lines
others_of P line lines all = λ k d below. all (suc k) d (omega (arith, below))

module _ (line : Text) (lines : List Text) (member : Member) (is : line_member line ≡ Some member) where
  pub members_first : members_of_lines (line ∷ lines) ≡ member ∷ members_of_lines lines
  members_first = rw is refl

pub parts_of : (path : Option Path) (item : Option Item) (member : Member) → member_of path item ≡ Some member
    → (path ≡ Some member.0) × (item ≡ Some member.1)
parts_of path item member is = grind arith

module _ (text line after : Text) (bytes : List ℕ) (first : IsFirstLine text line after) (decoded : AreDecoded (lines_of text) bytes) where
  all_say : All (λ line. IsSome (line_member line)) (line ∷ lines_of after)
  all_say = subst (λ (lines : List Text). All (λ line. IsSome (line_member line)) lines) first.lines decoded.say

  said : (member : Member) × (line_member line ≡ Some member)
  said = said_by (line_member line) (first_of (λ line. IsSome (line_member line)) line (lines_of after) all_say)

  pub no_words : line_member line ≡ None → ⊥
  no_words none = let f : None ≡ Some said.0 = sym none ∙ said.1 in absurd (cc)

  members_are : text_members text ≡ said.0 ∷ text_members after
  members_are = ap members_of_lines first.lines ∙ members_first line (lines_of after) said.0 said.1

  later : List ℕ
  later = listing_bytes (text_members after) ++ drop (length (listing_bytes (text_members text))) bytes

  bytes_are : bytes ≡ path_bytes said.0.0 ++ (item_bytes said.0.1 ++ later)
  unfolding later
  bytes_are = search (rules, listing_bytes, text_members, take-append-drop, members_are, append_assoc, member_bytes, path_bytes, item_bytes)

  module _ (path : Option Path) (item : Option Item) (words : line_member line ≡ member_of path item) where
    both : (path ≡ Some said.0.0) × (item ≡ Some said.0.1)
    both = parts_of path item said.0 (sym words ∙ said.1)

    pub path_begins : IsSomeAnd path (λ said. BeginsWith (path_bytes said) bytes)
    path_begins =
        subst (λ (path : Option Path). IsSomeAnd path (λ said. BeginsWith (path_bytes said) bytes)) (sym both.0)
        (record { after = item_bytes said.0.1 ++ later; whole = bytes_are })

    module _ (newer : Path) (bytes_left : List ℕ) (pushed : (said : Path) → path ≡ Some said → (newer ≡ said) × (bytes ≡ path_bytes said ++ bytes_left)) where
      left_are : bytes_left ≡ item_bytes said.0.1 ++ later
      left_are = append_cancel_left (path_bytes said.0.0) bytes_left (item_bytes said.0.1 ++ later) (sym (pushed said.0.0 both.0).1 ∙ bytes_are)

      pub item_begins : IsSomeAnd item (λ said. BeginsWith (item_bytes said) bytes_left)
      item_begins =
          subst (λ (item : Option Item). IsSomeAnd item (λ said. BeginsWith (item_bytes said) bytes_left)) (sym both.1)
          (record { after = later; whole = left_are })

      module _ (given : Item) (rest : List ℕ) (item_is : Some given ≡ item) (rest_is : bytes_left ≡ item_bytes given ++ rest) where
        item_same : said.0.1 ≡ given
        item_same = let f : Some given ≡ Some said.0.1 = item_is ∙ both.1 in cc

        rest_same : rest ≡ later
        rest_same = append_cancel_left (item_bytes given) rest later (sym rest_is ∙ left_are ∙ ap (λ item. item_bytes item ++ later) item_same)

        pub rest_decoded : AreDecoded (lines_of after) rest
        unfolding later
        rest_decoded = record {
          say = others_of (λ line. IsSome (line_member line)) line (lines_of after) all_say;
          begin =
              ap (take (length (listing_bytes (text_members after)))) rest_same
              ∙ take-append_seam (listing_bytes (text_members after)) (drop (length (listing_bytes (text_members text))) bytes);
        }

pub no_members : (text : Text) → text ≡ [] → lines_of text ≡ []
unfolding lines_of
no_members text none = ap lines_of none

-- the parts were pushed onto an empty path
pub pushed_onto_none : (path : Option Path) (cleared : Path) (newer : Path) (bytes bytes_left : List ℕ) → cleared ≡ []
    → ((said : Path) → path ≡ Some said → (newer ≡ cleared ++ said) × (bytes ≡ path_bytes said ++ bytes_left))
    → (said : Path) → path ≡ Some said → (newer ≡ said) × (bytes ≡ path_bytes said ++ bytes_left)
pushed_onto_none path cleared newer bytes bytes_left none pushed said is = let both = pushed said is in (both.0 ∙ ap (λ cleared. cleared ++ said) none, both.1)
