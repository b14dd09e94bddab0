-- The text of the part of a listing below a path, or from a bucket on, member by member.
-- The members are read once, in order: what begins with the path comes after the bucket at that path, if there is one.
use Rattle.std.proofs.Common.{arith, ◌≡◌, List, subst, sym, ◌∙◌, ◌++◌, ◌∷◌, [], Bool, true, ap, refl, ◌&&◌, ◌||◌, false, not, inl, inr}
use Rattle.std.proofs.{lemmas.List.Sums.take_while-cons, Math.Bool.or_assoc, lemmas.Bool.cond-false, lemmas.Bool.or_cases}
use Rattle.std.proofs.{lemmas.Slice.Eq.bytes_eq-Decides, lemmas.Slice.Eq.slice_eq-Decides}
use Rattle.bolt_report.proofs.Words.{and_parts, begins_with, bytes_eq, bytes_of, Checked, cond-true, Contains, contains_head, contains_tail}
use Rattle.bolt_report.proofs.Words.{is_bucket_at, list_any, list_line, ListForm, listing_lines, Member, member_cmp, meta_of, false_from_ne_true}
use Rattle.bolt_report.proofs.Words.{Path, pointwise, rest_from, Rises, take_while}
use Rattle.bolt_tree.specs.{Listing.IsListing, ListingParts.is_bucket, ListingParts.part_below, Paths.path_cmp}
use Rattle.bolt_tree.proofs.Exports.{begins_after}
use Rattle.std.specs.Prelude.{if◌then◌else◌}
use Rattle.std.specs.{Ordering.is_lt, declared.cmp.Ordering.TheVariants.Less}

-- the listing of the same file
pub same_listing : (a b : Checked) (listing : List Member) → a ≡ b → IsListing (bytes_of b) (meta_of b) listing
    → IsListing (bytes_of a) (meta_of a) listing
same_listing a b listing same lists = subst (λ (file : Checked). IsListing (bytes_of file) (meta_of file) listing) (sym same) lists

module _ (below : Path) where
  abbrev pub front : List Member → List Member
  front members = take_while (λ (m : Member). begins_with below m.0) members

  -- the line of a member that begins with the path, and then the text of the others
  pub front_text : (form : ListForm) (old new : List Member) (m : Member) → old ≡ m ∷ new → begins_with below m.0 ≡ true
      → listing_lines form (front old) ≡ list_line form m ++ listing_lines form (front new)
  front_text form old new m given begins = grind (arith, take_while-cons, cond-true)

module _ (below : Path) where
  -- the part of what is left, if the bucket was found or is among it
  abbrev pub left_part : Bool → List Member → List Member
  left_part found members = if found || list_any (is_bucket_at below) members then part_below below members else []

  at_path : (m : Member) → is_bucket_at below m ≡ true → m.0 ≡ below
  at_path m e =
      (slice_eq-Decides bytes_eq-Decides m.0 below (pointwise bytes_eq m.0 below) refl).0 (and_parts (pointwise bytes_eq m.0 below) (is_bucket m.1) e).0

  -- what comes before the bucket doesn't begin with its path
  pub apart_before : (path : Path) (ms : List Member) → ((y : Member) → Contains ms y → path_cmp path y.0 ≡ Less)
      → list_any (is_bucket_at below) ms ≡ true
      → begins_with below path ≡ false
  apart_before path [] less any = cc
  apart_before path (m ∷ ms) less any =
      elim (or_cases (is_bucket_at below m) (list_any (is_bucket_at below) ms) any) [
        | inl here ↦ false_from_ne_true (begins_with below path) (λ begins.
            let before : path_cmp path below ≡ Less = ap (path_cmp path) (sym (at_path m here)) ∙ less m (contains_head m ms) in
            let g : true ≡ false = sym (ap is_lt before) ∙ begins_after below path begins in cc)
        | inr later ↦ apart_before path ms (λ y has. less y (contains_tail m y ms has)) later
      ]

  by_later : (m : Member) (ms : List Member) (any : Bool) → list_any (is_bucket_at below) ms ≡ any → Rises member_cmp (m ∷ ms)
      → (if any then part_below below (m ∷ ms) else []) ≡ (if any then part_below below ms else [])
  by_later m ms true e rises = cond-false _ _ _ (apart_before m.0 ms rises.0 e)
  by_later m ms false e rises = refl

  module _ (found now : Bool) (m : Member) (ms : List Member) (is : now ≡ (found || is_bucket_at below m)) where
    pub has_next : (found || list_any (is_bucket_at below) (m ∷ ms)) ≡ (now || list_any (is_bucket_at below) ms)
    has_next = rw (is, or_assoc)

    -- Before the bucket, nothing is written;
    pub before_bucket : now ≡ false → Rises member_cmp (m ∷ ms) → left_part found (m ∷ ms) ≡ left_part now ms
    before_bucket e rises = rw (has_next, e) (by_later m ms (list_any (is_bucket_at below) ms) refl rises)

    module _ (from : Path) where
      kept_by : (begins before : Bool) → begins_with below m.0 ≡ begins → is_lt (path_cmp m.0 from) ≡ before
          → rest_from from (part_below below (m ∷ ms))
          ≡ (if begins && not before then m ∷ rest_from from (part_below below ms) else rest_from from (part_below below ms))
      kept_by true true e h = rw (e, h)
      kept_by true false e h = rw (e, h)
      kept_by false before e h = rw e

      kept : rest_from from (part_below below (m ∷ ms))
          ≡ (if begins_with below m.0 && not (is_lt (path_cmp m.0 from)) then m ∷ rest_from from (part_below below ms)
          else rest_from from (part_below below ms))
      kept = kept_by (begins_with below m.0) (is_lt (path_cmp m.0 from)) refl refl

      -- from it on, nothing of a member that is not wanted,
      pub over_unwanted : now ≡ true → (begins_with below m.0 && not (is_lt (path_cmp m.0 from))) ≡ false
          → rest_from from (left_part found (m ∷ ms)) ≡ rest_from from (left_part now ms)
      over_unwanted e none = rw (has_next, e) (kept ∙ cond-false _ _ _ none)

      -- and the line of one that is.
      pub with_wanted : (form : ListForm) → now ≡ true → (begins_with below m.0 && not (is_lt (path_cmp m.0 from))) ≡ true
          → listing_lines form (rest_from from (left_part found (m ∷ ms))) ≡ list_line form m ++ listing_lines form (rest_from from (left_part now ms))
      with_wanted form e both = rw (has_next, e) (ap (listing_lines form) (kept ∙ cond-true _ _ _ both))
