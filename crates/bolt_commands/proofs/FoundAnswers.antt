-- The pages that are found, and the joined listing.
use Rattle.std.proofs.Common.{◌≡◌, ℕ, List, [], ◌∷◌, Option, ap, ap₂, map, refl, sym}
use Rattle.std.proofs.lemmas.List.Elements.{All-head, All-tail}
use Rattle.bolt_commands.proofs.Vocabulary.{All, AreFoundPages, FoundPage, FoundView, IsFoundLeaf, IsJoined, IsJoinedOf, IsJoinedWith, IsSearchOf}
use Rattle.bolt_commands.proofs.Vocabulary.{LostAndFound, Member, Meta, MetaChoice, all_lost, found_page, found_view, leaves_of}
use Rattle.bolt_format.specs.Pages.{PageView}
use Rattle.bolt_recover.specs.{Found.AreFound, Found.found_numbers, ShownFound.IsFoundView, declared.joined_listing.JoinedListing.JoinedListing}

module _ (file : List ℕ) (meta : Meta) where
  -- ---- what is shown of the found pages

  view_is : (f : FoundPage) → IsFoundView file meta f → found_view f ≡ found_page file meta f.number
  view_is f is = ap (λ (o : Option PageView). record { number = f.number; elements = leaves_of o }) (sym is.page)

  views_are : (found : List FoundPage) → All (IsFoundView file meta) found → map found_view found ≡ map (found_page file meta) (found_numbers found)
  views_are [] all = refl
  views_are (f ∷ found) all =
      ap₂ (λ (v : FoundView) (vs : List FoundView). v ∷ vs) (view_is f (All-head (IsFoundView file meta) f found all))
      (views_are found (All-tail (IsFoundView file meta) f found all))

  pub are_pages : (found : List FoundPage) → AreFound file meta (found_numbers found) → All (IsFoundView file meta) found
      → AreFoundPages file meta (map found_view found)
  are_pages found are all = (found_numbers found, are, views_are found all)

  -- ---- each of them has at least one element

  leaf_view : (f : FoundPage) → IsFoundView file meta f → IsFoundLeaf f
  leaf_view f is = record { some = is.some }

  pub are_leaves : (found : List FoundPage) → All (IsFoundView file meta) found → All IsFoundLeaf found
  are_leaves found all k d within = leaf_view _ (all k d within)

-- ---- the joined listing

-- of a file that was searched
pub joined_with : {file : List ℕ} {choice : MetaChoice} {searched : LostAndFound} {j : JoinedListing} (facts : IsSearchOf file choice searched)
    (joins : IsJoinedOf searched j) (listing : List Member)
    → IsJoined file searched.meta listing → IsJoinedWith file searched.meta listing (all_lost searched) (map found_view searched.found.items)
joined_with {file} {searched = searched} facts joins listing is = record {
  joins = is;
  loses = facts.lost;
  finds = are_pages file searched.meta searched.found.items facts.found facts.views;
  apart = λ more. rw facts.bytes at (joins.apart (λ none. more (ap (map found_view) none)));
  some = λ x lost none. joins.some x lost (none_found searched.found.items none);
}
  where
    none_found : (fs : List FoundPage) → map found_view fs ≡ [] → fs ≡ []
    none_found [] is = refl
    none_found (f ∷ fs) is = absurd (cc)
