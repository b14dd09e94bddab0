-- The format can hold what is recovered of a damaged file, and what is found of it.
use Rattle.std.proofs.Common.{inl, inr, ◌≡◌, ℕ, List, [], ◌∷◌, ◌++◌, length, arith, subst, sym}
use Rattle.std.proofs.lemmas.List.{same_from_push}
use Rattle.std.specs.List.{Contains}
use Rattle.bolt_format.specs.{Bytes.IsBytes, ElementLengths.IsKeyLength, declared.meta.Meta.Meta}
use Rattle.bolt_check.specs.Keys.{Key}
use Rattle.bolt_tree.specs.{Entries.Bucket, Entries.Item, Listing.Member, Paths.Path}
use Rattle.bolt_layout.specs.{Copies.IsOfOneTree, Storable.IsFitListing, Storable.IsFitMember}
use Rattle.bolt_bulk.specs.WholeListings.{IsWholeListing}
use Rattle.bolt_layout.proofs.Exports.{good_fits, good_inner, good_shown, held_fits}
use Rattle.bolt_recover.specs.{Joined.IsFoundMember, Joined.IsJoined, Joined.lost_and_found, PageKeys.page_key, Recovered.IsRecovered}
use Rattle.bolt_recover.proofs.Exports.{path_holds, shows_entry, joined_contents, digits_long}

-- Members of a listing that fits are whole, if all are left.
pub whole_if_fit : {M : Type 0} {lists : M → List Member → Type 0} {left : M → List Member → List Member} {members : M}
    → (listing : List Member) × lists members listing
    → ((listing : List Member) → lists members listing → left members listing ≡ listing)
    → ((listing : List Member) → IsFitListing listing → IsOfOneTree listing)
    → ((listing : List Member) → lists members listing → IsFitListing listing) → IsWholeListing lists (λ listing. listing) left members
whole_if_fit some all law fit = record { some = ∣ some ∣₁; all = all; one = λ listing is. ∣ law listing (fit listing is) ∣₁ }

abbrev Fits : Member → Type 0
Fits m = IsFitMember m.0 m.1

-- a bucket that is made for what is found
pub bucket_fits : (front : Path) (key : Key) → IsKeyLength (length key) → Fits (front ++ key ∷ [], Bucket 0)
bucket_fits front key fit = (λ own last same. subst (λ (j : Key). IsKeyLength (length j)) (same_from_push front own key last same).1 fit, omega arith)

named_fits : (n : ℕ) → IsKeyLength (length (page_key n))
named_fits n = let long = digits_long 16 n in (omega (arith, long), omega (arith, long))

module _ (file : List ℕ) (meta : Meta) (bytes : IsBytes file) where
  pub recovered_fits : (listing : List Member) → IsRecovered file meta listing → (path : Path) (item : Item) → Contains listing (path, item)
      → IsFitMember path item
  recovered_fits listing is path item has =
      held_fits file meta bytes meta.root path item (path_holds file meta is.survey path item ((is.exact path item).0 has))

  found_fits : (found : List ℕ) (m : Member) → IsFoundMember file meta found m → Fits m
  found_fits found m (n, (has, inl same)) = subst Fits (sym same) (bucket_fits (lost_and_found ∷ []) (page_key n) (named_fits n))
  found_fits found m (n, (has, inr (inl (e, (on, same))))) =
      subst Fits (sym same) (good_fits (lost_and_found ∷ page_key n ∷ []) e (good_shown file meta bytes n e (shows_entry file meta n e on)))
  found_fits found m (n, (has, inr (inr (e, (on, bucket, root, (inner, (within, same))))))) =
      let good = good_shown file meta bytes n e (shows_entry file meta n e on) in
      subst Fits (sym same) (good_fits (lost_and_found ∷ page_key n ∷ e.key ∷ []) inner (good_inner e.value inner (good.value bucket) root within))

  pub joined_fits : (listing : List Member) → IsJoined file meta listing → (path : Path) (item : Item) → Contains listing (path, item)
      → IsFitMember path item
  joined_fits listing is path item has = elim (joined_contents file meta listing is.recovered is.found (path, item) is is.recovers is.are_found has) [
    | inl old ↦ recovered_fits is.recovered is.recovers path item old
    | inr (inl same) ↦ subst Fits (sym same) (bucket_fits [] lost_and_found (omega arith, omega arith))
    | inr (inr own) ↦ found_fits is.found (path, item) own
  ]
