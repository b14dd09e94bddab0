-- The walk over sound trees returns what is recovered of them, and nothing of them is lost.
use Rattle.std.proofs.Common.{◌≡◌, ℕ, List, [], inl, refl, sym, Option, Some, None, arith}
use Rattle.bolt_recover.proofs.Words.{GivesNext, item_view, option_map, Path, All-nil, AreLosses, At_page, bytes_of, Checked, FoundPage, HasSoundTrees}
use Rattle.bolt_recover.proofs.Words.{IsClaimedBefore, IsFoundView, IsMetaPage, IsRecovered, IsSearched, KeepsRoot, LossView, Member, Meta, meta_of}
use Rattle.bolt_recover.proofs.Words.{node_at, passes_fewer, reached, root_spot, shape_passes, Sound, ∥∥₁_elim, ∥∥₁_map, props}
use Rattle.bolt_recover.proofs.{FoundAll.are_none, Existing.has_survey, LostWays.no_losses, SoundListing.sound_listing, KeptWays.none_lost}
use Rattle.bolt_check.proofs.Exports.{checked_trees}
use Rattle.bolt_tree.specs.{FileListings.ForListing, declared.entry.Item.Item as CodeItem}

pub no_loss : (file : List ℕ) (meta : Meta) (losses : List LossView) → HasSoundTrees file meta → AreLosses file meta losses → losses ≡ []
no_loss file meta losses trees h = grind (arith, no_losses, none_lost)

pub keeps_root : (file : List ℕ) (meta : Meta) → HasSoundTrees file meta → KeepsRoot file meta
keeps_root file meta trees =
    let nodes = node_at file meta in
    let root = At_page (root_spot meta.root) in
    passes_fewer nodes (IsClaimedBefore nodes (reached nodes meta.root) IsMetaPage []) IsMetaPage root (λ n is. inl is)
    ((shape_passes nodes meta.root trees).passes [] root refl)

-- a search of sound trees loses nothing and finds nothing
pub sound_searched : (file : List ℕ) (meta : Meta) (checked : Checked) (found : List FoundPage) → bytes_of checked ≡ file → meta_of checked ≡ meta
    → found ≡ [] → HasSoundTrees file meta
    → IsSearched file meta (Sound checked) found
sound_searched file meta checked found same_file same_meta none trees =
    let (survey, is) = has_survey file meta in
    record {
      left = (same_file, same_meta, none);
      lost = (keeps_root file meta trees, λ losses are. sym (no_loss file meta losses trees are));
      are_found = rw none (are_none file meta survey is (none_lost file meta survey trees is));
      views = rw none (All-nil (IsFoundView file meta));
    }

-- what is recovered of sound trees is what they list
pub walked : {P : List Member → Type 0} (checked : Checked) (listing : List Member) → IsRecovered (bytes_of checked) (meta_of checked) listing
    → IsProp (P listing) → ForListing checked P → P listing
walked checked listing is one holds =
    ∥∥₁_elim (∥∥₁_map (checked_trees checked) (λ trees. sound_listing (bytes_of checked) (meta_of checked) listing trees is)) one (holds listing)

pub gives_prop : (old new : List Member) (path : Path) (given : Option CodeItem) → IsProp (GivesNext old new path (option_map item_view given))
gives_prop old new path None = hlevel props
gives_prop old new path (Some item) = hlevel props
