-- What the members of the repaired listing show.
use Rattle.std.specs.Prelude.{◌≡◌, ℕ, Bool, List, [], length, ⊤}
use Rattle.bolt_format.specs.declared.meta.Meta.{Meta}
use Rattle.bolt_tree.specs.{Listing.Member, Merging.merged_left, Merging.merged_path, Merging.merged_work, Paths.Path}
use Rattle.bolt_recover.specs.Recovered.{ForRecovered}
use Rattle.bolt_repair.specs.ReadableLeft.{readable_left, readable_path, readable_work}
use Rattle.bolt_repair.specs.{FullRepairs.IsFullRepair, PutBackMembers.put_back_left, PutBackMembers.put_back_path, RepairedMerges.all_listings}
use Rattle.bolt_repair.specs.{Readable.unread, Repaired.HasStore, RepairedMerges.repair_back, RepairedMerges.repair_made}
use Rattle.bolt_repair.specs.{RepairedMerges.repair_unread, declared.put_back.PutBack.PutBack}
use Rattle.bolt_repair.specs.{declared.repair.Repair.Repair, declared.repaired_listing.RepairedListing.RepairedListing}

-- the file that is repaired, and the meta that it is read under
abbrev pub repair_file : Repair → List ℕ
repair_file repair = repair.searched.now.file.now

abbrev pub repair_meta : Repair → Meta
repair_meta repair = repair.searched.now.meta

-- Whether pages are looked for though nothing is lost.
abbrev pub repair_search : Repair → Bool
repair_search repair = repair.search

-- The repair of a file under a meta: all that goes back, how many keys of candidates don't, and what can't be read. If nothing goes back, the
-- bucket is there.
pub record IsRepairOf (file : List ℕ) (meta : Meta) (search : Bool) (repair : Repair) : Type 0 where
  pub same_file : repair_file repair ≡ file
  pub same_meta : repair_meta repair ≡ meta
  pub same_search : repair_search repair ≡ search
  pub full : ∥ IsFullRepair file meta search (repair_back repair) (repair_made repair) repair.left_out ∥₁
  pub store : repair_back repair ≡ [] → ForRecovered file meta HasStore
  pub leaves : ForRecovered file meta (λ recovered. repair_unread repair ≡ unread recovered)

unfoldable pub repaired_file : RepairedListing → List ℕ
repaired_file repaired = repair_file repaired.repair.now

unfoldable pub repaired_meta : RepairedListing → Meta
repaired_meta repaired = repair_meta repaired.repair.now

unfoldable pub repaired_search : RepairedListing → Bool
repaired_search repaired = repaired.repair.now.search

-- what is put back of a listing
abbrev put_left : PutBack → List Member → List Member
put_left it listing = put_back_left it

abbrev put_work : PutBack → ℕ
put_work it = length (put_back_left it)

-- The part of the repaired listing that is left. (There is one listing, so it is the same of each.)
unfoldable pub repaired_left : RepairedListing → List Member → List Member
repaired_left repaired listing =
    merged_left (merged_path readable_path put_back_path) (merged_left readable_path readable_left put_back_path put_left) put_back_path put_left
    repaired.members
    (all_listings repaired.repair.now)

-- how much it has to do at most, until it has returned everything
unfoldable pub repaired_work : RepairedListing → ℕ
repaired_work repaired = merged_work (merged_work readable_work put_work) put_work repaired.members

-- the path of the last member that it returned
unfoldable pub repaired_path : RepairedListing → Path
repaired_path repaired = merged_path (merged_path readable_path put_back_path) put_back_path repaired.members

-- all that repaired members show, to be unfolded together
unfoldable pub repaired_viewers : ⊤
unfolding repaired_file repaired_left repaired_meta repaired_path repaired_search repaired_work
repaired_viewers = tt
