-- What makes a joined listing out of what is recovered and what is found.
use Rattle.std.specs.Prelude.{◌≡◌, ◌≢◌, ◌<◌, ◌*◌, ◌^◌, ℕ, Bool, false, ◌||◌, List, [], ◌∷◌, length}
use Rattle.std.specs.{List.All, declared.cmp.Ordering.Ordering, declared.cmp.Ordering.TheVariants.Less}
use Rattle.bolt_check.specs.Keys.{key_cmp}
use Rattle.bolt_format.specs.declared.meta.Meta.{Meta}
use Rattle.bolt_tree.specs.{Listing.Member, Paths.Path}
use Rattle.bolt_recover.specs.{Found.AreFound, Found.found_numbers, Joined.LacksBucketKey, Joined.is_found_path, Joined.lost_and_found}
use Rattle.bolt_recover.specs.{Recovered.ForRecovered, ShownFound.IsFoundView}
use Rattle.bolt_recover.specs.declared.found_page.FoundPage.{FoundPage}

-- how the first part of a path compares with the key of the bucket of what is found
abbrev pub first_cmp : Path → Ordering
first_cmp [] = Less
first_cmp (key ∷ path) = key_cmp key lost_and_found

-- whether a member has that key
abbrev pub holds_key : List Member → Bool
holds_key [] = false
holds_key (m ∷ listing) = is_found_path m.0 || holds_key listing

abbrev pub ReportsBucketKey : List Member → Bool → Type 0
ReportsBucketKey listing has = has ≡ holds_key listing

-- The found pages are those of the file, whose page numbers have sixteen digits at most. If there is one, the recovered listing leaves room for
-- their bucket.
pub record AreJoinable (file : List ℕ) (meta : Meta) (found : List FoundPage) : Type 0 where
  pub few : length file < 10 ^ 16 * meta.page_size
  pub are_found : AreFound file meta (found_numbers found)
  pub views : All (IsFoundView file meta) found
  pub apart : found ≢ [] → ForRecovered file meta LacksBucketKey
