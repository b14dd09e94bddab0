-- What is left of the trees of a file.
use Rattle.std.specs.Prelude.{◌≡◌, ℕ, List, [], length, map}
use Rattle.std.specs.List.{All}
use Rattle.bolt_format.specs.declared.meta.Meta.{Meta}
use Rattle.bolt_check.specs.{CheckedFiles.bytes_of, CheckedFiles.meta_of, Counts.saturated, Sound.HasSoundTrees}
use Rattle.bolt_recover.specs.{Found.AreFound, Found.found_numbers, PageGaps.ForGaps, PageGaps.page_gap_view, Losses.LostView, Losses.everything}
use Rattle.bolt_recover.specs.{Losses.parts, Lost.IsAllLost, Private.Joining.ReportsBucketKey, Recovered.ForRecovered}
use Rattle.bolt_recover.specs.{ShownFound.IsFoundView, ShownLosses.loss_view, declared.found_page.FoundPage.FoundPage, declared.losses.Damage.Damage}
use Rattle.bolt_recover.specs.{declared.lost_and_found.Trees.Trees}
use Rattle.bolt_recover.specs.declared.lost_and_found.Trees.TheVariants.{Damaged, Rootless, Sound}

abbrev pub lost_of : Trees → LostView
lost_of (Sound checked) = parts []
lost_of (Damaged damage) = parts (map loss_view damage.losses.items)
lost_of (Rootless x) = everything x

-- what is known of damaged trees beside what is lost
pub record IsDamage (file : List ℕ) (meta : Meta) (damage : Damage) : Type 0 where
  pub key : ForRecovered file meta (λ listing. ReportsBucketKey listing damage.has_bucket_key)
  pub number : ForRecovered file meta (λ listing. damage.members ≡ saturated (length listing))
  pub gaps : ForGaps file meta (λ gaps. map page_gap_view damage.gaps.items ≡ gaps)
  pub unsound : HasSoundTrees file meta → ⊥

-- what is known of trees beside what is lost; if they are sound, nothing is found
abbrev pub AreTreesOf : List ℕ → Meta → List FoundPage → Trees → Type 0
AreTreesOf file meta found (Sound checked) = (bytes_of checked ≡ file) × (meta_of checked ≡ meta) × (found ≡ [])
AreTreesOf file meta found (Damaged damage) = IsDamage file meta damage
AreTreesOf file meta found (Rootless x) = Unit {0}

-- A search of the file under this meta leads to these trees and found pages.
pub record IsSearched (file : List ℕ) (meta : Meta) (trees : Trees) (found : List FoundPage) : Type 0 where
  pub left : AreTreesOf file meta found trees
  pub lost : IsAllLost file meta (lost_of trees)
  pub are_found : AreFound file meta (found_numbers found)
  pub views : All (IsFoundView file meta) found
