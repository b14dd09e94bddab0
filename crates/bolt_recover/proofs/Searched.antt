-- What is known of a file that was searched.
use Rattle.std.proofs.Common.{◌≡◌, ◌≢◌, ◌∙◌, ◌<◌, ◌*◌, ◌^◌, true, false, List, [], ◌∷◌, ap, length, map, subst, sym, arith}
use Rattle.bolt_recover.proofs.Words.{all_lost, AreJoinable, AreTreesOf, bytes_of, Checked, Contains, contains_cases, contains_head, contains_none}
use Rattle.bolt_recover.proofs.Words.{contains_tail, Damaged, everything, Finding, ForRecovered, FoundPage, ForGaps, HasBucketKey, holds_key, IsSearched}
use Rattle.bolt_recover.proofs.Words.{LacksBucketKey, LosesRoot, LossView, lost_of, Member, meta_of, or_cases, or_parts, page_gap_view, parts, props}
use Rattle.bolt_recover.proofs.Words.{Rootless, Sound, ∥∥₁_elim, ∥∥₁_map}
use Rattle.bolt_recover.proofs.{Existing.has_survey, FoundAll.loses_root, FoundAll.nothing_kept, FoundAll.nothing_recovered, KeptWays.none_lost}
use Rattle.bolt_recover.specs.{Lost.IsAllLost, declared.losses.Damage.Damage, declared.lost_and_found.LostAndFound.LostAndFound}
use Rattle.bolt_recover.specs.{declared.lost_and_found.Trees.Trees}
use Rattle.bolt_check.specs.{Counts.saturated, Sound.HasSoundTrees}
use Rattle.bolt_check.proofs.Exports.{checked_trees}

-- what is reported of the key
key_held : (listing : List Member) → holds_key listing ≡ true → HasBucketKey listing
key_held [] e = absurd (cc)
key_held (m ∷ listing) e = let later = key_held listing in grind (arith, or_cases, contains_head, contains_tail, later)

key_lacks : (listing : List Member) → holds_key listing ≡ false → LacksBucketKey listing
key_lacks [] e m has = absurd (contains_none m has)
key_lacks (m ∷ listing) e o has = let later = key_lacks listing in grind (arith, contains_none, or_parts, contains_cases, later)

parts_some : (losses : List LossView) (x : Finding) → parts losses ≡ everything x → ⊥
parts_some losses x is = cc

module _ (searched : LostAndFound) where
  left : (trees : Trees) → searched.trees ≡ trees → IsSearched searched.file.now searched.meta searched.trees searched.found.items
      → AreTreesOf searched.file.now searched.meta searched.found.items trees
  left trees is facts = subst (AreTreesOf searched.file.now searched.meta searched.found.items) is facts.left

  pub of_sound : (checked : Checked) → searched.trees ≡ Sound checked
      → (bytes_of checked ≡ searched.file.now) × (meta_of checked ≡ searched.meta) × (searched.found.items ≡ [])
  of_sound checked is = ∥∥₁_elim searched.searched (hlevel props) (left (Sound checked) is)

  pub trees_sound : (checked : Checked) → searched.trees ≡ Sound checked → ∥ HasSoundTrees searched.file.now searched.meta ∥₁
  trees_sound checked is = grind (arith, of_sound checked is, checked_trees checked)

  -- trees whose root page is kept
  pub not_everything : (losses : List LossView) → lost_of searched.trees ≡ parts losses → (x : Finding) → all_lost searched ≡ everything x → ⊥
  unfolding all_lost
  not_everything losses is x all = grind (arith, parts_some)

  -- what is found can be joined, if there are few enough pages and room for the bucket
  pub joinable : (found : List FoundPage) → found ≡ searched.found.items → length searched.file.now < 10 ^ 16 * searched.meta.page_size
      → (searched.found.items ≢ [] → ForRecovered searched.file.now searched.meta LacksBucketKey)
      → ∥ AreJoinable searched.file.now searched.meta found ∥₁
  joinable found same few apart = ∥∥₁_map searched.searched (λ facts. subst (AreJoinable searched.file.now searched.meta) (sym same) (record {
    few = few;
    are_found = facts.are_found;
    views = facts.views;
    apart = apart;
  }))

  module _ (damage : Damage) (is : searched.trees ≡ Damaged damage) where
    pub has_key : damage.has_bucket_key ≡ true → ForRecovered searched.file.now searched.meta HasBucketKey
    has_key same listing recovers =
        key_held listing (∥∥₁_elim searched.searched (hlevel props) (λ facts. sym ((left (Damaged damage) is facts).key listing recovers) ∙ same))

    pub lacks_key : damage.has_bucket_key ≡ false → ForRecovered searched.file.now searched.meta LacksBucketKey
    lacks_key other listing recovers =
        key_lacks listing (∥∥₁_elim searched.searched (hlevel props) (λ facts. sym ((left (Damaged damage) is facts).key listing recovers) ∙ other))

    pub number : ForRecovered searched.file.now searched.meta (λ listing. damage.members ≡ saturated (length listing))
    number listing recovers = ∥∥₁_elim searched.searched (hlevel props) (λ facts. (left (Damaged damage) is facts).number listing recovers)

    pub gaps_known : ForGaps searched.file.now searched.meta (λ gaps. map page_gap_view damage.gaps.items ≡ gaps)
    gaps_known gaps are = ∥∥₁_elim searched.searched (hlevel props) (λ facts. (left (Damaged damage) is facts).gaps gaps are)

    pub damaged : HasSoundTrees searched.file.now searched.meta → ⊥
    damaged sound = ∥∥₁_elim searched.searched (hlevel props) (λ facts. (left (Damaged damage) is facts).unsound sound)

  module _ (x : Finding) (is : searched.trees ≡ Rootless x) where
    pub root_lost : ∥ LosesRoot searched.file.now searched.meta x ∥₁
    root_lost = ∥∥₁_map searched.searched (λ facts. subst (IsAllLost searched.file.now searched.meta) (ap lost_of is) facts.lost)

    pub none_recovered : ForRecovered searched.file.now searched.meta (λ listing. listing ≡ [])
    none_recovered listing recovers = ∥∥₁_elim root_lost (hlevel props) (λ lost. nothing_recovered searched.file.now searched.meta x lost listing recovers)

    pub rootless : HasSoundTrees searched.file.now searched.meta → ⊥
    rootless sound =
        let (survey, is_survey) = has_survey searched.file.now searched.meta in
        ∥∥₁_elim root_lost (hlevel props)
        (λ lost. loses_root searched.file.now searched.meta x lost survey is_survey (none_lost searched.file.now searched.meta survey sound is_survey))

    pub no_gap : ForGaps searched.file.now searched.meta (λ gaps. [] ≡ gaps)
    no_gap gaps are = ∥∥₁_elim root_lost (hlevel props) (λ lost. sym (nothing_kept searched.file.now searched.meta x lost gaps are))

    pub lacks_all : ForRecovered searched.file.now searched.meta LacksBucketKey
    lacks_all listing recovers m has = absurd (contains_none m (subst (λ (ms : List Member). Contains ms m) (none_recovered listing recovers) has))
