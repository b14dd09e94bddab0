-- Each file has found pages: whether a page is found can be told.
use Rattle.std.proofs.Common.{◌≡◌, ◌∙◌, ◌≢◌, ◌⊎◌, Bool, true, inl, inr, ℕ, zero, suc, List, [], ◌∷◌, ◌++◌, Option, Some, None, Ok, refl, sym, subst}
use Rattle.std.proofs.Common.{arith}
use Rattle.bolt_lemmas.proofs.Exports.{decided_by}
use Rattle.bolt_recover.proofs.Words.{AreFound, At_page, cases_lt, Entry, Finding, FoundBelow, Gives, IsFoundNext}
use Rattle.bolt_recover.proofs.Words.{IsFoundPage, IsKeptPage, IsListedFree, IsLoneLeaf, IsSurvey, Meta, Node, node_at, Nodes, passes_silent}
use Rattle.bolt_recover.proofs.Words.{root_spot, SurveyedWay, test}
use Rattle.bolt_recover.proofs.{Existing.has_survey, FoundAll.are_none, FoundAll.are_some, FoundAll.either_is, FoundAll.in_either}
use Rattle.bolt_recover.proofs.{FoundAll.lost_or_none, Tested.test_finds}
use Rattle.bolt_check.proofs.Exports.{lone_same}
use Rattle.bolt_format.specs.Freelists.{free_ids_of, freelist_fault_of}
use Rattle.bolt_check.specs.Accounts.{times_in}
use Rattle.std.proofs.Math.Decide.{map_dec}
use mathlib.Core.Logic.Dec as decide

empty_or_not : (entries : List Entry) → Dec (entries ≢ [])
empty_or_not [] = no (λ some. some refl)
empty_or_not (e ∷ entries) = yes (λ none. (let f : e ∷ entries ≡ [] = none in cc))

-- the tests tell whether a page is an intact leaf
lone_decided : (nodes : Nodes) (before : ℕ → Bool) (n : ℕ) → Dec (IsLoneLeaf nodes (λ k. before k ≡ true) n)
lone_decided nodes before n = by (test nodes before (At_page (root_spot n))) (test_finds nodes before (At_page (root_spot n)))
  where
    by : (o : Option Finding) → Gives nodes (λ k. before k ≡ true) (At_page (root_spot n)) o → Dec (IsLoneLeaf nodes (λ k. before k ≡ true) n)
    by (Some x) finds = no (λ lone. passes_silent nodes (λ k. before k ≡ true) (At_page (root_spot n)) x lone.passes finds)
    by None passes = map_dec (λ (leaf, some). record { passes = passes; leaf = leaf; some = some })
        (λ lone.
        let both : Ok lone.passes.node ≡ Ok passes.node = sym lone.passes.page ∙ passes.page in
        let same : lone.passes.node ≡ passes.node = cc in
        subst (λ (x : Node). (x.is_leaf ≡ true) × (x.entries ≢ [])) same (lone.leaf, lone.some))
        (decide.and (decided_by passes.node.is_leaf (λ h. h, λ h. h)) (empty_or_not passes.node.entries))

module _ (file : List ℕ) (meta : Meta) where
  ids_decided : (n : ℕ) (fault : Option ℕ) (ids : Option (List ℕ)) → freelist_fault_of file meta ≡ fault → free_ids_of file meta ≡ ids
      → Dec (IsListedFree file meta n)
  ids_decided n (Some x) ids good is = no (λ listed. grind arith)
  ids_decided n None None good is = no (λ listed. grind arith)
  ids_decided n None (Some ids) good is = elim (cases_lt 0 (times_in ids n)) [
    | inl more ↦ yes (record { ids = ids; good = good; listed = is; times = omega (arith, more) })
    | inr none ↦ no (λ listed. grind arith)
  ]

  next_decided : (survey : List SurveyedWay) → IsSurvey file meta survey → (found : List ℕ) (n : ℕ)
      → Dec (IsFoundNext file meta (IsKeptPage file meta survey) found n)
  next_decided survey is found n =
      let nodes = node_at file meta in
      let was : ℕ → Type 0 = λ k. in_either file meta found k ≡ true in
      let either : ℕ → Type 0 = λ k. IsKeptPage file meta survey k ⊎ IsFoundPage file meta found k in
      let same = either_is file meta found survey is in
      map_dec (λ (leaf, unlisted). record { leaf = lone_same nodes was either n (λ k h. (same k).1 h) leaf; unlisted = unlisted })
      (λ next. (lone_same nodes either was n (λ k h. (same k).0 h) next.leaf, next.unlisted))
      (decide.and (lone_decided nodes (in_either file meta found) n)
      (decide.not (ids_decided n (freelist_fault_of file meta) (free_ids_of file meta) refl refl)))

  pub below_exists : (survey : List SurveyedWay) → IsSurvey file meta survey → (high_water : ℕ)
      → (found : List ℕ) × FoundBelow file meta (IsKeptPage file meta survey) high_water found
  below_exists survey is zero = ([], refl)
  below_exists survey is (suc n) =
      let (found, below) = below_exists survey is n in
      elim (next_decided survey is found n) [
        | yes next ↦ (found ++ n ∷ [], (found, below, inl (next, refl)))
        | no none ↦ (found, (found, below, inr (none, refl)))
      ]

  pub has_found : (found : List ℕ) × AreFound file meta found
  has_found =
      let (survey, is) = has_survey file meta in
      elim (lost_or_none survey) [
        | inl none ↦ ([], are_none file meta survey is none)
        | inr (way, x, gone) ↦ let (found, below) = below_exists survey is meta.high_water in (found, are_some file meta found survey way x is gone below)
      ]
