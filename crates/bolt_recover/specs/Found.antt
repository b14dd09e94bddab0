-- The pages that are found though nothing leads to them: docs/RECOVERY.md, "Found pages".
use Rattle.std.specs.Prelude.{◌≡◌, ℕ, zero, suc, ◌⊎◌, Bool, true, false, List, [], ◌∷◌, ◌++◌, Contains, map}
use Rattle.bolt_lemmas.specs.Lists.{Has}
use Rattle.bolt_format.specs.declared.meta.Meta.{Meta}
use Rattle.bolt_check.specs.{LoneLeaves.IsListedFree, LoneLeaves.IsLoneLeaf, Nodes.node_at, Ways.At_page, Ways.SpanAt, Ways.root_spot}
use Rattle.bolt_check.specs.{declared.finding.Finding.Finding}
use Rattle.bolt_recover.specs.{KeptPages.IsKeptPage, Surveys.IsSurvey, Surveys.LosesNothing, Surveys.SurveyedWay, Surveys.lost}
use Rattle.bolt_recover.specs.{declared.found_page.FoundPage.FoundPage}

module _ (file : List ℕ) (meta : Meta) where
  -- page n lies in the span of one of these pages
  abbrev pub IsFoundPage : List ℕ → ℕ → Type 0
  IsFoundPage found n = (m : ℕ) × (Contains found m × SpanAt (node_at file meta) (At_page (root_spot m)) n)

  -- Page n is found, if these of smaller numbers were: it is an intact leaf, its span shares no page with a kept way or with one of these, and it
  -- isn't listed as free.
  pub record IsFoundNext (kept : ℕ → Type 0) (found : List ℕ) (n : ℕ) : Type 0 where
    pub leaf : IsLoneLeaf (node_at file meta) (λ k. kept k ⊎ IsFoundPage found k) n
    pub unlisted : IsListedFree file meta n → ⊥

  -- the found pages below a number, by rising number
  abbrev pub FoundBelow : (ℕ → Type 0) → ℕ → List ℕ → Type 0
  FoundBelow kept zero found = found ≡ []
  FoundBelow kept (suc n) found =
      (before : List ℕ) × FoundBelow kept n before
      × ((IsFoundNext kept before n × (found ≡ before ++ n ∷ [])) ⊎ ((IsFoundNext kept before n → ⊥) × (found ≡ before)))

  -- The found pages of a file under a meta. If no way is lost, there are none.
  pub record AreFound (found : List ℕ) : Type 0 where
    pub survey : List SurveyedWay
    pub surveys : IsSurvey file meta survey
    pub none : LosesNothing survey → found ≡ []
    pub some : (way : List ℕ) (x : Finding) → Has survey (lost way x) → FoundBelow (IsKeptPage file meta survey) meta.high_water found

-- The found pages of a file under a meta if they are looked for in any case, even if no way is lost.
pub record AreFoundInAnyCase (file : List ℕ) (meta : Meta) (found : List ℕ) : Type 0 where
  pub survey : List SurveyedWay
  pub surveys : IsSurvey file meta survey
  pub all : FoundBelow file meta (IsKeptPage file meta survey) meta.high_water found

-- The pages that a search finds: in any case, or only if a way is lost.
abbrev pub AreSought : List ℕ → Meta → (in_any_case : Bool) → List ℕ → Type 0
AreSought file meta true found = AreFoundInAnyCase file meta found
AreSought file meta false found = AreFound file meta found

-- page k lies in the span of page n
abbrev pub Spans : List ℕ → Meta → (n k : ℕ) → Type 0
Spans file meta n k = SpanAt (node_at file meta) (At_page (root_spot n)) k

-- a property holds of each file, each meta, the found pages of that file under it, and each of these pages
abbrev pub ForFoundPages : (List ℕ → Meta → List ℕ → ℕ → Type 0) → Type 0
ForFoundPages P = (file : List ℕ) (meta : Meta) (found : List ℕ) (n : ℕ) → AreFound file meta found → Contains found n → P file meta found n

-- the numbers of found pages of the code
abbrev pub found_numbers : List FoundPage → List ℕ
found_numbers found = map (λ (f : FoundPage). f.number) found
