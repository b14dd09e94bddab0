-- The runs that the code keeps of a bucket are its open runs, if its pages begin at number `b`.
use Rattle.std.specs.Prelude.{◌≡◌, ℕ, ◌+◌, List, [], ◌∷◌}
use Rattle.std.specs.List.{AllByRecursion}
use Rattle.bolt_format.specs.Elements.{BranchElement, LeafElement}
use Rattle.bolt_layout.specs.{Cut.run_size, Laid.Laid, Laid.elements_of, Laid.size_of}
use Rattle.bolt_check.specs.Counts.{saturated}
use Rattle.bolt_bulk.specs.Private.OpenRuns.{Open, Upper, key_size, next_number, numbers_in}
use Rattle.bolt_bulk.specs.Private.RunViews.{RunView, BucketRunsView}

abbrev pub IsKeyed : Laid BranchElement → Type 0
IsKeyed page = (page.size ≡ key_size page.key) × ((n : ℕ) → (page.element n).key ≡ page.key)

-- a run of pages is the view of an upper run whose pages begin at number `n`
pub record IsUpper (run : RunView) (upper : Upper) (n : ℕ) : Type 0 where
  pub same : run.elements ≡ elements_of upper.run n
  pub size_is : run.size ≡ run_size size_of upper.run
  pub keyed : AllByRecursion IsKeyed upper.run
  pub allowed_is : run.allowed ≡ upper.allowed
  pub closed_is : run.closed ≡ saturated upper.closed

abbrev pub AreUppers : List RunView → List Upper → ℕ → Type 0
AreUppers [] [] b = Unit {0}
AreUppers [] (upper ∷ uppers) b = ⊥
AreUppers (run ∷ runs) [] b = ⊥
AreUppers (run ∷ runs) (upper ∷ uppers) b = IsUpper run upper (b + numbers_in uppers) × AreUppers runs uppers b

abbrev pub IsKeyedItem : Laid LeafElement → Type 0
IsKeyedItem item = (n : ℕ) → (item.element n).key ≡ item.key

pub record AreOpenRuns (runs : BucketRunsView) (state : Open) (b : ℕ) : Type 0 where
  pub same : runs.leaves.elements ≡ elements_of state.run (b + numbers_in state.uppers)
  pub size_is : runs.leaves.size ≡ run_size size_of state.run
  pub keyed : AllByRecursion IsKeyedItem state.run
  pub above : AreUppers runs.uppers state.uppers b
  pub next_is : runs.next ≡ next_number state b
  pub limits_are : runs.limits ≡ state.known.limits
