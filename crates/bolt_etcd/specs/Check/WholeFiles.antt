-- Files with all their pages: docs/FORMAT.md, "Meta pages".
use Rattle.std.specs.Prelude.{◌≤◌, ◌*◌, ◌++◌, ℕ, List, length}
use Rattle.bolt_format.specs.{Metas.IsPageSize, declared.meta.Meta.Meta}

-- each page below the high-water mark lies in the file
pub record HasAllPages (file : List ℕ) (meta : Meta) : Type 0 where
  pub size : IsPageSize meta.page_size
  pub long : meta.high_water * meta.page_size ≤ length file

-- a property holds of a file with all its pages and the same file with more bytes at the end
abbrev pub ForTrailing : {X : Type 0} → ((file longer : List ℕ) → Meta → X → Type 0) → Type 0
ForTrailing {X} P = (file more : List ℕ) (meta : Meta) (x : X) → HasAllPages file meta → P file (file ++ more) meta x
