-- What two merged listings show: what is left of both, and the last path.
use Rattle.std.specs.Prelude.{ℕ, ◌+◌, List, []}
use Rattle.bolt_tree.specs.{Aheads.ahead_ends, Aheads.ahead_left, Aheads.ahead_work, Listing.Member, Merges.merge, Paths.Path}
use Rattle.bolt_tree.specs.{declared.merged.Last.Last, declared.merged.Merged.Merged}
use Rattle.bolt_tree.specs.declared.merged.Last.TheVariants.{First, Nothing, Second}

-- the last path of two merged listings, if these are the last paths of the two
abbrev pub path_after : Last → Path → Path → Path
path_after Nothing first second = []
path_after First first second = first
path_after Second first second = second

abbrev pub merged_path : {A B : Type 0} → (A → Path) → (B → Path) → Merged A B → Path
merged_path {A} {B} first second merged = path_after merged.last (first merged.first.members) (second merged.second.members)

abbrev pub merged_reads : {A B V W : Type 0} → (A → V → Type 0) → (B → W → Type 0) → Merged A B → V × W → Type 0
merged_reads {A} {B} {V} {W} first second merged whole = first merged.first.members whole.0 × second merged.second.members whole.1

abbrev pub merged_left : {A B V W : Type 0} → (A → Path) → (A → V → List Member) → (B → Path) → (B → W → List Member) → Merged A B → V × W → List Member
merged_left {A} {B} {V} {W} first_path first second_path second merged whole =
    merge (ahead_left first_path first merged.first whole.0) (ahead_left second_path second merged.second whole.1)

abbrev pub merged_work : {A B : Type 0} → (A → ℕ) → (B → ℕ) → Merged A B → ℕ
merged_work {A} {B} first second merged = ahead_work first merged.first + ahead_work second merged.second

abbrev pub merged_ends : {A B : Type 0} → (A → A → Type 0) → (B → B → Type 0) → Merged A B → Merged A B → Type 0
merged_ends {A} {B} first second merged end = ahead_ends first merged.first end.first × ahead_ends second merged.second end.second
