-- The figures of a listing to which one member is added.
use Rattle.std.specs.Prelude.{◌≡◌, ◌≢◌, ◌==◌, ◌+◌, ℕ, Bool, IsTrue, List, [], ◌∷◌, Option, None, Some, if◌then◌else◌}
use Rattle.std.specs.List.{count_by}
use Rattle.bolt_check.specs.Counts.{counted}
use Rattle.bolt_format.specs.declared.meta.Meta.{Meta}
use Rattle.bolt_tree.specs.{Entries.Bucket, Entries.Value, Listing.Member}
use Rattle.bolt_recover.specs.{Recovered.ForRecovered, ShownStates.AreFiguresOf, States.FiguresView, States.counted32, States.is_root_value}
use Rattle.bolt_recover.specs.{declared.state.Figures.Figures}

abbrev pub figures_after : FiguresView → Member → FiguresView
figures_after f (path, Value value) = record f { values = counted f.values 1 }
figures_after f (name ∷ [], Bucket sequence) = record f {
  buckets = counted32 (f.buckets + 1);
  first = if f.buckets == 0 then name else f.first;
  last = name;
  all_buckets = counted32 (f.all_buckets + 1);
}
figures_after f (path, Bucket sequence) = record f { all_buckets = counted32 (f.all_buckets + 1) }

-- What was counted of a file: the figures of what is recovered, which has no value
-- in the root bucket if buckets alone are wanted there; or there are none, since
-- it has one.
abbrev pub IsCount : List ℕ → Meta → (alone : Bool) → Option Figures → Type 0
IsCount file meta alone (Some figures) = ForRecovered file meta (λ listing. AreFiguresOf listing figures × (IsTrue alone → count_by is_root_value listing ≡ 0))
IsCount file meta alone None = IsTrue alone × ForRecovered file meta (λ listing. count_by is_root_value listing ≢ 0)
