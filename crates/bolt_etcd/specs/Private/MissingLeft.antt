-- What a pass over missing numbers has ahead of it.
use Rattle.std.specs.Prelude.{◌≡◌, ◌+◌, ◌*◌, ℕ, List, [], ◌∷◌, ◌++◌, length, Option, Some, None}
use Rattle.std.specs.Option.{option_to_list}
use Rattle.bolt_check.specs.declared.checked.Checked.{Checked}
use Rattle.bolt_format.specs.Elements.{LeafElement}
use Rattle.bolt_tree.specs.Entries.{Start}
use Rattle.bolt_etcd.specs.{Check.MissingNumbers.keys_above, Check.MissingNumbers.missing_after, Wire.Numbered.numbered}
use Rattle.bolt_etcd.specs.Store.RevisionsLeft.{ForPass, ahead_of, number_ahead, pass_checked, pass_start}
use Rattle.bolt_etcd.specs.declared.{check.missing.Missing.Missing, check.missing.MissingNumbers.MissingNumbers}

abbrev pub missing_checked : MissingNumbers → Checked
missing_checked m = pass_checked m.pass

abbrev pub missing_start : MissingNumbers → Start
missing_start m = pass_start m.pass

-- a property holds of the entries of the bucket that a pass over missing numbers reads
abbrev pub ForMissing : MissingNumbers → (List LeafElement → Type 0) → Type 0
ForMissing m P = ForPass m.pass P

-- the missing numbers that a pass still has to return, if its bucket has these entries
unfoldable pub missing_left : MissingNumbers → List LeafElement → List Missing
missing_left m entries = option_to_list m.pending ++ missing_after m.main m.sub (keys_above m.above (numbered (ahead_of m.pass entries)))

-- a measure of what a pass over missing numbers still has to do, so that loops over it end
unfoldable pub missing_number : MissingNumbers → ℕ
missing_number m = 2 * number_ahead m.pass + length (option_to_list m.pending)

-- the first missing number is returned, and the others are left; or none is left
abbrev pub GivesMissing : (old new : List Missing) → Option Missing → Type 0
GivesMissing old new (Some m) = old ≡ m ∷ new
GivesMissing old new None = (old ≡ []) × (new ≡ [])
