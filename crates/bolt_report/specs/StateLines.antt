-- The lines of the states of a file: docs/COMMANDS.md, "states".
use Rattle.std.specs.Prelude.{◌==◌, ℕ, List, [], ◌++◌, Option, None, Some, codes, decimal, flat_map, if◌then◌else◌}
use Rattle.bolt_check.specs.Keys.{Key}
use Rattle.bolt_format.specs.{declared.meta.Meta.Meta, declared.meta.Slot.Slot, declared.meta.Slot.TheVariants.One}
use Rattle.bolt_format.specs.{declared.meta.Slot.TheVariants.Zero}
use Rattle.bolt_recover.specs.{ShownStates.leads_to, States.FiguresView, States.PlaceView, States.StateView}
use Rattle.bolt_recover.specs.{declared.valid_metas.ValidMetas.ValidMetas}
use Rattle.bolt_report.specs.MetaLines.{slot_number}
use Rattle.bolt_text.specs.NamedPaths.{named_key}

-- the page size and the root page, as `--assume-meta` reads them
abbrev pub place_words : PlaceView → List ℕ
place_words place = decimal place.page_size ++ (codes ":" ++ (decimal place.root ++ codes " "))

-- the number of losses, and that of the buckets in the root bucket
abbrev pub counts_words : (losses buckets : ℕ) → List ℕ
counts_words losses buckets = decimal losses ++ (codes " pages lost, " ++ (decimal buckets ++ codes " buckets"))

-- the first and the last of the buckets' names, if there is one
abbrev pub names_words : (buckets : ℕ) → (first last : Key) → List ℕ
names_words buckets first last = if buckets == 0 then [] else codes " from " ++ (named_key first ++ (codes " to " ++ named_key last))

abbrev pub keys_words : ℕ → List ℕ
keys_words values = codes ", " ++ (decimal values ++ codes " keys")

abbrev pub figures_words : (losses : ℕ) → FiguresView → List ℕ
figures_words losses f = counts_words losses f.buckets ++ (names_words f.buckets f.first f.last ++ keys_words f.values)

-- the meta of a slot, if it is valid and leads to a place
abbrev pub meta_words : Slot → Option Meta → PlaceView → List ℕ
meta_words slot None place = []
meta_words slot (Some meta) place =
    if leads_to (Some meta) place then codes "; meta " ++ (decimal (slot_number slot) ++ (codes ", txid " ++ decimal meta.txid)) else []

abbrev pub metas_line : ValidMetas → PlaceView → List ℕ
metas_line metas place = meta_words Zero metas.zero place ++ (meta_words One metas.one place ++ codes "\n")

-- the line of a state whose root page is kept, and of one whose root page is lost
unfoldable pub kept_line : ValidMetas → StateView → List ℕ
kept_line metas s = place_words s.place ++ (figures_words s.losses s.figures ++ metas_line metas s.place)

unfoldable pub lost_line : ValidMetas → PlaceView → List ℕ
lost_line metas place = place_words place ++ (codes "everything lost" ++ metas_line metas place)

-- the line of each state
abbrev pub states_text : ValidMetas → (kept : List StateView) → (lost : List PlaceView) → List ℕ
states_text metas kept lost = flat_map (kept_line metas) kept ++ flat_map (lost_line metas) lost
