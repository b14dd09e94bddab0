-- States of the code as they are shown.
use Rattle.std.specs.Prelude.{◌≡◌, ℕ, Bool, false, List, [], ◌∷◌, Option, None, Some, if◌then◌else◌}
use Rattle.bolt_format.specs.{Metas.IsInSlot, declared.meta.Meta.Meta, declared.meta.Slot.Slot, declared.meta.Slot.TheVariants.One}
use Rattle.bolt_format.specs.{declared.meta.Slot.TheVariants.Zero}
use Rattle.bolt_tree.specs.Listing.{Member}
use Rattle.bolt_recover.specs.{States.FiguresView, States.PlaceView, States.StateView, States.figures_of, States.is_place}
use Rattle.bolt_recover.specs.{declared.state.Figures.Figures, declared.state.State.State, declared.valid_metas.ValidMetas.ValidMetas}
use Rattle.bolt_recover.specs.declared.state.Place as code

abbrev pub figures_view : Figures → FiguresView
figures_view f = record { buckets = f.buckets; first = f.first.now; last = f.last.now; all_buckets = f.all_buckets; values = f.values }

-- the figures of the code are those of a listing
abbrev pub AreFiguresOf : List Member → Figures → Type 0
AreFiguresOf listing f = figures_view f ≡ figures_of listing

abbrev pub place_view : code.Place → PlaceView
place_view place = record { page_size = place.page_size; root = place.root }

abbrev pub state_view : State → StateView
state_view state = record { place = place_view state.place; losses = state.losses; figures = figures_view state.figures }

-- the metas of a file that are valid; a slot has one at most
abbrev pub IsValidMeta : List ℕ → Slot → Option Meta → Type 0
IsValidMeta file slot (Some meta) = IsInSlot file slot meta × ((other : Meta) → IsInSlot file slot other → other ≡ meta)
IsValidMeta file slot None = (meta : Meta) → IsInSlot file slot meta → ⊥

abbrev pub AreValidMetas : List ℕ → ValidMetas → Type 0
AreValidMetas file metas = IsValidMeta file Zero metas.zero × IsValidMeta file One metas.one

-- a meta, if there is one, leads to this place
abbrev pub leads_to : Option Meta → PlaceView → Bool
leads_to (Some meta) place = is_place (record { page_size = meta.page_size; root = meta.root }) place
leads_to None place = false

-- the meta of slot one, unless both metas lead to the same place
abbrev pub other_meta : (zero one : Option Meta) → Option Meta
other_meta zero None = None
other_meta zero (Some meta) = if leads_to zero (record { page_size = meta.page_size; root = meta.root }) then None else Some meta

abbrev pub place_list : Option Meta → List PlaceView
place_list None = []
place_list (Some meta) = record { page_size = meta.page_size; root = meta.root } ∷ []
