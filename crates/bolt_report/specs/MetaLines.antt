-- The seven figures of a meta, and the line of a slot without one: docs/COMMANDS.md, "info".
use Rattle.std.specs.Prelude.{◌==◌, ℕ, List, [], ◌∷◌, ◌++◌, Option, Some, None, codes, decimal, if◌then◌else◌}
use Rattle.bolt_format.specs.{declared.meta.Meta.Meta, declared.meta.MetaFault.MetaFault, declared.meta.Slot.Slot}
use Rattle.bolt_format.specs.{declared.meta.Slot.TheVariants.Zero, declared.meta.Slot.TheVariants.One, declared.meta.TheConstants.NO_FREELIST}
use Rattle.bolt_report.specs.{FaultWords.meta_fault_words, FigureForms.Named, FigureForms.figures_text}
use Rattle.bolt_text.specs.Lines.{line}
use Rattle.bolt_text.specs.declared.forms.FigureForm.{FigureForm}

abbrev pub slot_number : Slot → ℕ
slot_number Zero = 0
slot_number One = 1

-- the number of the freelist's page, if there is one
abbrev pub freelist_of : ℕ → Option ℕ
freelist_of id = if id == NO_FREELIST then None else Some id

-- what is said of the meta in a slot
abbrev pub meta_sentence : Slot → List ℕ → List ℕ
meta_sentence slot words = codes "meta " ++ decimal (slot_number slot) ++ codes ": " ++ words

-- the line of a slot without a valid meta
abbrev pub slot_fault_text : Slot → MetaFault → List ℕ
slot_fault_text slot fault = line (meta_sentence slot (meta_fault_words fault))

abbrev pub info_figures : Slot → Meta → List Named
info_figures slot meta =
    (codes "page size", Some meta.page_size)
    ∷ (codes "meta", Some (slot_number slot))
    ∷ (codes "txid", Some meta.txid)
    ∷ (codes "root", Some meta.root)
    ∷ (codes "sequence", Some meta.root_sequence)
    ∷ (codes "freelist", freelist_of meta.freelist)
    ∷ (codes "high water", Some meta.high_water) ∷ []

unfoldable pub info_text : FigureForm → Slot → Meta → List ℕ
info_text form slot meta = figures_text form (info_figures slot meta)
