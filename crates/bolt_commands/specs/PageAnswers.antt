-- What `info`, `page` and `pages` answer: docs/COMMANDS.md, "info", "page" and "pages".
use Rattle.std.specs.Prelude.{◌≡◌, ◌⊎◌, ℕ, List, Bool, true, false, Option, Some, None}
use Rattle.bolt_check.specs.{Roles.AreRoles, declared.role_table.Role.Role}
use Rattle.bolt_format.specs.{Metas.HasNoActive, Metas.HasNoneInSlot, Metas.IsActive, Metas.IsInSlot, declared.page_fault.PageFault.PageFault}
use Rattle.bolt_format.specs.{declared.meta.Meta.Meta}
use Rattle.bolt_format.specs.{declared.meta.MetaFault.MetaFault, declared.meta.Slot.Slot}
use Rattle.bolt_report.specs.{MetaLines.info_text, PageMaps.map_text, PageTables.pages_text, PageTexts.page_text, PageTexts.page_text_fault}
use Rattle.bolt_text.specs.declared.forms.FigureForm.{FigureForm}
use Rattle.bolt_job.specs.{MetaChoices.HasNoMetaOf, MetaChoices.IsMetaOf, declared.choices.MetaChoice.MetaChoice}
use Rattle.bolt_commands.specs.declared.failure.Failure.TheVariants as failure
use Rattle.bolt_commands.specs.Answers.{Answer, done, refused}

abbrev pub page_answer : Option PageFault → List ℕ → Answer
page_answer None text = done text
page_answer (Some fault) text = refused (failure.Page fault)

-- the meta that is shown: that of the slot that is named, or the active one
abbrev pub IsShownMeta : List ℕ → Option Slot → Slot → Meta → Type 0
IsShownMeta file None slot meta = IsActive file slot meta
IsShownMeta file (Some named) slot meta = (slot ≡ named) × IsInSlot file named meta

-- why there is none
abbrev pub HasNoMeta : List ℕ → Option Slot → MetaFault → Type 0
HasNoMeta file None fault = HasNoActive file fault
HasNoMeta file (Some slot) fault = HasNoneInSlot file slot fault

abbrev pub IsInfoAnswer : List ℕ → Option Slot → FigureForm → Answer → Type 0
IsInfoAnswer file wanted form answer =
    ((slot : Slot) × (meta : Meta) × IsShownMeta file wanted slot meta × (answer ≡ done (info_text form slot meta)))
    ⊎ ((fault : MetaFault) × HasNoMeta file wanted fault × (answer ≡ refused (failure.Open fault)))

abbrev pub IsPageAnswer : List ℕ → MetaChoice → ℕ → Answer → Type 0
IsPageAnswer file choice id answer =
    ((meta : Meta) × IsMetaOf file choice meta × (answer ≡ page_answer (page_text_fault file meta id) (page_text file meta id)))
    ⊎ ((fault : MetaFault) × HasNoMetaOf file choice fault × (answer ≡ refused (failure.Open fault)))

-- the table of all pages by their roles, or the map of them
abbrev pub pages_shown : (as_map : Bool) → List ℕ → Meta → (ℕ → Role) → List ℕ
pages_shown false file meta roles = pages_text file meta roles
pages_shown true file meta roles = map_text file meta roles

-- the text of the pages
abbrev pub IsPagesAnswer : List ℕ → (as_map : Bool) → Meta → Answer → Type 0
IsPagesAnswer file as_map meta answer = (roles : ℕ → Role) × AreRoles file meta roles × (answer ≡ done (pages_shown as_map file meta roles))
