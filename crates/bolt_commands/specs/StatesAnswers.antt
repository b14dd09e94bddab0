-- What `states` answers: docs/COMMANDS.md, "states".
use Rattle.std.specs.Prelude.{◌≡◌, ◌⊎◌, ℕ, List, [], Option, None, Some}
use Rattle.bolt_format.specs.{Metas.HasActive, Metas.HasNoActive, declared.meta.Meta.Meta, declared.meta.MetaFault.MetaFault}
use Rattle.bolt_job.specs.{declared.choices.PageSize.PageSize, declared.page_commands.StatesJob.StatesJob}
use Rattle.bolt_recover.specs.{ShownStates.AreValidMetas, States.AreStates, States.PlaceView, States.StateView}
use Rattle.bolt_recover.specs.{declared.valid_metas.ValidMetas.ValidMetas}
use Rattle.bolt_report.specs.StateLines.{states_text}
use Rattle.bolt_commands.specs.{Answers.Answer, Answers.done, Answers.refused}
use Rattle.bolt_commands.specs.declared.failure.Failure.TheVariants as failure

-- the page size of the pages that are tried: the one that is asked for, or that of the active meta, or 4096 if no meta is valid
abbrev pub IsTriedSize : List ℕ → Option PageSize → ℕ → Type 0
IsTriedSize file (Some size) n = n ≡ size.bytes
IsTriedSize file None n = ((meta : Meta) × HasActive file meta × (n ≡ meta.page_size)) ⊎ ((fault : MetaFault) × HasNoActive file fault × (n ≡ 4096))

-- the line of each state, if there is one
abbrev pub states_answer : ValidMetas → List StateView → List PlaceView → Answer
states_answer metas [] [] = refused failure.NoState
states_answer metas kept lost = done (states_text metas kept lost)

-- `states` prints the line of each state, or memory ran out before anything was written
abbrev pub IsStatesPrint : StatesJob → List ℕ → Answer → Type 0
IsStatesPrint job file answer =
    ((page_size : ℕ) × (metas : ValidMetas) × (kept : List StateView) × (lost : List PlaceView) × IsTriedSize file job.page_size page_size
    × AreValidMetas file metas × AreStates file page_size kept lost × (answer ≡ states_answer metas kept lost))
    ⊎ (answer ≡ refused failure.Memory)
