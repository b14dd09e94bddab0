-- What `check` prints of a copy, and what `load` does with the text of a listing: docs/COMMANDS.md, "What a run writes".
use Rattle.std.specs.Prelude.{◌≡◌, ◌≢◌, ◌<◌, ◌⊎◌, ℕ, Bool, false, List, Ok, codes, length, take}
use Rattle.bolt_format.specs.declared.sink.Sink.{Ghosts}
use Rattle.bolt_tree.specs.Listing.{Member}
use Rattle.bolt_commands.specs.{Answers.Answer, Answers.JobEnding, Answers.done, Answers.refused, CheckAnswers.IsCheckAnswer, JobAnswers.Loads}
use Rattle.bolt_commands.specs.{JobAnswers.LoadsListing}
use Rattle.bolt_commands.specs.declared.failure.Failure.TheVariants.{Memory}
use Rattle.bolt_job.specs.{declared.choices.CopyKind.CopyKind, declared.choices.Extent.Extent, declared.choices.MetaChoice.TheVariants.Active}

-- `check` to any extent says of the file that it is sound, unless memory runs out
abbrev pub PassesCheck : (snapshot : Bool) → List ℕ → Type 0
PassesCheck snapshot file = (extent : Extent) (answer : Answer) → IsCheckAnswer extent snapshot false file Active answer
    → (answer ≡ done (codes "OK\n")) ⊎ (answer ≡ refused Memory)

-- `check` says of no proper prefix of the file that it is sound
abbrev pub FailsCutOff : (snapshot : Bool) → List ℕ → Type 0
FailsCutOff snapshot file = (n : ℕ) → n < length file → (extent : Extent) (for_bbolt : Bool) (answer : Answer)
    → IsCheckAnswer extent snapshot for_bbolt (take n file) Active answer → answer.ending ≢ Ok 0

-- `load` of this text does what it does of a text of this listing
abbrev pub LoadsAs : {O T : Type 0} (out : Ghosts O) (target : Ghosts T) → List ℕ → List Member → Type 0
LoadsAs {O} {T} out target text listing =
    (out_old out_new : O) (target_old target_new : T) (page_size sequence : ℕ) (kind : CopyKind) (ending : JobEnding)
    → Loads out out_old out_new target target_old target_new text page_size sequence kind ending
    → LoadsListing out out_old out_new target target_old target_new listing text page_size sequence kind ending
