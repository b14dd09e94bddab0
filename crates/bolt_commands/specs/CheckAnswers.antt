-- What `check` answers: docs/COMMANDS.md, "check".
use Rattle.std.specs.Prelude.{◌≡◌, ◌⊎◌, ◌&&◌, ℕ, List, [], ◌∷◌, ◌++◌, Bool, true, false, codes, Ok, Err, if◌then◌else◌}
use Rattle.bolt_check.specs.{BboltFileFindings.file_findings, BboltFindings.AreBboltFindings, Nodes.node_at}
use Rattle.bolt_check.specs.{declared.bbolt_file.FileFinding.FileFinding, declared.check_fault.CheckFault.CheckFault}
use Rattle.bolt_check.specs.{declared.finding.Finding.Finding, ShownFindings.findings_in}
use Rattle.bolt_check.specs.declared.check_fault.CheckFault.TheVariants as check
use Rattle.bolt_format.specs.{Metas.IsActive, declared.meta.Meta.Meta, declared.meta.MetaFault.MetaFault, declared.meta.Slot.Slot}
use Rattle.bolt_recover.specs.{PageGaps.AreGaps, PageGaps.PageGapView, Losses.LostView, Losses.parts, Lost.IsAllLost}
use Rattle.bolt_report.specs.{BboltLines.bbolt_findings_text, FoundLines.FoundView, FoundLines.counted_lost_text, GapLines.findings_text}
use Rattle.bolt_commands.specs.{FileFaults.AreFileFaults, FileFaults.errors_in, FileFaults.fault_lines, FileFaults.is_fine}
use Rattle.bolt_commands.specs.{declared.file_faults.FileFaults.FileFaults}
use Rattle.bolt_commands.specs.{Answers.Answer, Answers.done, Answers.refused, FilesRead.AreFoundTo, FilesRead.IsReadUnder, FilesRead.IsRefusedUnder}
use Rattle.bolt_job.specs.{MetaChoices.HasNoMetaOf, MetaChoices.IsMetaOf, declared.choices.Extent.Extent}
use Rattle.bolt_job.specs.{declared.choices.Extent.TheVariants.FoundPages, declared.choices.Extent.TheVariants.Sound}
use Rattle.bolt_job.specs.declared.choices.MetaChoice.{MetaChoice}
use Rattle.bolt_job.specs.declared.choices.MetaChoice.TheVariants.{Active, Assumed, InSlot}
use Rattle.bolt_commands.specs.declared.failure.Failure.TheVariants as failure

-- what was found goes to standard output; what is wrong with the file apart from its pages comes first, gaps come last, and each of that is an
-- error too
abbrev pub findings_answer : FileFaults → List Finding → List PageGapView → Answer
findings_answer faults findings gaps = record { out = fault_lines faults ++ findings_text (errors_in faults) findings gaps; ending = Ok 1 }

-- nothing is wrong with a file whose trees are sound
abbrev pub is_right : FileFaults → List PageGapView → Bool
is_right faults [] = is_fine faults
is_right faults (gap ∷ gaps) = false

abbrev pub sound_answer : FileFaults → List PageGapView → Answer
sound_answer faults gaps = if is_right faults gaps then done (codes "OK\n") else findings_answer faults [] gaps

-- what `check` prints of a file with sound trees: what bbolt fails on, if anything, and otherwise what is wrong apart from that
abbrev pub bbolt_answer : FileFaults → List PageGapView → List FileFinding → List Finding → Answer
bbolt_answer faults gaps [] [] = sound_answer faults gaps
bbolt_answer faults gaps of_file on_ways = record { out = bbolt_findings_text of_file on_ways; ending = Ok 1 }

abbrev pub check_refusal : FileFaults → List PageGapView → CheckFault → Answer
check_refusal faults gaps (check.Open fault) = record { out = fault_lines faults; ending = Err (failure.Open fault) }
check_refusal faults gaps (check.Structure x) = findings_answer faults (x ∷ []) gaps
check_refusal faults gaps (check.Accounts findings) = findings_answer faults (findings_in findings) gaps
check_refusal faults gaps check.Memory = refused failure.Memory

-- what bbolt fails on in the file as a whole is looked for under its active meta alone
abbrev pub AreOfFile : MetaChoice → List ℕ → List FileFinding → Type 0
AreOfFile Active file of_file = (slot : Slot) (meta : Meta) → IsActive file slot meta → of_file ≡ file_findings file slot meta
AreOfFile (InSlot slot) file of_file = of_file ≡ []
AreOfFile (Assumed assumed) file of_file = of_file ≡ []

-- what is found of a sound file: what bbolt fails on, in the file as a whole and on its ways, if that is looked for, and otherwise nothing
abbrev pub AreFindingsFor : (for_bbolt : Bool) → List ℕ → MetaChoice → Meta → List FileFinding → List Finding → Type 0
AreFindingsFor true file choice meta of_file on_ways = AreOfFile choice file of_file × ∥ AreBboltFindings (node_at file meta) meta.root on_ways ∥₁
AreFindingsFor false file choice meta of_file on_ways = (of_file ≡ []) × (on_ways ≡ [])

-- What `check` prints without looking for losses: what bbolt fails on is looked
-- for if nothing else is wrong. The gaps are those that were looked for.
abbrev pub IsFindingsAnswer : (for_bbolt : Bool) → FileFaults → List ℕ → MetaChoice → List PageGapView → Answer → Type 0
IsFindingsAnswer for_bbolt faults file choice gaps answer =
    ((meta : Meta) × (of_file : List FileFinding) × (on_ways : List Finding) × IsReadUnder file choice meta
    × AreFindingsFor (for_bbolt && is_right faults gaps) file choice meta of_file on_ways × (answer ≡ bbolt_answer faults gaps of_file on_ways))
    ⊎ ((fault : CheckFault) × IsRefusedUnder file choice fault × (answer ≡ check_refusal faults gaps fault))

-- what `check` prints of a damaged file: what is wrong apart from its pages, then each loss, each gap and each page that is found
abbrev pub lost_and_found_answer : FileFaults → LostView → List PageGapView → List FoundView → Answer
lost_and_found_answer faults lost gaps found = record { out = fault_lines faults ++ counted_lost_text (errors_in faults) lost gaps found; ending = Ok 1 }

-- if nothing is lost, what `check` writes, and the gaps
abbrev pub AnswersLost : (for_bbolt : Bool) → FileFaults → List ℕ → MetaChoice → LostView → List PageGapView → List FoundView → Answer → Type 0
AnswersLost for_bbolt faults file choice (parts []) gaps found answer = IsFindingsAnswer for_bbolt faults file choice gaps answer
AnswersLost for_bbolt faults file choice lost gaps found answer = answer ≡ lost_and_found_answer faults lost gaps found

-- memory may run out; where pages are looked for, only of a file that has the meta
abbrev pub MayRunOut : Extent → List ℕ → MetaChoice → Type 0
MayRunOut FoundPages file choice = (meta : Meta) × IsMetaOf file choice meta
MayRunOut extent file choice = Unit {0}

-- all that is lost and found, and the gaps of all that is kept, under the meta that is chosen; or there is none; or memory ran out
abbrev pub IsLostAnswer : Extent → (for_bbolt : Bool) → FileFaults → List ℕ → MetaChoice → Answer → Type 0
IsLostAnswer extent for_bbolt faults file choice answer =
    ((meta : Meta) × (lost : LostView) × (gaps : List PageGapView) × (found : List FoundView) × IsMetaOf file choice meta × IsAllLost file meta lost
    × AreGaps file meta gaps
    × AreFoundTo extent file meta found × AnswersLost for_bbolt faults file choice lost gaps found answer)
    ⊎ ((fault : MetaFault) × HasNoMetaOf file choice fault × (answer ≡ check_refusal faults [] (check.Open fault)))
    ⊎ (MayRunOut extent file choice × (answer ≡ refused failure.Memory))

-- `check` to any extent of a file of which is known what else is wrong with it
abbrev pub IsCheckAnswerAfter : Extent → (for_bbolt : Bool) → FileFaults → List ℕ → MetaChoice → Answer → Type 0
IsCheckAnswerAfter Sound for_bbolt faults file choice answer = IsFindingsAnswer for_bbolt faults file choice [] answer
IsCheckAnswerAfter extent for_bbolt faults file choice answer = IsLostAnswer extent for_bbolt faults file choice answer

-- `check` to any extent of a file, or of a snapshot
abbrev pub IsCheckAnswer : Extent → (snapshot for_bbolt : Bool) → List ℕ → MetaChoice → Answer → Type 0
IsCheckAnswer extent snapshot for_bbolt file choice answer =
    (faults : FileFaults) × AreFileFaults extent snapshot file choice faults × IsCheckAnswerAfter extent for_bbolt faults file choice answer
