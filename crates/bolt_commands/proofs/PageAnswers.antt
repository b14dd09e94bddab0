-- The answer of `page`, whether the page is good or not.
use Rattle.std.proofs.Common.{◌≡◌, ◌≢◌, ◌↔◌, ℕ, List, Option, Some, None, Result, Ok, Err, inl, inr, refl}
use Rattle.bolt_commands.proofs.Vocabulary.{Appends-nil, WritesAnswer, Ghosts, ReportFault, Wrote, end_report, page_answer, report_ending}
use Rattle.bolt_format.specs.declared.page_fault.PageFault.{PageFault}
use Rattle.bolt_text.specs.declared.report_fault.ReportFault.TheVariants as report

-- the page is reported as bad just if it has a fault
abbrev NamesFault : {A : Type 0} → Result A ReportFault → Option PageFault → Type 0
NamesFault result found = (fault : PageFault) → (result ≡ Err (report.Page fault)) ↔ (found ≡ Some fault)

pub page_put : {S A : Type 0} {sink : Ghosts S} {old new : S} (found : Option PageFault) (text : List ℕ) (put : Result A ReportFault)
    → Wrote sink old new text (report_ending put)
    → put ≢ Err report.NoMemory → NamesFault put found → ((fault : PageFault) → put ≡ Err (report.Page fault) → new ≡ old)
    → WritesAnswer sink old new (page_answer found text) (end_report put (Ok 0))
page_put None text (Ok x) a memory names untouched = inl (a.appends, a.failures, refl)
page_put (Some fault) text (Ok x) a memory names untouched = let bad = (names fault).1 refl in absurd (cc)
page_put None text (Err report.Sink) a memory names untouched = inr (a.failures, a.appends, refl)
page_put None text (Err report.NoMemory) a memory names untouched = absurd (memory refl)
page_put None text (Err (report.Page fault)) a memory names untouched = let bad = (names fault).0 refl in absurd (cc)
page_put {sink} {old} (Some found) text (Err e) a memory names untouched =
    let same = (names found).1 refl in
    let page : e ≡ report.Page found = cc in
    rw (untouched found same, page) (inl (Appends-nil (sink.taken old), refl, refl))
