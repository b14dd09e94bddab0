-- A page that is shown has no fault.
use Rattle.std.proofs.Common.{◌≡◌, ◌↔◌, Err, None, Ok, Option, Result, Some}
use Rattle.std.specs.Result.{IsErrAnd}
use Rattle.bolt_format.specs.declared.page_fault.PageFault.{PageFault}
use Rattle.bolt_report.proofs.Words.{ReportFault}
use Rattle.bolt_text.specs.declared.report_fault.ReportFault.TheVariants as fault
use Rattle.bolt_report.proofs.page_lines.page_text.Goals as goal

shown : {A : Type 0} {found : Option PageFault} (result : Result A ReportFault) → None ≡ found → IsErrAnd result (λ r. r ≡ fault.Sink)
    → (other : PageFault) → (result ≡ Err (fault.Page other)) ↔ (found ≡ Some other)
shown (Ok x) same is other = absurd is
shown (Err r) same is other = (λ e. cc, λ e. cc)

pub returns-in_err-put-clause-page : goal.returns-in_err-put-clause-page
returns-in_err-put-clause-page g c = shown _ c.in_ok-found.ensures.fault c.from_residual-in_err-put.ensures.1
