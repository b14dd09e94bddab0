-- What is before the first colon and after it is read, or there is none.
use Rattle.std.proofs.Common.{None, arith}
use Rattle.std.proofs.lemmas.Str.Pattern.{split_once_first}
use Rattle.bolt_job.proofs.PageSizes.{no_colon}
use Rattle.bolt_job.proofs.line.find_assumed.Goals as goal

pub returns-in_err-page_size : goal.returns-in_err-page_size
returns-in_err-page_size c =
    rw c.from_residual.ensures (no_colon c.args.word.now (split_once_first 58 c.args.word.now None c.in_err-page_size.ensures.cases (omega arith)))
