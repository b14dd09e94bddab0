use Rattle.std.proofs.Common.{inl, inr, refl}
use Rattle.bolt_commands.proofs.{Doing.answer_nothing, PageAnswers.page_put}
use Rattle.bolt_commands.proofs.commands.page_command.do_page.Goals as goal

pub returns-in_err-meta : goal.returns-in_err-meta
returns-in_err-meta g c = answer_nothing _ _ (inr (_, c.in_err-meta.ensures.none, refl)) c.from_residual.ensures.1

pub returns : goal.returns
returns g c =
    let put = c.page_text.ensures in
    rw c.end_report.ensures (record {
      answer = _;
      is = inl (c.in_ok-meta.meta, c.in_ok-meta.ensures.found, refl);
      does = page_put _ _ c.page_text.result put.written put.memory put.page put.untouched;
    })
