use Rattle.bolt_commands.proofs.verdict.visit_all.Goals as goal

pub returns-clause-gaps : goal.returns-clause-gaps
returns-clause-gaps c = rw (c.in-Ok.ensures.file, c.in-Ok.ensures.meta) at c.in_ok-finish.ensures.gaps

pub returns-clause-kept : goal.returns-clause-kept
returns-clause-kept c = rw (c.in-Ok.ensures.file, c.in-Ok.ensures.meta) at c.in_ok-finish.ensures.kept
