use Rattle.std.proofs.lemmas.Grind.{common_steps}
use Rattle.std.proofs.Common.{arith, inl, inr, refl}
use Rattle.bolt_commands.specs.declared.failure.Failure.TheVariants as failure
use Rattle.bolt_commands.proofs.{Doing.ends_as, ReadFiles.some_page_size}
use Rattle.bolt_commands.proofs.opening.Input.search.Goals as goal

pub returns-in_err-meta-clause-refused : goal.returns-in_err-meta-clause-refused
returns-in_err-meta-clause-refused c =
    rw (ends_as _ (failure.Open c.in_err-meta.field-0.0) c.from_residual.ensures.1) (inl (_, c.in_err-meta.ensures.none, refl))

pub under-requires : goal.under-requires
under-requires c = some_page_size c.args.self.file.now c.args.choice c.in_ok-meta.meta c.in_ok-meta.ensures.found

pub returns-in_err-searched-clause-refused : goal.returns-in_err-searched-clause-refused
returns-in_err-searched-clause-refused c = rw (ends_as _ failure.Memory c.from_residual-in_err-searched.ensures.1) (inr (_, c.in_ok-meta.ensures.found, refl))

pub returns-clause-searched : goal.returns-clause-searched
returns-clause-searched c = grind (arith, common_steps)
