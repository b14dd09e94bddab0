use Rattle.std.proofs.Common.{◌∙◌, List, ap, map, subst, sym, take}
use Rattle.std.proofs.lemmas.List.Sums.{fold-append}
use Rattle.std.proofs.lemmas.List.{map_more}
use Rattle.bolt_job.proofs.Vocabulary.{App, Bor, IsCommand, Rule, Text, bare_program, command_with, line_of, program_of, with_subcommand}
use Rattle.bolt_job.proofs.CommandLineLemmas.{subcommand_added}
use Rattle.bolt_job.specs.declared.command_line.Syntax.{Syntax}
use Rattle.bolt_job.proofs.command_line.with_commands.Goals as goal

abbrev view_of : Bor Syntax → Text × List Rule
view_of syntax = line_of syntax.now

pub loop-syntax-init : goal.loop-syntax-init
loop-syntax-init c = c.requires

pub loop-syntax-preserved : goal.loop-syntax-preserved
loop-syntax-preserved c =
    let i = c.loop-syntax.syntax-index in
    let so_far = map view_of (take i c.args.syntaxes.now) in
    let more = λ (app : App) (line : Text × List Rule). with_subcommand app (command_with line.0 line.1).top in
    subst (λ (app : App). IsCommand app c.in_ok-program.program)
    (sym (ap program_of (map_more view_of c.args.syntaxes.now i _ c.loop-syntax-test.true) ∙ fold-append more bare_program so_far _))
    (subcommand_added _ _ _ _ _ c.loop-syntax.invariant c.in_ok-command.ensures c.in_ok-program.ensures)
