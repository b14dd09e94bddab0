use Rattle.std.proofs.Common.{List, rules, subst, sym}
use Rattle.std.proofs.lemmas.List.{map_more}
use Rattle.bolt_job.proofs.Vocabulary.{IsCommand, Rule, argument_rule, command_with, take_all}
use Rattle.bolt_job.proofs.CommandLineLemmas.{argument_added}
use Rattle.bolt_job.proofs.command_line.command.Goals as goal

pub loop-argument-init : goal.loop-argument-init
loop-argument-init c = search rules

pub loop-argument-preserved : goal.loop-argument-preserved
loop-argument-preserved c =
    let syntax = c.args.syntax.now in
    subst (λ (rules : List Rule). IsCommand (command_with syntax.name.now rules) c.in_ok-command.command)
    (sym (map_more argument_rule syntax.arguments.now c.loop-argument.argument-index _ c.loop-argument-test.true))
    (argument_added _ _ _ _ _ _ c.loop-argument.invariant c.arg_of.ensures.rule c.arg_of.ensures.local c.in_ok-command.ensures)

pub returns : goal.returns
returns c = search (rules, take_all)
