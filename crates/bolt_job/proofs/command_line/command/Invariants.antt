use Rattle.std.proofs.Common.{map, take}
use Rattle.bolt_job.proofs.Vocabulary.{IsCommand, argument_rule, command_with}
use Rattle.bolt_job.proofs.command_line.command.Given as goal

-- the command has the arguments so far
abbrev pub invariant-loop-argument : goal.invariant-loop-argument
invariant-loop-argument l = IsCommand (command_with l.syntax.name.now (map argument_rule (take l.argument-index l.syntax.arguments.now))) l.command
