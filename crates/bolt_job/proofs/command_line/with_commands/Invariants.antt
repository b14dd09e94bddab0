use Rattle.std.proofs.Common.{map, take}
use Rattle.bolt_job.proofs.Vocabulary.{IsCommand, line_of, program_of}
use Rattle.bolt_job.proofs.command_line.with_commands.Given as goal

-- the program has the commands so far
abbrev pub invariant-loop-syntax : goal.invariant-loop-syntax
invariant-loop-syntax l = IsCommand (program_of (map (λ syntax. line_of syntax.now) (take l.syntax-index l.syntaxes))) l.program
