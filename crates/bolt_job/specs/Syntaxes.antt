-- The lines of the commands as the code has them.
use Rattle.std.specs.Prelude.{List, Option, Some, None, map}
use Rattle.clap.specs.Words.{Rule, new_rule}
use Rattle.bolt_job.specs.WordRules.{alone, by_letter, by_name, several, valued}
use Rattle.bolt_text.specs.Lines.{Text}
use Rattle.bolt_job.specs.{declared.command_line.Argument.Argument, declared.command_line.Flag.Flag, declared.command_line.Syntax.Syntax}
use Rattle.bolt_job.specs.declared.command_line.Flag.TheVariants.{Both, Long, Operand, Operands, Short}

abbrev pub with_flag : Flag → Rule → Rule
with_flag Operand rule = rule
with_flag Operands rule = several rule
with_flag Long rule = by_name rule
with_flag (Short letter) rule = by_letter letter rule
with_flag (Both letter) rule = by_name (by_letter letter rule)

abbrev pub with_value : {X : Type 0} → Option X → Rule → Rule
with_value (Some name) rule = valued rule
with_value None rule = alone rule

abbrev pub argument_rule : Argument → Rule
argument_rule a = with_flag a.flag (with_value a.value (record (new_rule a.name.now) { required = a.required }))

abbrev pub line_of : Syntax → Text × List Rule
line_of s = (s.name.now, map argument_rule s.arguments.now)
