-- How an operand or an option is described to `clap`: docs/COMMANDS.md, "Arguments".
use Rattle.std.specs.Prelude.{ℕ, true, [], ◌∷◌, Some, codes}
use Rattle.clap.specs.{Words.Rule, declared.builder.action.ArgAction.TheVariants.Append, declared.builder.action.ArgAction.TheVariants.Set}
use Rattle.bolt_text.specs.Lines.{Text}

-- the rule of an operand, or of an option with a value, which is one word
abbrev pub valued : Rule → Rule
valued rule = record rule { value_names = 1 }

-- the word that a switch counts as if it is given; a switch has no value
abbrev pub given_word : Text
given_word = codes "true"

abbrev pub alone : Rule → Rule
alone rule = record rule { action = Some Set; range = Some (record { start_inclusive = 0; end_inclusive = 0 }); missing = given_word ∷ [] }

-- the rule of an operand or an option that takes as many words as come, each added to those before it
abbrev pub several : Rule → Rule
several rule = record rule { action = Some Append }

-- the rule of an option: `--` and its name, or a letter, as `-o`
abbrev pub by_name : Rule → Rule
by_name rule = record rule { long = Some rule.id }

abbrev pub by_letter : ℕ → Rule → Rule
by_letter letter rule = record rule { short = Some letter }

-- the rule of an operand or an option that a line must have
abbrev pub needed : Rule → Rule
needed rule = record rule { required = true }
