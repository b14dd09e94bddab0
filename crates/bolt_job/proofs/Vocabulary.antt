-- The words that the proofs of this crate cite, passed on from the modules that define them.
pub use Rattle.bolt_format.specs.Metas.{IsPageSize, page_sizes}
pub use Rattle.bolt_job.specs.CommandLine.{Asks, ReadsAs, HasKindOf, IsCommand, IsRefusedBy, asked_by, asked_by_subcommand, bare_program}
pub use Rattle.bolt_job.specs.CommandLine.{command_with, program, program_of, values_in}
pub use Rattle.bolt_job.specs.{PathWords.◌>>=◌, PathWords.each_part, PathWords.hex_path_of, PathWords.or_bad_hex, PathWords.part_of}
pub use Rattle.bolt_job.specs.{PathWords.parts_by, Jobs.asked_of}
pub use Rattle.bolt_job.specs.PlainWords.{Asked, asked, assumed_of, assumed_when, first_word_of, is_page_size, page_size_asked, path_by, owned_path}
pub use Rattle.bolt_job.specs.Syntaxes.{argument_rule, line_of}
pub use Rattle.bolt_job.specs.declared.refusal.Refusal.TheVariants.{Help, Memory, Usage, Version, Word}
pub use Rattle.bolt_job.specs.{declared.job.Job.Job, declared.choices.PageSize.PageSize, declared.refusal.Refusal.Refusal}
pub use Rattle.bolt_text.specs.{Lines.Text, Numbers.number_in}
pub use Rattle.bolt_tree.specs.Paths.{Key, Path}
pub use Rattle.clap.proofs.WalkLemmas.{first_value-rows, list_any-map, raw_values-rows}
pub use Rattle.clap.specs.Words.{AddsArg, AddsSubcommand, App, HasKind, HasMatchesOf, IsAmong, Kinds, Row, Rule, all_of, app_of, fault_of, found_of}
pub use Rattle.clap.specs.Words.{is_simple, is_simple_and_free, rows_of, rule_of, subcommand_of, subcommand_rows_of, with_rule, with_subcommand}
pub use Rattle.clap.specs.declared.builder.Command.{Command}
pub use Rattle.std.proofs.lemmas.Bool.{false_from_ne_true, or_cases, or_parts}
pub use Rattle.std.proofs.{lemmas.List.at_drop_more, lemmas.List.drop_all, lemmas.List.map-append, lemmas.List.take_all}
pub use Rattle.std.specs.{List.after_first, List.before_first, List.list_any, List.position_or_len, List.slice_split, Result.IsErrAnd}
pub use Rattle.std.specs.Borrow.{Bor}
pub use Rattle.std.specs.Str.{bytes_eq}
pub use Rattle.std.specs.Prelude.{Box, IfNone, IfSome, MatchOption, None, Option, Some, false, if◌then◌else◌, option_and_then, option_map, true}
