-- The words that the proofs of this crate cite, passed on from the modules that define them.
pub use Rattle.bolt_cli.specs.Deeds.{Adds, Closed, Deed, Dropped, Ended, Lacked, Made, Opened, Read, ReadFirst, ReadOn, Said}
pub use Rattle.bolt_cli.specs.Runs.{Choose, Closes, WritesOut, Ends, Fails, FailsGathered, FailsLacking, FailsUnended, Goes, HoldsUnless}
pub use Rattle.bolt_cli.specs.Runs.{IsBufferedLine, IsReported, IsRun, PrintsText, PrintsBuffered, DoesAsked, Reads, ReadsMetas, ReadsRest, Refuses}
pub use Rattle.bolt_cli.specs.Runs.{Shows, ShowsJob, error_line, buffered_of, buffered_sink, no_sink}
pub use Rattle.bolt_commands.specs.Answers.{Answer, JobEnding, Reports, WritesAnswer, done, status_of}
pub use Rattle.bolt_commands.specs.CopyAnswers.{copy_page_size, copy_report, hash_refusal, lengths_line}
pub use Rattle.bolt_commands.specs.{JobAnswers.CopiesUnless, JobAnswers.DoesJob, JobAnswers.MakesCopy, JobAnswers.WritesCopy}
pub use Rattle.bolt_commands.specs.{JobAnswers.WritesRepaired, RepairAnswers.repair_report}
pub use Rattle.bolt_commands.specs.Failures.{failure_line}
pub use Rattle.bolt_format.specs.{Sinks.AppendsPrefix, declared.sink.Sink.Ghosts}
pub use Rattle.bolt_job.specs.{declared.refusal.Refusal.TheVariants.Help, declared.refusal.Refusal.TheVariants.Version, CommandLine.Asks}
pub use Rattle.bolt_job.specs.{Jobs.needs_metas_alone, Jobs.target_name}
pub use Rattle.bolt_job.specs.{declared.choices.CopyKind.CopyKind, declared.choices.Extent.Extent, declared.choices.MetaChoice.MetaChoice}
pub use Rattle.bolt_job.specs.{declared.choices.PageSize.PageSize, declared.job.Job.Job, declared.refusal.Refusal.Refusal}
pub use Rattle.bolt_text.specs.{Lines.Text, LineMembers.text_members}
pub use Rattle.bolt_tree.specs.Listing.{Member}
pub use Rattle.std.proofs.Math.Logic.{∥∥₁_map}
pub use Rattle.std.specs.{Io.KnownBytes.Appends, Prelude.string_bytes}
