-- How a job ends that put a text: as it is to, or with the fault.
use Rattle.std.specs.Prelude.{IfErr, Result, Ok, Err}
use Rattle.bolt_format.specs.declared.sink.SinkFault.{SinkFault}
use Rattle.bolt_text.specs.{ReportEndings.FailsByWriting, declared.report_fault.ReportFault.ReportFault}
use Rattle.bolt_commands.specs.{Answers.JobEnding, Failures.report_failure, declared.failure.Failure.Failure, declared.failure.Failure.TheVariants.Write}

abbrev pub end_report : {A : Type 0} → Result A ReportFault → (wanted : JobEnding) → JobEnding
end_report (Ok x) wanted = wanted
end_report (Err fault) wanted = Err (report_failure fault)

-- a text that needs no memory
abbrev pub end_write : {A : Type 0} → Result A SinkFault → (wanted : JobEnding) → JobEnding
end_write (Ok x) wanted = wanted
end_write (Err fault) wanted = Err Write

-- a result with its fault as a failure
abbrev pub failing : {A E : Type 0} → (E → Failure) → Result A E → Result A Failure
failing name (Ok x) = Ok x
failing name (Err fault) = Err (name fault)

-- a text that the sink may fail to accept, or that may need memory
abbrev pub MayFail : {A : Type 0} → Result A ReportFault → Type 0
MayFail put = IfErr put FailsByWriting
