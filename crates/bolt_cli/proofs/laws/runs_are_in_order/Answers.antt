use Rattle.bolt_cli.proofs.{Ordering.run_ordered, Sentences.Before, Sentences.after_each, Sentences.before_each, Sentences.made_at}
use Rattle.bolt_cli.proofs.{Sentences.none_made_at}
use Rattle.std.proofs.Common.{inl, inr}
use Rattle.bolt_cli.specs.Orders.{is_opened, was_ended, was_made}
use Rattle.bolt_cli.proofs.laws.runs_are_in_order.Goals as goal

pub returns-clause-reads_first : goal.returns-clause-reads_first
returns-clause-reads_first g c words deeds code is = after_each _ _ deeds (run_ordered g.O.Target.Sink g.O.Output.Sink words deeds code is).ordered.reads_first

pub returns-clause-makes_after_reading : goal.returns-clause-makes_after_reading
returns-clause-makes_after_reading g c words deeds code is = before_each _ _ deeds (run_ordered g.O.Target.Sink g.O.Output.Sink words deeds code is).of_read

pub returns-clause-makes_once : goal.returns-clause-makes_once
returns-clause-makes_once g c words deeds code is = (run_ordered g.O.Target.Sink g.O.Output.Sink words deeds code is).ordered.makes_once

pub returns-clause-ends_what_is_made : goal.returns-clause-ends_what_is_made
returns-clause-ends_what_is_made g c words deeds code is =
    after_each _ _ deeds (run_ordered g.O.Target.Sink g.O.Output.Sink words deeds code is).ordered.ends_what_is_made

pub returns-clause-closes_what_is_opened : goal.returns-clause-closes_what_is_opened
returns-clause-closes_what_is_opened g c words deeds code is =
    after_each _ _ deeds (run_ordered g.O.Target.Sink g.O.Output.Sink words deeds code is).ordered.closes_what_is_opened

pub returns-clause-says_failures : goal.returns-clause-says_failures
returns-clause-says_failures g c words deeds code is =
    after_each _ _ deeds (run_ordered g.O.Target.Sink g.O.Output.Sink words deeds code is).ordered.says_failures

pub returns-clause-opens_once : goal.returns-clause-opens_once
returns-clause-opens_once g c words deeds code is = (run_ordered g.O.Target.Sink g.O.Output.Sink words deeds code is).ordered.opens_once

pub returns-clause-copies_before_opening : goal.returns-clause-copies_before_opening
returns-clause-copies_before_opening g c words deeds code is =
    λ before deed after split kind.
    before_each _ _ after
    (after_each was_made (Before is_opened was_ended) deeds (run_ordered g.O.Target.Sink g.O.Output.Sink words deeds code is).ordered.copies_before_opening
    before deed after split kind)

pub returns-clause-says_last : goal.returns-clause-says_last
returns-clause-says_last g c words deeds code is = after_each _ _ deeds (run_ordered g.O.Target.Sink g.O.Output.Sink words deeds code is).ordered.says_last

pub returns-clause-stops_after_failures : goal.returns-clause-stops_after_failures
returns-clause-stops_after_failures g c words deeds code is =
    after_each _ _ deeds (run_ordered g.O.Target.Sink g.O.Output.Sink words deeds code is).ordered.stops_after_failures

pub returns-clause-stops_without_reader : goal.returns-clause-stops_without_reader
returns-clause-stops_without_reader g c words deeds code is =
    after_each _ _ deeds (run_ordered g.O.Target.Sink g.O.Output.Sink words deeds code is).ordered.stops_without_reader

pub returns-clause-succeeds : goal.returns-clause-succeeds
returns-clause-succeeds g c words deeds code is = (run_ordered g.O.Target.Sink g.O.Output.Sink words deeds code is).ordered.succeeds

pub returns-clause-fails_with_1 : goal.returns-clause-fails_with_1
returns-clause-fails_with_1 g c words deeds code is =
    after_each _ _ deeds (run_ordered g.O.Target.Sink g.O.Output.Sink words deeds code is).ordered.fails_with_1

pub returns-clause-refuses_before_reading : goal.returns-clause-refuses_before_reading
returns-clause-refuses_before_reading g c words deeds code is = (run_ordered g.O.Target.Sink g.O.Output.Sink words deeds code is).refused

pub returns-clause-makes_asked_out : goal.returns-clause-makes_asked_out
returns-clause-makes_asked_out g c words deeds code is = λ before name permissions result after split.
    elim (run_ordered g.O.Target.Sink g.O.Output.Sink words deeds code is).asked [
      | inl (job, asks, makes) ↦ (job, asks, made_at _ before name permissions result after (rw split at makes))
      | inr none ↦ absurd (none_made_at before name permissions result after (rw split at none))
    ]
