use Rattle.std.proofs.Common.{List, ap, length, sym}
use Rattle.bolt_recover.proofs.Searched.{damaged, none_recovered, number, rootless, trees_sound}
use Rattle.bolt_recover.proofs.lost_and_found.LostAndFound.recovered.Goals as goal
use Rattle.bolt_check.specs.Counts.{saturated}
use Rattle.bolt_tree.specs.Listing.{Member}

pub returns-in-Damaged-clause-number : goal.returns-in-Damaged-clause-number
returns-in-Damaged-clause-number c = number c.args.self.now c.in-Damaged.damage c.in-Damaged.is

pub returns-in-Rootless-clause-number : goal.returns-in-Rootless-clause-number
returns-in-Rootless-clause-number c = λ listing is.
    sym (ap (λ (ms : List Member). saturated (length ms)) (none_recovered c.args.self.now c.in-Rootless.field-0 c.in-Rootless.is listing is))

pub returns-in-Sound-clause-sound : goal.returns-in-Sound-clause-sound
returns-in-Sound-clause-sound c = trees_sound c.args.self.now c.in-Sound.field-0 c.in-Sound.is

pub returns-in-Damaged-clause-damaged : goal.returns-in-Damaged-clause-damaged
returns-in-Damaged-clause-damaged c = damaged c.args.self.now c.in-Damaged.damage c.in-Damaged.is

pub returns-in-Rootless-clause-damaged : goal.returns-in-Rootless-clause-damaged
returns-in-Rootless-clause-damaged c = rootless c.args.self.now c.in-Rootless.field-0 c.in-Rootless.is
