-- By what is left of the trees.
use Rattle.std.proofs.Common.{◌≡◌, sym}
use Rattle.bolt_recover.proofs.{Searched.none_recovered, Searched.of_sound, Searched.root_lost, SoundWalks.walked, Words.left_of, Words.props}
use Rattle.bolt_recover.proofs.{Words.∥∥₁_map}
use Rattle.bolt_recover.proofs.recovered_listing.RecoveredListing.of.Goals as goal

pub returns-in-Sound-clause-file : goal.returns-in-Sound-clause-file
returns-in-Sound-clause-file c = rw c.new.ensures.checked (of_sound c.args.searched.now c.in-Sound.checked c.in-Sound.is).0

pub returns-in-Sound-clause-meta : goal.returns-in-Sound-clause-meta
returns-in-Sound-clause-meta c = rw c.new.ensures.checked (of_sound c.args.searched.now c.in-Sound.checked c.in-Sound.is).1

pub returns-in-Sound-clause-all : goal.returns-in-Sound-clause-all
returns-in-Sound-clause-all c = λ listing is.
    let (file, meta, none) = of_sound c.args.searched.now c.in-Sound.checked c.in-Sound.is in
    walked {P = λ listing. left_of c.new.result listing ≡ listing} c.in-Sound.checked listing (rw (file, meta) is) (hlevel props) c.new.ensures.all

pub invariant_of-result : goal.invariant_of-result
invariant_of-result c = record {
  bytes = c.args.searched.now.bytes;
  lost = ∥∥₁_map (root_lost c.args.searched.now c.in-Rootless.field-0 c.in-Rootless.is) (λ lost. (c.in-Rootless.field-0, lost));
}

pub returns-in-Rootless-clause-all : goal.returns-in-Rootless-clause-all
returns-in-Rootless-clause-all c = λ listing is. sym (none_recovered c.args.searched.now c.in-Rootless.field-0 c.in-Rootless.is listing is)
