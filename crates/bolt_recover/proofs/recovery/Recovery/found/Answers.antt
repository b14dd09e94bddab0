-- Something is lost, since the trees aren't sound.
use Rattle.std.proofs.Common.{◌≡◌, ◌∙◌, List, true, subst₂, ℕ}
use Rattle.bolt_recover.proofs.Words.{All, FoundBelow, is_taken, IsFoundView, Meta, found_numbers, recovery_claimed, recovery_file}
use Rattle.bolt_recover.proofs.Words.{recovery_meta}
use Rattle.bolt_recover.proofs.FoundAll.{found_damaged}
use Rattle.bolt_recover.specs.Recoveries.{recovery_viewers}
use Rattle.bolt_recover.proofs.recovery.Recovery.found.Goals as goal

pub returns : goal.returns
unfolding recovery_viewers
returns c =
    let self = c.run_to_end.new.self in
    let rest = c.new.result in
    let finished = c.in_ok-has_bucket_key.ensures in
    let file = recovery_file c.args.self in
    let meta = recovery_meta c.args.self in
    let items = c.in_ok-found.found.items in
    let same_file = c.new.ensures.file ∙ finished.file in
    let same_meta = c.new.ensures.meta ∙ finished.under in
    record {
      left = record { key = finished.has; number = finished.number; gaps = finished.gaps; unsound = c.requires.damaged };
      lost = (c.requires.root, finished.all);
      are_found =
          found_damaged file meta (recovery_claimed self) (is_taken rest) (found_numbers items) finished.kept c.new.ensures.taken c.requires.damaged
          (subst₂ (λ (f : List ℕ) (m : Meta). FoundBelow f m (λ n. is_taken rest n ≡ true) m.high_water (found_numbers items)) same_file same_meta
          c.in_ok-found.ensures.found);
      views = subst₂ (λ (f : List ℕ) (m : Meta). All (IsFoundView f m) items) same_file same_meta c.in_ok-found.ensures.views;
    }
