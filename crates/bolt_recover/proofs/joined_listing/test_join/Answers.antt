-- By what is left of the trees.
use Rattle.std.proofs.Common.{◌≡◌, ◌∙◌, [], List, arith, ap, length, sym, ℕ}
use Rattle.bolt_recover.proofs.Words.{common_steps, FoundPage, length-map, lost_of}
use Rattle.bolt_recover.proofs.Searched.{has_key, lacks_all, lacks_key, not_everything, of_sound, root_lost}
use Rattle.bolt_recover.proofs.joined_listing.test_join.Goals as goal
use Rattle.bolt_recover.proofs.joined_listing.test_join.Goals.{else-some-via-else-some, else-some-via-then-some+else-damage}

pub returns-then-damage-clause-refused : goal.returns-then-damage-clause-refused
returns-then-damage-clause-refused c = (
  λ none.
      let long : length c.args.searched.now.found.items ≡ 0 =
      sym (length-map c.args.searched.now.found.items (λ (f : FoundPage). f.number)) ∙ ap (λ (ns : List ℕ). length ns) none in
      grind (arith, common_steps, long, c.is_empty-some.ensures, c.if-some.true),
  has_key c.args.searched.now c.in-Damaged.damage c.in-Damaged.is c.if-damage.true,
)

pub returns-then-not-some-clause-refused : goal.returns-then-not-some-clause-refused
returns-then-not-some-clause-refused c = grind (arith, common_steps, root_lost, c.is_empty-some.ensures, c.if-not-some.true, c.in-Rootless.is)

pub returns-in-Sound-clause-apart : goal.returns-in-Sound-clause-apart
returns-in-Sound-clause-apart c = λ some. absurd (some (of_sound c.args.searched.now c.in-Sound.field-0 c.in-Sound.is).2)

pub returns-in-Sound-clause-some : goal.returns-in-Sound-clause-some
returns-in-Sound-clause-some c = λ x all none. not_everything c.args.searched.now [] (ap lost_of c.in-Sound.is) x all

pub returns-else-some-clause-apart : goal.returns-else-some-clause-apart
returns-else-some-clause-apart c = λ some. elim c.else-some.branch [
  | else-some-via-then-some+else-damage w ↦ lacks_key c.args.searched.now c.in-Damaged.damage c.in-Damaged.is w.if-damage.false
  | else-some-via-else-some w ↦ absurd (some (grind (arith, common_steps, c.is_empty-some.ensures, w.if-some.false)))
]

pub returns-else-some-clause-some : goal.returns-else-some-clause-some
returns-else-some-clause-some c = λ x all none. not_everything c.args.searched.now _ (ap lost_of c.in-Damaged.is) x all

pub returns-else-not-some-clause-apart : goal.returns-else-not-some-clause-apart
returns-else-not-some-clause-apart c = λ some. lacks_all c.args.searched.now c.in-Rootless.finding c.in-Rootless.is
