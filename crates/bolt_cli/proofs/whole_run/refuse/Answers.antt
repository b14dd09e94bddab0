use Rattle.std.proofs.Common.{◌≡◌, ◌⊎◌, Global, List, Ok, String, inl, inr, refl, string_bytes, ℕ}
use Rattle.bolt_cli.proofs.{Vocabulary.Deed, Vocabulary.Ghosts, Vocabulary.Help, Vocabulary.PrintsText, Vocabulary.Refusal, Vocabulary.Refuses}
use Rattle.bolt_cli.proofs.{Vocabulary.Version, Telling.DoesDeeds-as}
use Rattle.bolt_cli.proofs.whole_run.refuse.Goals as goal

-- help and the version are printed
printed : {T O : Type 0} (target : Ghosts T) (output : Ghosts O)
    (why : Refusal) (text : String Global) (deeds : List (Deed T O)) (code : ℕ) → (why ≡ Help text) ⊎ (why ≡ Version text)
    → PrintsText output (string_bytes text) (Ok 0) deeds code → Refuses target output why deeds code
printed target output why text deeds code (inl help) prints = rw help prints
printed target output why text deeds code (inr version) prints = rw version prints

pub returns-in-Usage : goal.returns-in-Usage
returns-in-Usage g c = DoesDeeds-as c.refuse_usage.ensures (λ deeds refuses. rw (c.in-Usage.is, ← c.as_str.ensures.value) refuses)

pub returns-in-Word : goal.returns-in-Word
returns-in-Word g c = DoesDeeds-as c.refuse_word.ensures (λ deeds refuses. rw c.in-Word.is refuses)

pub returns-in-Help : goal.returns-in-Help
returns-in-Help g c =
    DoesDeeds-as (c.print.ensures (Ok 0) (c.new.ensures.taken, c.new.ensures.sound) refl)
    (λ deeds prints. printed g.O.Target.Sink g.O.Output.Sink c.args.refusal.now c.in-Help.text deeds _ c.in-Help.is (rw c.as_bytes.ensures.value at prints))
