-- What is lost of a damaged file: docs/RECOVERY.md, "Losses".
use Rattle.std.specs.Prelude.{◌≡◌, ℕ, List}
use Rattle.bolt_format.specs.declared.meta.Meta.{Meta}
use Rattle.bolt_recover.specs.{Losses.LostView, Losses.everything, Losses.parts, Recoveries.ForLosses, Refusals.KeepsRoot, Refusals.LosesRoot}

-- what is reported is all that is lost of a file
abbrev pub IsAllLost : List ℕ → Meta → LostView → Type 0
IsAllLost file meta (everything x) = LosesRoot file meta x
IsAllLost file meta (parts reported) = KeepsRoot file meta × ForLosses file meta (λ losses. reported ≡ losses)
