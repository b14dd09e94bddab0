-- What holds of the lines that were decoded holds of the text.
use Rattle.std.proofs.Common.{arith, ◌≡◌, List, ◌++◌, Option}
use Rattle.std.proofs.lemmas.Grind.{common_steps}
use Rattle.bolt_load.proofs.Words.{IfSome, IsFaultOfLines, IsLoadFault, LineFault, lines_of, StopsAt, Text}
use Rattle.std.specs.Option.{IfNone}
use Rattle.std.specs.Prelude.{IfErr, IsErrAnd, Result}
use Rattle.bolt_load.specs.{declared.load_fault.LoadFault.LoadFault}

module _ (text decoded : Text) where
  goes_on : (fault : Option LineFault) → IfNone fault (decoded ≡ text) → IfSome fault (StopsAt text decoded)
      → (more : List Text) × (lines_of text ≡ lines_of decoded ++ more)
  goes_on fault same stops = grind (arith, common_steps, lines_of)

  pub earlier_fault : (stop : Option LineFault) → IfNone stop (decoded ≡ text) → IfSome stop (StopsAt text decoded) → (fault : LoadFault)
      → IsFaultOfLines decoded fault → IsLoadFault text fault
  earlier_fault stop same stops fault is = grind (arith, common_steps, goes_on)

pub reported : {T : Type 0} (result : Result T LoadFault) (fault : LoadFault) (P : LoadFault → Type 0) → IsErrAnd result (λ said. said ≡ fault)
    → P fault → IfErr result P
reported result fault P is holds = grind arith
