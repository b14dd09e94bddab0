-- What a call that writes pages leaves on its sink, and when it returns TooLarge.
use Rattle.std.specs.Prelude.{◌≡◌, ◌<◌, ℕ, List, IfErr, OnErr, OnOk, Result}
use Rattle.bolt_format.specs.{Endings.page_ending, Sinks.AppendsProperPrefix, Wrote.Wrote, declared.sink.Sink.Ghosts}
use Rattle.bolt_layout.specs.{Laid.Placed, Layout.placed_bytes}
use Rattle.bolt_bulk.specs.{BulkEndings.bulk_ending, declared.bulk_fault.BulkFault.BulkFault, declared.page_setup.PageSetup.PageSetup}
use Rattle.bolt_bulk.specs.declared.bulk_fault.BulkFault.TheVariants as fault

-- A piece of a page is written. If the call fails, some of it is left out.
abbrev pub WritesText : {S A E : Type 0} → Ghosts S → (old new : S) → List ℕ → Result A E → Type 0
WritesText sink old new text result = Wrote sink old new text (page_ending result)

-- the pages are written, or a prefix of their bytes if the call fails
abbrev pub Puts : {S A : Type 0} → Ghosts S → (old new : S) → PageSetup → List Placed → Result A BulkFault → Type 0
Puts sink old new setup pages result = Wrote sink old new (placed_bytes setup.page_size pages) (bulk_ending result)

-- a call that fails leaves out some of the bytes of its pages
abbrev pub LeavesOut : {S A : Type 0} → Ghosts S → (old new : S) → PageSetup → List Placed → Result A BulkFault → Type 0
LeavesOut sink old new setup pages result = OnErr result (AppendsProperPrefix (sink.taken old) (sink.taken new) (placed_bytes setup.page_size pages))

-- TooLarge is returned only if the mark after these pages is above the highest one
abbrev pub OnlyAbove : {A : Type 0} → PageSetup → (high_water : ℕ) → Result A BulkFault → Type 0
OnlyAbove setup high_water result = IfErr result (λ e. e ≡ fault.TooLarge → setup.greatest_high_water < high_water)

module _ {S A : Type 0} (sink : Ghosts S) (old new : S) (setup : PageSetup) (row : List Placed) (high_water : ℕ) where
  -- A call writes pages up to this mark.
  pub record Writes (result : Result A BulkFault) : Type 0 where
    pub pages : Puts sink old new setup row result
    pub large : OnlyAbove setup high_water result

  -- Open runs close, which writes these pages. If the call fails, it leaves some of their bytes out. `next` is the next number then.
  pub record Closes (next : ℕ) (result : Result A BulkFault) : Type 0 where
    pub writes : Writes result
    pub short : LeavesOut sink old new setup row result
    pub marked : OnOk result (next ≡ high_water)
