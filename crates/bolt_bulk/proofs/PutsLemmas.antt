-- What a call that writes pages leaves on its sink, if it can also fail because memory runs out or the layout is too large.
use Rattle.std.proofs.{lemmas.Grind.common_steps, KnownBytes.Appends-nil, lemmas.List.length-append, lemmas.Result.err_from_is_err_and}
use Rattle.std.proofs.Common.{◌≡◌, ◌≢◌, ℕ, ◌<◌, ◌≤◌, List, [], ◌∷◌, ◌++◌, length, OnErr, Option, Result, Ok, Err, refl, ap, subst, arith}
use Rattle.std.proofs.Common.{append_assoc}
use Rattle.bolt_format.proofs.Exports.{AppendsPrefix-whole, AppendsProperPrefix-first, AppendsProperPrefix-second, more_some, Wrote-halt, Wrote-none}
use Rattle.bolt_format.proofs.Exports.{Wrote-return_cut, Wrote-stop, Wrote-stop_cut, Wrote-stop_halted, Wrote-then, Wrote-unkept, length-header_bytes}
use Rattle.bolt_format.proofs.Exports.{WroteFront}
use Rattle.bolt_format.specs.{Endings.whole, Endings.halted, Pages.PageView, Sinks.AppendsProperPrefix, Wrote.Wrote, declared.sink.Sink.Ghosts}
use Rattle.bolt_layout.specs.{Laid.Placed, Layout.placed_bytes, PageBytes.page_bytes}
use Rattle.bolt_bulk.specs.{BulkEndings.bulk_fault_ending, Private.Closes, Private.Writes, declared.bulk_fault.BulkFault.BulkFault}
use Rattle.bolt_bulk.specs.{declared.page_setup.PageSetup.PageSetup}
use Rattle.std.specs.Prelude.{IfErr, IsErrAnd}
use Rattle.bolt_bulk.specs.declared.bulk_fault.BulkFault.TheVariants as fault

-- Nothing is a proper prefix of a text that has any bytes.
pub proper_none : (old : Option (List ℕ)) (text : List ℕ) → text ≢ [] → AppendsProperPrefix old old text
proper_none old text some = record { front = []; rest = text; parts = refl; short = some; taken = Appends-nil old }

pub proper_same : (old new : Option (List ℕ)) (text same : List ℕ) → text ≡ same → AppendsProperPrefix old new text → AppendsProperPrefix old new same
proper_same old new text same e a = subst (λ (l : List ℕ). AppendsProperPrefix old new l) e a

-- a page has a header
page_length : (page_size number : ℕ) (view : PageView) → 16 ≤ length (page_bytes page_size number view)
unfolding page_bytes
page_length page_size number view = grind (arith, length-append, length-header_bytes)

none_length : (xs : List ℕ) → xs ≡ [] → length xs ≡ 0
none_length xs e = ap (λ (ys : List ℕ). length ys) e

page_some : (page_size number : ℕ) (view : PageView) → page_bytes page_size number view ≢ []
page_some page_size number view e = let l = page_length page_size number view in grind (arith, none_length)

pub pages_some : (page_size : ℕ) (page : Placed) (pages : List Placed) → placed_bytes page_size (page ∷ pages) ≢ []
pages_some page_size page pages =
    more_some (page_bytes page_size page.number page.view) (placed_bytes page_size pages) (page_some page_size page.number page.view)

-- the bytes of two rows of pages are those of the first and then those of the second
pub bytes-append : (page_size : ℕ) (xs ys : List Placed) → placed_bytes page_size (xs ++ ys) ≡ placed_bytes page_size xs ++ placed_bytes page_size ys
bytes-append page_size [] ys = refl
bytes-append page_size (x ∷ xs) ys = grind (arith, append_assoc, bytes-append page_size xs ys)

-- a fault is passed on, and the second text is left out
pub Wrote-stops : {S : Type 0} {sink : Ghosts S} {old new : S} {first : List ℕ} (second : List ℕ) (e : BulkFault)
    → Wrote sink old new first (bulk_fault_ending e) → Wrote sink old new (first ++ second) (bulk_fault_ending e)
Wrote-stops second e a = grind (arith, common_steps)

-- memory ran out after the text
pub Wrote-gave_up : {S : Type 0} {sink : Ghosts S} {old new : S} {text : List ℕ} → Wrote sink old new text whole → Wrote sink old new text halted
Wrote-gave_up {sink} {old} {new} {text} a = record { appends = AppendsPrefix-whole (sink.taken old) (sink.taken new) text a.appends; failures = a.failures }

-- the fault is Sink only if the sink failed,
pub Wrote-failed : {S : Type 0} {sink : Ghosts S} {old new : S} {text : List ℕ} (e : BulkFault) → Wrote sink old new text (bulk_fault_ending e)
    → e ≡ fault.Sink → 0 < sink.failed new
Wrote-failed e a is = grind arith

-- if the second call leaves something out, so do both
pub short_then : {S A E : Type 0} {sink : Ghosts S} (old mid new : S) (first second : List ℕ) (result : Result A E)
    → Wrote sink old mid first whole → OnErr result (AppendsProperPrefix (sink.taken mid) (sink.taken new) second)
    → OnErr result (AppendsProperPrefix (sink.taken old) (sink.taken new) (first ++ second))
short_then old mid new first second (Ok y) a b = tt
short_then {sink} old mid new first second (Err e) a b = AppendsProperPrefix-second (sink.taken old) (sink.taken mid) (sink.taken new) first second a.appends b

module _ {S : Type 0} {sink : Ghosts S} {old new : S} {setup : PageSetup} {first : List Placed} (second : List Placed) where
  -- a fault is returned on
  pub writes_stop : {A B : Type 0} {high_water last : ℕ} {e : BulkFault} {result : Result B BulkFault} → IsErrAnd result (λ f. f ≡ e)
      → high_water ≤ last → Writes {A = A} sink old new setup first high_water (Err e)
      → Writes sink old new setup (first ++ second) last result
  writes_stop {result = result} same more one =
      let (_, is, e_is) = err_from_is_err_and result same in
      rw (is, e_is) (record { pages = rw bytes-append (Wrote-stops _ _ one.pages); large = λ e. let l = one.large e in omega arith })

  pub closes_stop : {A B : Type 0} {high_water last next later : ℕ} {e : BulkFault} {result : Result B BulkFault} → IsErrAnd result (λ f. f ≡ e)
      → high_water ≤ last → Closes {A = A} sink old new setup first high_water next (Err e)
      → Closes sink old new setup (first ++ second) last later result
  closes_stop {result = result} same more one =
      let (_, is, e_is) = err_from_is_err_and result same in
      record { writes = writes_stop same more one.writes; short = rw is (rw bytes-append (AppendsProperPrefix-first _ _ _ _ one.short)); marked = rw is tt }

-- nothing was written yet
pub closes_early : {S A : Type 0} {sink : Ghosts S} {old : S} {setup : PageSetup} {page : Placed} {pages : List Placed} {high_water next : ℕ}
    {e : BulkFault} {result : Result A BulkFault}
    → IsErrAnd result (λ f. f ≡ e) → e ≡ fault.Memory
    → Closes sink old old setup (page ∷ pages) high_water next result
closes_early {sink} {old} {setup} {page} {pages} {result = result} same memory =
    let (_, is, e_is) = err_from_is_err_and result same in
    grind (arith, common_steps, proper_none, pages_some)

-- there is no number for a page,
pub closes_above : {S A : Type 0} {sink : Ghosts S} {old : S} {setup : PageSetup} {page : Placed} {pages : List Placed} {high_water next : ℕ}
    {e : BulkFault} {result : Result A BulkFault}
    → IsErrAnd result (λ f. f ≡ e) → e ≡ fault.TooLarge
    → setup.greatest_high_water < high_water → Closes sink old old setup (page ∷ pages) high_water next result
closes_above {sink} {old} {setup} {page} {pages} {result = result} same large above =
    let (_, is, e_is) = err_from_is_err_and result same in grind (arith, common_steps, proper_none, pages_some, Wrote-halt)

-- nothing is written after these pages
pub writes_on : {S A B : Type 0} {sink : Ghosts S} {old new : S} {setup : PageSetup} {row : List Placed} {high_water : ℕ} {x : A} (result : Result B BulkFault)
    → IfErr result (λ e. e ≡ fault.Memory)
    → Writes {A = A} sink old new setup row high_water (Ok x) → Writes sink old new setup row high_water result
writes_on result memory one = grind (arith, common_steps)

pub short_stop : {S : Type 0} {sink : Ghosts S} {old mid new : S} {text piece left : List ℕ} (rest : List ℕ) → left ≡ piece ++ rest
    → WroteFront sink old mid text left → AppendsProperPrefix (sink.taken mid) (sink.taken new) piece
    → AppendsProperPrefix (sink.taken old) (sink.taken new) text
short_stop {sink} {old} {mid} {new} {text} {piece} {left} rest same before one = grind (arith, AppendsProperPrefix-second, AppendsProperPrefix-first)

-- one text after another
pub ruleset puts = (Wrote-then, Wrote-return_cut, Wrote-stop_cut, Wrote-none, Wrote-unkept)
