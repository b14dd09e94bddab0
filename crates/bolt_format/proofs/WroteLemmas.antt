-- One text after another on a sink.
use Rattle.std.proofs.Common.{◌≡◌, ◌∙◌, ◌+◌, ℕ, suc, List, [], ◌++◌, None, Option, Some, Result, Ok, Err, add-one, ap, drop, flat_map, length, refl}
use Rattle.std.proofs.Common.{slice_get, subst, sym, take}
use Rattle.std.proofs.{Math.Seq.take-length, KnownBytes.Appends-nil, KnownBytes.Appends-trans}
use Rattle.std.specs.Prelude.{IsErr}
use Rattle.std.specs.Io.KnownBytes.{Appends}
use Rattle.bolt_format.proofs.ListLemmas.{flat_map-cut_at, flat_map-take_more}
use Rattle.bolt_format.proofs.SinkLemmas.{AppendsPrefix-first, AppendsPrefix-none, AppendsPrefix-second, AppendsProperPrefix-first}
use Rattle.bolt_format.proofs.SinkLemmas.{AppendsProperPrefix-second}
use Rattle.bolt_format.specs.{Endings.Ending, Endings.whole, Endings.cut, Endings.broken, Endings.halted, Endings.ending, Endings.page_ending}
use Rattle.bolt_format.specs.{Wrote.Wrote, declared.sink.Sink.Ghosts}
use Rattle.bolt_format.specs.declared.sink.SinkFault.{SinkFault}

-- nothing is put
pub Wrote-none : {S : Type 0} {sink : Ghosts S} (old : S) → Wrote sink old old [] whole
Wrote-none {sink} old = record { appends = Appends-nil (sink.taken old); failures = refl }

-- the first text whole, and then the second
pub Wrote-then : {S : Type 0} {sink : Ghosts S} {old mid new : S} {first second : List ℕ} {end : Ending}
    → Wrote sink old mid first whole → Wrote sink mid new second end → Wrote sink old new (first ++ second) end
Wrote-then {sink} {old} {mid} {new} {first} {second} {end = whole} a b = record {
  appends = Appends-trans (sink.taken old) (sink.taken mid) (sink.taken new) first second a.appends b.appends;
  failures = b.failures ∙ a.failures;
}
Wrote-then {sink} {old} {mid} {new} {first} {second} {end = cut} a b = record {
  appends = AppendsProperPrefix-second (sink.taken old) (sink.taken mid) (sink.taken new) first second a.appends b.appends;
  failures = b.failures;
}
Wrote-then {sink} {old} {mid} {new} {first} {second} {end = broken} a b = record {
  appends = AppendsPrefix-second (sink.taken old) (sink.taken mid) (sink.taken new) first second a.appends b.appends;
  failures = b.failures;
}
Wrote-then {sink} {old} {mid} {new} {first} {second} {end = halted} a b = record {
  appends = AppendsPrefix-second (sink.taken old) (sink.taken mid) (sink.taken new) first second a.appends b.appends;
  failures = b.failures ∙ a.failures;
}

-- a prefix of the first text, and then nothing
pub Wrote-stop : {S : Type 0} {sink : Ghosts S} {old new : S} {first : List ℕ} (second : List ℕ)
    → Wrote sink old new first broken → Wrote sink old new (first ++ second) broken
Wrote-stop {sink} {old} {new} {first} second a = record {
  appends = AppendsPrefix-first (sink.taken old) (sink.taken new) first second a.appends;
  failures = a.failures;
}

pub Wrote-stop_cut : {S : Type 0} {sink : Ghosts S} {old new : S} {first : List ℕ} (second : List ℕ)
    → Wrote sink old new first cut → Wrote sink old new (first ++ second) cut
Wrote-stop_cut {sink} {old} {new} {first} second a = record {
  appends = AppendsProperPrefix-first (sink.taken old) (sink.taken new) first second a.appends;
  failures = a.failures;
}

pub Wrote-stop_halted : {S : Type 0} {sink : Ghosts S} {old new : S} {first : List ℕ} (second : List ℕ)
    → Wrote sink old new first halted → Wrote sink old new (first ++ second) halted
Wrote-stop_halted {sink} {old} {new} {first} second a = record {
  appends = AppendsPrefix-first (sink.taken old) (sink.taken new) first second a.appends;
  failures = a.failures;
}

-- the same text in other words
pub Wrote-same : {S : Type 0} {sink : Ghosts S} {old new : S} {text same : List ℕ} {end : Ending}
    → text ≡ same → Wrote sink old new text end → Wrote sink old new same end
Wrote-same {sink} {old} {new} {end} e a = subst (λ l. Wrote sink old new l end) e a

-- a call that ends as another did
pub Wrote-ends : {S : Type 0} {sink : Ghosts S} {old new : S} {text : List ℕ} {end same : Ending} → end ≡ same → Wrote sink old new text end
    → Wrote sink old new text same
Wrote-ends {sink} {old} {new} {text} e a = subst (λ end. Wrote sink old new text end) e a

-- a fault that was passed on
pub broken_by : {B : Type 0} (result : Result B SinkFault) → IsErr result → broken ≡ ending result
broken_by (Ok y) err = absurd (cc)
broken_by (Err f) err = refl

pub cut_by : {B E : Type 0} (result : Result B E) → IsErr result → cut ≡ page_ending result
cut_by (Ok y) err = absurd (cc)
cut_by (Err f) err = refl

-- an early return
pub Wrote-return : {S B : Type 0} {sink : Ghosts S} {old new : S} {first : List ℕ} (second : List ℕ) (result : Result B SinkFault)
    → Wrote sink old new first broken → IsErr result → Wrote sink old new (first ++ second) (ending result)
Wrote-return second result a err = Wrote-ends (broken_by result err) (Wrote-stop second a)

pub Wrote-return_cut : {S B E : Type 0} {sink : Ghosts S} {old new : S} {first : List ℕ} (second : List ℕ) (result : Result B E)
    → Wrote sink old new first cut → IsErr result → Wrote sink old new (first ++ second) (page_ending result)
Wrote-return_cut second result a err = Wrote-ends (cut_by result err) (Wrote-stop_cut second a)

-- nothing is put, and the call gave up
pub Wrote-halt : {S : Type 0} {sink : Ghosts S} (old : S) (text : List ℕ) → Wrote sink old old text halted
Wrote-halt {sink} old text = record { appends = AppendsPrefix-none (sink.taken old) text; failures = refl }

-- a sink that keeps nothing, which isn't given the text
pub Wrote-unkept : {S : Type 0} {sink : Ghosts S} (old : S) (text : List ℕ) → sink.taken old ≡ None → Wrote sink old old text whole
Wrote-unkept {sink} old text none = record { appends = subst (λ (t : Option (List ℕ)). Appends t t text) (sym none) tt; failures = refl }

-- one element more
pub Wrote-element : {S X : Type 0} {sink : Ghosts S} (f : X → List ℕ) (xs : List X) (i : ℕ) (x : X) {old mid new : S} {end : Ending}
    → slice_get xs i ≡ Some x
    → Wrote sink old mid (flat_map f (take i xs)) whole → Wrote sink mid new (f x) end → Wrote sink old new (flat_map f (take (i + 1) xs)) end
Wrote-element f xs i x found a b =
    Wrote-same (sym (ap (λ k. flat_map f (take k xs)) (add-one i) ∙ flat_map-take_more f xs i x found)) (Wrote-then a b)

-- an element that was not put whole, after which no other is put
pub Wrote-element_return : {S X B : Type 0} {sink : Ghosts S} (f : X → List ℕ) (xs : List X) (i : ℕ) (x : X) {old mid new : S} (result : Result B SinkFault)
    → slice_get xs i ≡ Some x
    → Wrote sink old mid (flat_map f (take i xs)) whole → Wrote sink mid new (f x) broken → IsErr result → Wrote sink old new (flat_map f xs) (ending result)
Wrote-element_return f xs i x result found a b err =
    Wrote-same (sym (flat_map-cut_at f xs i x found)) (Wrote-then a (Wrote-return (flat_map f (drop (suc i) xs)) result b err))

-- all elements
pub Wrote-elements : {S X : Type 0} {sink : Ghosts S} (f : X → List ℕ) (xs : List X) (count : ℕ) {old new : S} {end : Ending} → length xs ≡ count
    → Wrote sink old new (flat_map f (take count xs)) end → Wrote sink old new (flat_map f xs) end
Wrote-elements f xs count all a = Wrote-same (ap (λ k. flat_map f (take k xs)) (sym all) ∙ ap (flat_map f) (take-length xs)) a

-- the first text whole, and an early return in the second
pub Wrote-then_return : {S B : Type 0} {sink : Ghosts S} {old mid new : S} {first second : List ℕ} (third : List ℕ) (result : Result B SinkFault)
    → Wrote sink old mid first whole → Wrote sink mid new second broken → IsErr result → Wrote sink old new (first ++ (second ++ third)) (ending result)
Wrote-then_return third result a b err = Wrote-then a (Wrote-return third result b err)

pub ruleset wrote = (Wrote-then, Wrote-return, Wrote-then_return, Wrote-none)
