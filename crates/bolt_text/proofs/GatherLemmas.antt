-- One text after another, gathered.
use Rattle.std.proofs.Common.{◌≡◌, ◌∙◌, ◌+◌, ℕ, suc, List, [], ◌∷◌, ◌++◌, Bor, Some, Result, add-one, ap, append_assoc, append-nil, drop, flat_map}
use Rattle.std.proofs.Common.{refl, slice_get, sym, take}
use Rattle.bolt_text.proofs.Vocabulary.{broken, ending, flat_map-take_more, Gathers, Ghosts, IsErr, later_parts, part_text, path_of, path_text}
use Rattle.bolt_text.proofs.Vocabulary.{separator, SinkFault, whole, Wrote, Wrote-return, Wrote-same, Wrote-then}
use Rattle.bolt_format.specs.Endings.{Ending, cut, halted}
use Rattle.bolt_text.specs.{Gathers.left_gathered, declared.path_pieces.PathForm.PathForm}
use Rattle.bolt_format.proofs.Exports.{flat_map-cut_at, broken_by}

none_gathered : (end : Ending) {gathers : List ℕ} → gathers ≡ [] → left_gathered end gathers ≡ []
none_gathered whole none = none
none_gathered cut none = refl
none_gathered broken none = refl
none_gathered halted none = refl

fault_gathered : {B : Type 0} (result : Result B SinkFault) (gathers : List ℕ) → IsErr result → left_gathered (ending result) gathers ≡ []
fault_gathered result gathers err = ap (λ end. left_gathered end gathers) (sym (broken_by result err))

module _ {S : Type 0} {sink : Ghosts S} where
  -- the same text in other words
  pub Gathers-same : {old new : S} {gathered gathers text same : List ℕ} {end : Ending} → text ≡ same → Gathers sink old new gathered gathers text end
      → Gathers sink old new gathered gathers same end
  Gathers-same {gathered} e a = record { front = a.front; parts = ap (λ l. gathered ++ l) (sym e) ∙ a.parts; wrote = a.wrote }

  -- what was gathered was written, and then the text
  pub Gathers-put : {old mid new : S} {gathered gathers text : List ℕ} {end : Ending} → gathers ≡ [] → Wrote sink old mid gathered whole
      → Wrote sink mid new text end → Gathers sink old new gathered gathers text end
  Gathers-put {gathered} {text} {end} none a b =
      record {
        front = gathered ++ text;
        parts = sym (append-nil (gathered ++ text)) ∙ ap (λ l. (gathered ++ text) ++ l) (sym (none_gathered end none));
        wrote = Wrote-then a b;
      }

  -- one text after another
  pub Gathers-then : {old mid new : S} {gathered more gathers first second : List ℕ} {end : Ending} → Gathers sink old mid gathered more first whole
      → Gathers sink mid new more gathers second end
      → Gathers sink old new gathered gathers (first ++ second) end
  Gathers-then {gathered} {more} {gathers} {first} {second} {end} a b = record {
    front = a.front ++ b.front;
    parts = sym (append_assoc gathered first second) ∙ ap (λ l. l ++ second) a.parts ∙ append_assoc a.front more second
        ∙ ap (λ l. a.front ++ l) b.parts ∙ sym (append_assoc a.front b.front (left_gathered end gathers));
    wrote = Wrote-then a.wrote b.wrote;
  }

  -- an early return
  pub Gathers-return : {B : Type 0} {old new : S} {gathered last gathers first : List ℕ} (second : List ℕ) (result : Result B SinkFault)
      → Gathers sink old new gathered last first broken → IsErr result → Gathers sink old new gathered gathers (first ++ second) (ending result)
  Gathers-return {gathered} {gathers} {first} second result a err = record {
    front = a.front ++ second;
    parts = sym (append_assoc gathered first second) ∙ ap (λ l. l ++ second) (a.parts ∙ append-nil a.front)
        ∙ sym (append-nil (a.front ++ second)) ∙ ap (λ l. (a.front ++ second) ++ l) (sym (fault_gathered result gathers err));
    wrote = Wrote-return second result a.wrote err;
  }

  -- what was gathered was not written whole
  pub Gathers-fault : {B : Type 0} {old new : S} {gathered : List ℕ} (gathers text : List ℕ) (result : Result B SinkFault)
      → Wrote sink old new gathered broken → IsErr result
      → Gathers sink old new gathered gathers text (ending result)
  Gathers-fault {gathered} gathers text result a err = record {
    front = gathered ++ text;
    parts = sym (append-nil (gathered ++ text)) ∙ ap (λ l. (gathered ++ text) ++ l) (sym (fault_gathered result gathers err));
    wrote = Wrote-return text result a err;
  }

  -- one element more
  pub Gathers-element : {X : Type 0} (f : X → List ℕ) (xs : List X) (i : ℕ) (x : X) {old mid new : S} {gathered more gathers : List ℕ} {end : Ending}
      → slice_get xs i ≡ Some x
      → Gathers sink old mid gathered more (flat_map f (take i xs)) whole → Gathers sink mid new more gathers (f x) end
      → Gathers sink old new gathered gathers (flat_map f (take (i + 1) xs)) end
  Gathers-element f xs i x found a b = Gathers-same (sym (ap (λ k. flat_map f (take k xs)) (add-one i) ∙ flat_map-take_more f xs i x found)) (Gathers-then a b)

  -- an element that was not added whole, after which no other is added
  pub Gathers-last_element : {X B : Type 0} (f : X → List ℕ) (xs : List X) (i : ℕ) (x : X) {old mid new : S} {gathered more last gathers : List ℕ}
      (result : Result B SinkFault)
      → slice_get xs i ≡ Some x → Gathers sink old mid gathered more (flat_map f (take i xs)) whole → Gathers sink mid new more last (f x) broken → IsErr result
      → Gathers sink old new gathered gathers (flat_map f xs) (ending result)
  Gathers-last_element f xs i x result found a b err =
      Gathers-same (sym (flat_map-cut_at f xs i x found)) (Gathers-then a (Gathers-return (flat_map f (drop (suc i) xs)) result b err))

  -- nothing was gathered at first, and what is gathered was then written, or not even that
  pub Wrote-gathered : {old mid new : S} {gathered gathers text : List ℕ} {end : Ending} → gathered ≡ []
      → Gathers sink old mid gathered gathers text whole → Wrote sink mid new gathers end → Wrote sink old new text end
  Wrote-gathered {text} none a b = Wrote-same (sym a.parts ∙ ap (λ h. h ++ text) none) (Wrote-then a.wrote b)

  pub Wrote-gathered_fault : {B : Type 0} {old new : S} {gathered text : List ℕ} (result : Result B SinkFault) → gathered ≡ [] → IsErr result
      → Gathers sink old new gathered [] text (ending result)
      → Wrote sink old new text (ending result)
  Wrote-gathered_fault {text} result none err a =
      Wrote-same (sym (append-nil a.front) ∙ ap (λ l. a.front ++ l) (sym (fault_gathered result [] err)) ∙ sym a.parts ∙ ap (λ h. h ++ text) none) a.wrote

-- a path: its first part, and each later one after a separator
pub path_parts : (form : PathForm) (first : Bor (List ℕ)) (rest : List (Bor (List ℕ)))
    → part_text form first.now ++ later_parts form rest ≡ path_text form (path_of (first ∷ rest))
path_parts form first [] = append-nil (part_text form first.now)
path_parts form first (next ∷ rest) = ap (λ (text : List ℕ). part_text form first.now ++ (separator form ∷ text)) (path_parts form next rest)
