-- A text written piece by piece.
use Rattle.std.proofs.Common.{◌≡◌, ◌∙◌, ℕ, List, [], ◌++◌, refl, sym, ap, append_assoc, append-nil}
use Rattle.std.specs.Prelude.{IsErr, Result}
use Rattle.bolt_format.specs.{Endings.Ending, Endings.cut, Endings.page_ending, Endings.whole, Wrote.Wrote, declared.sink.Sink.Ghosts}
use Rattle.bolt_format.proofs.WroteLemmas.{Wrote-none, Wrote-return_cut, Wrote-same, Wrote-then}

-- a text of which a front was written: what is left
pub record WroteFront {S : Type 0} (sink : Ghosts S) (old new : S) (text rest : List ℕ) : Type 0 where
  pub front : List ℕ
  pub parts : text ≡ front ++ rest
  pub wrote : Wrote sink old new front whole

pub front_none : {S : Type 0} {sink : Ghosts S} (old : S) (text : List ℕ) → WroteFront sink old old text text
front_none old text = record { front = []; parts = refl; wrote = Wrote-none old }

-- the next piece was written;
pub front_more : {S : Type 0} {sink : Ghosts S} {old mid new : S} {text piece rest left : List ℕ} → WroteFront sink old mid text left
    → Wrote sink mid new piece whole → left ≡ piece ++ rest → WroteFront sink old new text rest
front_more {piece = piece} {rest = rest} before one e = record {
  front = before.front ++ piece;
  parts = before.parts ∙ (ap (λ (xs : List ℕ). before.front ++ xs) e ∙ sym (append_assoc before.front piece rest));
  wrote = Wrote-then before.wrote one;
}

-- what is left, in other words;
pub front_same : {S : Type 0} {sink : Ghosts S} {old new : S} {text left rest : List ℕ} → WroteFront sink old new text left → left ≡ rest
    → WroteFront sink old new text rest
front_same before e = record { front = before.front; parts = before.parts ∙ ap (λ (xs : List ℕ). before.front ++ xs) e; wrote = before.wrote }

-- what is left was written, in whatever way that ended,
pub front_stop : {S : Type 0} {sink : Ghosts S} {old mid new : S} {text rest left : List ℕ} {end : Ending} → WroteFront sink old mid text left
    → Wrote sink mid new rest end → left ≡ rest → Wrote sink old new text end
front_stop before one e = Wrote-same (sym before.parts) (Wrote-then before.wrote (Wrote-same (sym e) one))

-- or not the whole of it;
pub front_return : {S A E : Type 0} {sink : Ghosts S} {old mid new : S} {text piece left : List ℕ} (rest : List ℕ) (result : Result A E)
    → WroteFront sink old mid text left
    → Wrote sink mid new piece cut → left ≡ piece ++ rest → IsErr result → Wrote sink old new text (page_ending result)
front_return rest result before one e err = front_stop before (Wrote-return_cut rest result one err) e

-- and if nothing is left, the whole was written.
pub front_whole : {S : Type 0} {sink : Ghosts S} {old new : S} {text rest : List ℕ} → WroteFront sink old new text rest → rest ≡ []
    → Wrote sink old new text whole
front_whole before none = Wrote-same (sym (before.parts ∙ (ap (λ (xs : List ℕ). before.front ++ xs) none ∙ append-nil before.front))) before.wrote

-- for the search
pub ruleset fronts = (front_none, front_more, front_whole)
