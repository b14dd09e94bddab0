-- Lines are written, and they are counted.
use Rattle.std.proofs.Common.{◌≡◌, ◌∙◌, ◌<◌, ◌+◌, ◌++◌, ◌^◌, ℕ, List, [], ◌∷◌, append-nil, drop, get_or, length, length-append, map}
use Rattle.std.proofs.Common.{sym, ap, arith}
use Rattle.std.proofs.{lemmas.List.drop_more, lemmas.List.Folds.concat-append}
use Rattle.std.specs.{List.concat, Result.IsErrAnd}
use Rattle.std.specs.Prelude.{IsErr, Result}
use Rattle.bolt_check.specs.Counts.{counted}
use Rattle.bolt_format.proofs.Exports.{WroteFront, front_more, front_whole, Wrote-same}
use Rattle.bolt_format.specs.{Endings.broken, Endings.ending, Endings.whole, Wrote.Wrote, declared.sink.Sink.Ghosts}
use Rattle.bolt_format.specs.{declared.sink.SinkFault.SinkFault}
use Rattle.bolt_text.proofs.Exports.{Wrote-fault, front_broken}
use Rattle.bolt_text.specs.{ReportEndings.fault_ending, ReportEndings.report_ending, declared.report_fault.ReportFault.ReportFault}
use Rattle.bolt_tree.proofs.Exports.{counted_more}
use Rattle.bolt_etcd.specs.{Wire.ShownRevisions.shown_revision, declared.wire.revision.Revision.Revision}

-- of all lines, those that are left are still to be written, and the others were counted
pub record Listed {S : Type 0} (sink : Ghosts S) (old new : S) (all left : List (List ℕ)) (n : ℕ) : Type 0 where
  pub put : WroteFront sink old new (concat all) (concat left)
  pub number : counted n (length left) ≡ counted 0 (length all)
  pub fits : n < 2 ^ 64

module _ {S : Type 0} {sink : Ghosts S} {old mid : S} {all left : List (List ℕ)} {n : ℕ} (listed : Listed sink old mid all left n) where
  -- some lines more,
  pub listed_more : {new : S} (these rest : List (List ℕ)) (more : ℕ) → left ≡ these ++ rest → Wrote sink mid new (concat these) whole
      → more ≡ counted n (length these)
      → Listed sink old new all rest more
  listed_more these rest more first some next = grind (arith, front_more, concat-append, counted_more, length-append)

  -- or one
  pub listed_one : {new : S} (line : List ℕ) (rest : List (List ℕ)) (more : ℕ) → left ≡ line ∷ rest → Wrote sink mid new line whole
      → more ≡ counted n 1
      → Listed sink old new all rest more
  listed_one line rest more first one next = listed_more (line ∷ []) rest more first (Wrote-same (sym (append-nil line)) one) next

  pub listed_faults : {B : Type 0} {new : S} (these rest : List (List ℕ)) (result : Result B SinkFault) → left ≡ these ++ rest
      → Wrote sink mid new (concat these) broken → IsErr result
      → Wrote sink old new (concat all) (ending result)
  listed_faults these rest result first some err = front_broken (concat rest) result listed.put some (ap concat first ∙ concat-append these rest) err

  pub listed_fault : {B : Type 0} {new : S} (line : List ℕ) (rest : List (List ℕ)) (result : Result B SinkFault) → left ≡ line ∷ rest
      → Wrote sink mid new line broken → IsErr result
      → Wrote sink old new (concat all) (ending result)
  listed_fault line rest result first one err = front_broken (concat rest) result listed.put one (ap concat first) err

  pub listed_whole : left ≡ [] → Wrote sink old mid (concat all) whole
  listed_whole none = front_whole listed.put (ap concat none)

  pub listed_number : left ≡ [] → n ≡ counted 0 (length all)
  listed_number none = omega (arith, ap (λ (l : List (List ℕ)). counted n (length l)) none, listed.number, listed.fits)

-- ---- a fault that was passed on

pub Wrote-given : {S A : Type 0} {sink : Ghosts S} {old new : S} {text : List ℕ} (e : ReportFault) (result : Result A ReportFault)
    → Wrote sink old new text (fault_ending e)
    → IsErrAnd result (λ f. f ≡ e) → Wrote sink old new text (report_ending result)
Wrote-given {text = text} e result one is = Wrote-same (append-nil text) (Wrote-fault [] e result one is)

-- ---- three parts, one after another

pub counted_two : (a b : List (List ℕ)) (x y n : ℕ) → x ≡ counted 0 (length a) → y ≡ counted 0 (length b) → n ≡ counted x y
    → n ≡ counted 0 (length (a ++ b))
counted_two a b x y n is also sum = let long = length-append a b in omega (arith, is, also, sum, long)

pub counted_three : (a b c : List (List ℕ)) (x y z m n : ℕ) → x ≡ counted 0 (length a) → y ≡ counted 0 (length b) → z ≡ counted 0 (length c)
    → m ≡ counted x y → n ≡ counted m z
    → n ≡ counted 0 (length (a ++ (b ++ c)))
counted_three a b c x y z m n is also last sum more =
    omega (arith, counted_two a b x y m is also sum, length-append a b, length-append b c, length-append a (b ++ c))

-- ---- a list of texts

-- of those from number i on, the first and then the others
pub shown_at : (xs : List Revision) (i : ℕ) (x : Revision) → i < length xs → x ≡ get_or xs i x
    → map shown_revision (drop i xs) ≡ shown_revision x ∷ map shown_revision (drop (i + 1) xs)
shown_at xs i x within is = ap (map shown_revision) (drop_more xs i x within ∙ ap (λ (y : Revision). y ∷ drop (i + 1) xs) (sym is))
