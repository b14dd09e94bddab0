-- A copy, and in a snapshot its hash: what the target accepted of both.
use Rattle.std.proofs.Common.{◌≡◌, ◌≢◌, ◌∙◌, ◌+◌, ◌<◌, ℕ, List, [], Bool, true, false, arith, length, length-append, Option, Result, Ok, Err, ap, inl}
use Rattle.std.proofs.Common.{inr}
use Rattle.std.proofs.Common.{refl, subst, sym, rules}
use Rattle.bolt_commands.proofs.Vocabulary.{Appends, AppendsProperPrefix, AppendsProperPrefix-first, BulkFault, EndsCopy, Ghosts, HashesSince, Holds256}
use Rattle.bolt_commands.proofs.Vocabulary.{IsErrAnd, IsOk, Keeps, OnOk, Sha256, StopsShort, cases_lt, copy_failure, copy_of, length-sha256, sha256}
use Rattle.bolt_commands.proofs.Vocabulary.{too_many}
use Rattle.bolt_commands.proofs.HashLemmas.{short_with_hash, whole_with_hash}
use Rattle.bolt_bulk.specs.{Compacting.Copies, declared.members_copy.Done.Done}
use Rattle.bolt_bulk.specs.declared.bulk_fault.BulkFault.TheVariants as bulk

-- a proper prefix of the layout is one of the copy
proper_copy : (snapshot : Bool) (old new : Option (List ℕ)) (layout : List ℕ) → AppendsProperPrefix old new layout
    → AppendsProperPrefix old new (copy_of snapshot layout)
proper_copy false old new layout short = short
proper_copy true old new layout short = AppendsProperPrefix-first old new layout (sha256 layout) short

module _ {T : Type 0} (target : Ghosts T) (old mid : T) (layout : List ℕ) where
  -- the layout isn't whole
  stops_at : (snapshot : Bool) (e : BulkFault) → Copies target.taken target.failed old mid layout (Err e)
      → StopsShort target old mid layout (copy_of snapshot layout) (copy_failure e)
  stops_at snapshot bulk.Memory a =
      record { short = proper_copy snapshot _ _ layout a.short; why = a.other (λ bad. cc); large = λ h. (a.refuses h).1 }
  stops_at snapshot bulk.TooLarge a =
      record { short = proper_copy snapshot _ _ layout a.short; why = (a.large refl, a.other (λ bad. cc)); large = λ h. (a.refuses h).1 }
  stops_at snapshot bulk.Sink a =
      record { short = proper_copy snapshot _ _ layout a.short; why = a.failure refl; large = λ h. (a.refuses h).1 }

  pub layout_stops : (snapshot : Bool) (copy : Result Done BulkFault) (result : Result ℕ BulkFault) (e : BulkFault) → copy ≡ Err e
      → Copies target.taken target.failed old mid layout copy → IsErrAnd result (λ f. f ≡ e) → EndsCopy target old mid layout snapshot result
  layout_stops snapshot copy (Ok n) e is copies ends = absurd ends
  layout_stops snapshot copy (Err f) e is copies ends =
      stops_at snapshot f (subst (λ (r : Result Done BulkFault). Copies target.taken target.failed old mid layout r) (is ∙ ap Err (sym ends)) copies)

  module _ (copy : Result Done BulkFault) (done : Done) (is : copy ≡ Ok done) (copies : Copies target.taken target.failed old mid layout copy) where
    at_ok : Copies target.taken target.failed old mid layout (Ok done)
    at_ok = subst (λ (r : Result Done BulkFault). Copies target.taken target.failed old mid layout r) is copies

    -- none is written whole that has too many bytes
    small : length layout < too_many
    small = elim (cases_lt (length layout) too_many) [ inl less ↦ less | inr more ↦ absurd (search (rules, (at_ok.refuses more).0)) ]

    -- the copy is its layout
    pub layout_whole : (snapshot : Bool) → snapshot ≡ false → EndsCopy target old mid layout snapshot (Ok done.bytes)
    layout_whole snapshot plain =
        subst (λ (s : Bool). EndsCopy target old mid layout s (Ok done.bytes)) (sym plain)
        (record { small = small; all = at_ok.all; sound = at_ok.sound; long = at_ok.bytes })

    module _ (hash : Sha256) (digest : List ℕ) (ends : (m : List ℕ) → Holds256 hash m → digest ≡ sha256 m)
        (since : target.failed mid ≡ 0 → ∥ HashesSince (target.taken old) (target.taken mid) hash ∥₁) (new : T) where
      -- the layout is whole, and its hash isn't
      pub hash_stops : (result : Result ℕ BulkFault) → IsErrAnd result (λ f. f ≡ bulk.Sink)
          → (digest ≢ [] → AppendsProperPrefix (target.taken mid) (target.taken new) digest)
          → (0 < target.failed mid → Keeps (target.taken mid) (target.taken new)) → 0 < target.failed new → EndsCopy target old new layout true result
      hash_stops (Ok k) gives put keeps fails = absurd gives
      hash_stops (Err f) gives put keeps fails =
          subst (λ (e : BulkFault). StopsShort target old new layout (copy_of true layout) (copy_failure e)) (sym gives) (record {
            short =
                short_with_hash (target.taken old) (target.taken mid) (target.taken new) (target.failed mid) layout hash digest ends at_ok.all since put keeps;
            why = fails;
            large = λ h. absurd (omega (arith, small));
          })

      -- both are whole
      pub hash_whole : (k : ℕ) → Appends (target.taken mid) (target.taken new) digest → (0 < target.failed mid → ⊥)
          → target.failed new ≡ target.failed mid → (done.bytes < too_many → k ≡ done.bytes + 32) → EndsCopy target old new layout true (Ok k)
      hash_whole k put healthy sound counts = record {
        small = small;
        all =
            whole_with_hash (target.taken old) (target.taken mid) (target.taken new) (target.failed mid) layout hash digest ends at_ok.all since put healthy;
        sound = sound ∙ at_ok.sound;
        long =
            counts (subst (λ n. n < too_many) (sym at_ok.bytes) small) ∙ ap (λ n. n + 32) at_ok.bytes
            ∙ omega (arith, length-append layout (sha256 layout), length-sha256 layout);
      }

-- what holds of a layout that is whole, holds of a copy that is
pub only_after : {A B E F : Type 0} (X : Type 0) (first : Result A E) (second : Result B F) → OnOk second (IsOk first) → OnOk first X → OnOk second X
only_after X first (Err f) after x = tt
only_after X (Ok a) (Ok b) after x = x
only_after X (Err e) (Ok b) after x = absurd (cc after)
