-- Bytes after the last page below the high-water mark: each page and the freelist show what they did, so the file stays sound.
use Rattle.std.proofs.Common.{arith, ◌≡◌, ◌≢◌, ◌==◌, ℕ, List, ◌++◌, Bool, true, false, Option, Some, None, cond, ap, refl}
use Rattle.std.proofs.lemmas.Bool.{eq-eqb, ne_eqb}
use Rattle.bolt_format.specs.Freelists.{free_ids_at, free_ids_of, freelist_fault, freelist_fault_of}
use Rattle.bolt_format.specs.{Pages.page_overflow, Pages.span_fault, declared.meta.Meta.Meta, declared.meta.TheConstants.NO_FREELIST}
use Rattle.bolt_format.proofs.Exports.{first_of-none}
use Rattle.bolt_check.proofs.Exports.{SameFreelist, Agree, accounts_along, trees_along}
use Rattle.bolt_check.specs.Sound.{IsSound}
use Rattle.bolt_etcd.specs.Check.WholeFiles.{HasAllPages}
use Rattle.bolt_etcd.proofs.TrailingBytes.{below_of, bytes_more, count_more, fault_more, flags_more, overflow_more, shown_more, span_more}
use Rattle.bolt_etcd.proofs.TrailingMetas.{in_slot_more}

module _ (file more : List ℕ) (meta : Meta) (all : HasAllPages file meta) where
  abbrev longer : List ℕ
  longer = file ++ more

  freelist_by : (id : ℕ) (o : Option ℕ) → span_fault file meta id ≡ o → freelist_fault longer meta id ≡ freelist_fault file meta id
  unfolding freelist_fault
  freelist_by id (Some fault) is = rw (span_more file more meta all id, is) refl
  freelist_by id None is = grind (arith, below_of, span_more, flags_more, count_more, bytes_more)

  own_fault : freelist_fault_of longer meta ≡ freelist_fault_of file meta
  own_fault = ap (λ (o : Option ℕ). cond (meta.freelist == NO_FREELIST) None o) (freelist_by meta.freelist (span_fault file meta meta.freelist) refl)

  -- the span of a good freelist that was written passes its tests
  freelist_passes : meta.freelist ≢ NO_FREELIST → freelist_fault_of file meta ≡ None → span_fault file meta meta.freelist ≡ None
  unfolding freelist_fault
  freelist_passes written good = grind (arith, ne_eqb, first_of-none)

  overflow_same : meta.freelist ≢ NO_FREELIST → freelist_fault_of file meta ≡ None
      → page_overflow longer meta meta.freelist ≡ page_overflow file meta meta.freelist
  overflow_same written good = overflow_more file more meta all meta.freelist (below_of file more meta all meta.freelist (freelist_passes written good))

  module _ (good : freelist_fault_of file meta ≡ None) where
    ids_at : meta.freelist ≢ NO_FREELIST → free_ids_at longer meta meta.freelist ≡ free_ids_at file meta meta.freelist
    unfolding free_ids_at
    ids_at written = grind (arith, freelist_passes, count_more, below_of, bytes_more)

    ids_by : (b : Bool) → (meta.freelist == NO_FREELIST) ≡ b → free_ids_of longer meta ≡ free_ids_of file meta
    ids_by true is = rw is refl
    ids_by false is =
        ap (λ (ids : List ℕ). cond (meta.freelist == NO_FREELIST) None (Some ids))
        (ids_at (λ same. absurd (let listed = eq-eqb meta.freelist NO_FREELIST same in cc)))

    ids_more : free_ids_of longer meta ≡ free_ids_of file meta
    ids_more = ids_by (meta.freelist == NO_FREELIST) refl

  same_freelist : SameFreelist file longer meta
  same_freelist = record { fault = own_fault; ids = ids_more; overflow = overflow_same }

  pub agree_more : Agree file longer meta
  agree_more = record { shown = shown_more file more meta all; fault = fault_more file more meta all; freelist = same_freelist }

  pub sound_more : (accounts : Bool) → IsSound file meta accounts → IsSound longer meta accounts
  sound_more accounts sound = record {
    slot = sound.slot;
    valid = in_slot_more file more sound.slot meta sound.valid;
    trees = trees_along file longer meta agree_more sound.trees;
    right = λ tested. accounts_along file longer meta agree_more (sound.right tested);
  }
