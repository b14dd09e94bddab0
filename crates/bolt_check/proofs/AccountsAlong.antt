-- The accounts depend on which pages are used and on what the freelist shows, and not on how that is said or in which file it is.
use Rattle.std.proofs.Common.{arith, ◌≡◌, ◌≢◌, ◌∙◌, ◌↔◌, ℕ, List, None, refl, sym}
use Rattle.bolt_check.proofs.Words.{AreAccountFindings, bad, Finding, free_ids_of, freelist_fault_of, HasAccounts, IsFree, IsFreelistFinding}
use Rattle.bolt_check.proofs.Words.{IsInFreelist, IsInUse, Meta, NO_FREELIST, page_overflow, shared, times_in}
use Rattle.bolt_check.proofs.AccountLemmas.{IsAlike, alike_back, finding_along}

-- the freelists of two files show the same under a meta
pub record SameFreelist (file other : List ℕ) (meta : Meta) : Type 0 where
  pub fault : freelist_fault_of other meta ≡ freelist_fault_of file meta
  pub ids : freelist_fault_of file meta ≡ None → free_ids_of other meta ≡ free_ids_of file meta
  pub overflow : meta.freelist ≢ NO_FREELIST → freelist_fault_of file meta ≡ None
      → page_overflow other meta meta.freelist ≡ page_overflow file meta meta.freelist

pub own_freelist : (file : List ℕ) (meta : Meta) → SameFreelist file file meta
own_freelist file meta = record { fault = refl; ids = λ _. refl; overflow = λ _ _. refl }

pub freelist_back : (file other : List ℕ) (meta : Meta) → SameFreelist file other meta → SameFreelist other file meta
freelist_back file other meta same = grind arith

in_freelist_along : (file other : List ℕ) (meta : Meta) → SameFreelist file other meta → (n : ℕ) → IsInFreelist file meta n
    → IsInFreelist other meta n
in_freelist_along file other meta same n is = grind arith

in_use_along : (file other : List ℕ) (meta : Meta) → SameFreelist file other meta → (used also : ℕ → Type 0) → ((n : ℕ) → used n → also n)
    → (n : ℕ) → IsInUse file meta used n → IsInUse other meta also n
in_use_along file other meta same used also to n h = grind arith

free_along : (high_water : ℕ) (in_use also : ℕ → Type 0) → ((n : ℕ) → also n → in_use n) → (n : ℕ) → IsFree high_water in_use n
    → IsFree high_water also n
free_along high_water in_use also back n free = record { above_metas = free.above_metas; below = free.below; unused = λ is. free.unused (back n is) }

pub has_accounts_along : (file other : List ℕ) (meta : Meta) → SameFreelist file other meta → (used also : ℕ → Type 0) → ((n : ℕ) → used n ↔ also n)
    → HasAccounts file meta used → HasAccounts other meta also
has_accounts_along file other meta same used also alike has =
    let back = freelist_back file other meta same in
    let there = in_use_along file other meta same used also (λ k. (alike k).0) in
    let here = in_use_along other file meta back also used (λ k. (alike k).1) in
    record {
      good = same.fault ∙ has.good;
      apart = λ n is at. has.apart n (in_freelist_along other file meta back n is) ((alike n).1 at);
      lists = λ ids e. let lists = has.lists ids (sym (same.ids has.good) ∙ e) in record {
        free = λ n one. free_along meta.high_water _ _ here n (lists.free n one);
        once = lists.once;
        listed = λ n free. lists.listed n (free_along meta.high_water _ _ there n free);
      };
    }

module _ (file : List ℕ) (meta : Meta) where
  page_finding_along : (used also : ℕ → Type 0) → ((n : ℕ) → used n ↔ also n) → (x : Finding) → IsFreelistFinding file meta used x
      → IsFreelistFinding file meta also x
  page_finding_along used also same x h = grind (arith, bad, shared)

  pub account_findings_along : (used also : ℕ → Type 0) → ((n : ℕ) → used n ↔ also n) → (findings : List Finding)
      → AreAccountFindings file meta used findings → AreAccountFindings file meta also findings
  account_findings_along used also same findings reported =
      let there = page_finding_along used also same in
      let back = page_finding_along also used (λ n. ((same n).1, (same n).0)) in
      let own = own_freelist file meta in
      record {
        written = reported.written;
        of_page = λ x is. reported.of_page x (back x is);
        rises = λ none. reported.rises (λ x is. none x (there x is));
        exact = λ none ids e x.
            let exact = reported.exact (λ y is. none y (there y is)) ids e x in
            let alike : IsAlike (IsInUse file meta used) (IsInUse file meta also) (times_in ids) (times_in ids) = record {
              there = in_use_along file file meta own used also (λ n. (same n).0);
              back = in_use_along file file meta own also used (λ n. (same n).1);
              counted = λ n. refl;
            } in (
              λ in_list. finding_along meta.high_water _ _ _ _ alike x (exact.0 in_list),
              λ is. exact.1 (finding_along meta.high_water _ _ _ _ (alike_back _ _ _ _ alike) x is),
            );
      }
