-- There is one list of findings of the accounts.
use Rattle.std.proofs.Common.{◌≡◌, ◌≢◌, ◌⊎◌, ℕ, List, [], ◌∷◌, Option, Some, None, ap, refl, inl, inr, arith}
use Rattle.bolt_lemmas.proofs.Exports.{contains_from_has, has_from_contains, one_list, rises_from_pairs}
use Rattle.bolt_check.proofs.Words.{AreAccountFindings, Finding, free_ids_of, IsBefore, IsFreelistFinding, IsUsed, Meta}
use Rattle.bolt_check.proofs.AccountLemmas.{unwritten}

finding_differs : (x y : Finding) → (x ≡ y) ⊎ (x ≢ y)
finding_differs x y = grind arith

before_not_back : (x y : Finding) → IsBefore x y → IsBefore y x → ⊥
before_not_back x y h g = grind arith

module _ (file : List ℕ) (meta : Meta) where
  abbrev Are : List Finding → Type 0
  Are = AreAccountFindings file meta (IsUsed file meta)

  by_ids : (xs ys : List Finding) (ids : Option (List ℕ)) → free_ids_of file meta ≡ ids → Are xs → Are ys
      → ((x : Finding) → IsFreelistFinding file meta (IsUsed file meta) x → ⊥) → xs ≡ ys
  by_ids xs ys None are a b none = absurd (unwritten file meta are a.written)
  by_ids xs ys (Some ids) are a b none =
      one_list IsBefore before_not_back xs ys (rises_from_pairs IsBefore xs (a.rises none)) (rises_from_pairs IsBefore ys (b.rises none))
      (λ z h. has_from_contains ys z ((b.exact none ids are z).1 ((a.exact none ids are z).0 (contains_from_has xs z h))))
      (λ z h. has_from_contains xs z ((a.exact none ids are z).1 ((b.exact none ids are z).0 (contains_from_has ys z h))))

  -- a list of more or less than one finding has none on the freelist's page, and two lists of one finding on it are the same
  pub account_findings_once : (xs ys : List Finding) → Are xs → Are ys → xs ≡ ys
  account_findings_once [] ys a b = by_ids [] ys (free_ids_of file meta) refl a b (λ z bad. let e = a.of_page z bad in cc)
  account_findings_once (x ∷ w ∷ xs) ys a b = by_ids (x ∷ w ∷ xs) ys (free_ids_of file meta) refl a b (λ z bad. let e = a.of_page z bad in cc)
  account_findings_once (x ∷ []) [] a b = by_ids (x ∷ []) [] (free_ids_of file meta) refl a b (λ z bad. let e = b.of_page z bad in cc)
  account_findings_once (x ∷ []) (y ∷ w ∷ ys) a b = by_ids (x ∷ []) (y ∷ w ∷ ys) (free_ids_of file meta) refl a b (λ z bad. let e = b.of_page z bad in cc)
  account_findings_once (x ∷ []) (y ∷ []) a b = elim (finding_differs x y) [
    | inl same ↦ ap (λ (z : Finding). z ∷ []) same
    | inr other ↦ by_ids (x ∷ []) (y ∷ []) (free_ids_of file meta) refl a b (λ z bad. other (let e = a.of_page z bad in let f = b.of_page z bad in cc))
  ]
