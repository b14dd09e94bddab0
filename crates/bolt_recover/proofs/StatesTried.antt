-- The places that were tried so far.
use Rattle.std.proofs.Common.{◌≡◌, ◌∙◌, ◌⊎◌, ◌↔◌, ◌<◌, ◌+◌, ◌||◌, ◌++◌, inl, inr, ℕ, if◌then◌else◌, Bool, true, false, Option, Some, None, List, []}
use Rattle.std.proofs.Common.{◌∷◌, refl, sym, ap, subst, arith}
use Rattle.bolt_format.specs.{Metas.IsInSlot, declared.meta.Slot.Slot, declared.meta.Slot.TheVariants.One, declared.meta.Slot.TheVariants.Zero}
use Rattle.bolt_recover.proofs.Words.{Contains, Contains-append_cases, Contains-append_left, Contains-append_right, Meta, cases_lt, contains_cases}
use Rattle.bolt_recover.proofs.Words.{contains_head, contains_none, false≢true}
use Rattle.bolt_recover.proofs.StatesGrow.{place_is, place_self}
use Rattle.bolt_recover.specs.ShownStates.{IsValidMeta, leads_to, other_meta, place_list}
use Rattle.bolt_recover.specs.States.{IsMetaRoot, IsRootPage, IsState, PlaceView, is_place}
use Rattle.bolt_recover.specs.Private.StatesTried.{IsTried}

abbrev place_from : Meta → PlaceView
place_from meta = record { page_size = meta.page_size; root = meta.root }

-- ---- the places that metas lead to

leads_some : (o : Option Meta) (p : PlaceView) → leads_to o p ≡ true → (meta : Meta) × (o ≡ Some meta) × (place_from meta ≡ p)
leads_some (Some meta) p e = (meta, refl, place_is (place_from meta) p e)
leads_some None p e = absurd (false≢true e)

some_leads : (o : Option Meta) (meta : Meta) (p : PlaceView) → o ≡ Some meta → place_from meta ≡ p → leads_to o p ≡ true
some_leads o meta p is same = ap (λ (m : Option Meta). leads_to m p) is ∙ ap (is_place (place_from meta)) (sym same) ∙ place_self (place_from meta)

slot_named : (file : List ℕ) (slot : Slot) (o : Option Meta) (meta : Meta) → IsValidMeta file slot o → o ≡ Some meta → IsInSlot file slot meta
slot_named file slot o meta valid is = (subst (IsValidMeta file slot) is valid).0

slot_has : (file : List ℕ) (slot : Slot) (o : Option Meta) (meta : Meta) → IsValidMeta file slot o → IsInSlot file slot meta → o ≡ Some meta
slot_has file slot (Some m) meta valid is = ap Some (sym (valid.1 meta is))
slot_has file slot None meta valid is = absurd (valid meta is)

module _ (file : List ℕ) (zero one : Option Meta) (in_zero : IsValidMeta file Zero zero) (in_one : IsValidMeta file One one) where
  pub names_named : (p : PlaceView) → (leads_to zero p || leads_to one p) ≡ true → IsMetaRoot file p
  names_named p e = by (leads_to zero p) refl
    where
      by : (b : Bool) → leads_to zero p ≡ b → IsMetaRoot file p
      by true is = let (meta, at, same) = leads_some zero p is in (Zero, meta, slot_named file Zero zero meta in_zero at, sym same)
      by false is =
          let (meta, at, same) = leads_some one p (ap (λ b. b || leads_to one p) (sym is) ∙ e) in (One, meta, slot_named file One one meta in_one at, sym same)

  named_names : (p : PlaceView) → IsMetaRoot file p → (leads_to zero p ≡ true) ⊎ (leads_to one p ≡ true)
  named_names p (Zero, meta, is, same) = inl (some_leads zero meta p (slot_has file Zero zero meta in_zero is) (sym same))
  named_names p (One, meta, is, same) = inr (some_leads one meta p (slot_has file One one meta in_one is) (sym same))

  pub not_named : (p : PlaceView) → (leads_to zero p || leads_to one p) ≡ false → IsMetaRoot file p → ⊥
  not_named p e is = neither (leads_to zero p) (leads_to one p) e (named_names p is)
    where
      neither : (a b : Bool) → (a || b) ≡ false → (a ≡ true) ⊎ (b ≡ true) → ⊥
      neither a b e or = grind arith

  list_has : (o : Option Meta) (p : PlaceView) → leads_to o p ≡ true → Contains (place_list o) p
  list_has (Some meta) p e = subst (Contains (place_from meta ∷ [])) (place_is (place_from meta) p e) (contains_head (place_from meta) [])
  list_has None p e = absurd (false≢true e)

  has_list : (o : Option Meta) (p : PlaceView) → Contains (place_list o) p → leads_to o p ≡ true
  has_list (Some meta) p has =
      elim (contains_cases (place_from meta) p [] has) [ inl same ↦ some_leads (Some meta) meta p refl same | inr none ↦ absurd (contains_none p none) ]
  has_list None p has = absurd (contains_none p has)

  other_leads : (o : Option Meta) (p : PlaceView) → leads_to (other_meta zero o) p ≡ true → (leads_to o p ≡ true) × (leads_to zero p ≡ false)
  other_leads None p e = absurd (false≢true e)
  other_leads (Some meta) p e = by (leads_to zero (place_from meta)) refl e
    where
      by : (b : Bool) → leads_to zero (place_from meta) ≡ b → leads_to (other_meta zero (Some meta)) p ≡ true
          → (leads_to (Some meta) p ≡ true) × (leads_to zero p ≡ false)
      by true is e = absurd (false≢true (sym (ap (λ b. leads_to (if b then None else Some meta) p) is) ∙ e))
      by false is e =
          let here : is_place (place_from meta) p ≡ true = sym (ap (λ b. leads_to (if b then None else Some meta) p) is) ∙ e in
          (here, ap (leads_to zero) (sym (place_is (place_from meta) p here)) ∙ is)

  pub lists_apart : (p : PlaceView) → Contains (place_list zero) p → Contains (place_list (other_meta zero one)) p → ⊥
  lists_apart p a b = false≢true (sym (other_leads one p (has_list (other_meta zero one) p b)).1 ∙ has_list zero p a)

  leads_other : (o : Option Meta) (p : PlaceView) → leads_to o p ≡ true → leads_to zero p ≡ false → leads_to (other_meta zero o) p ≡ true
  leads_other None p e n = absurd (false≢true e)
  leads_other (Some meta) p e n = ap (λ b. leads_to (if b then None else Some meta) p) (ap (leads_to zero) (place_is (place_from meta) p e) ∙ n) ∙ e

  pub lists_named : (p : PlaceView) → Contains (place_list zero ++ place_list (other_meta zero one)) p ↔ IsMetaRoot file p
  lists_named p = (
    λ has. elim (Contains-append_cases (place_list zero) (place_list (other_meta zero one)) p has) [
      | inl first ↦ by_zero (leads_some zero p (has_list zero p first))
      | inr second ↦ by_one (leads_some one p (other_leads one p (has_list (other_meta zero one) p second)).0)
    ],
    λ is. elim (named_names p is) [ inl first ↦ at_first first | inr second ↦ at_second second (leads_to zero p) refl ],
  )
    where
      at_first : leads_to zero p ≡ true → Contains (place_list zero ++ place_list (other_meta zero one)) p
      at_first e = Contains-append_left (place_list zero) (place_list (other_meta zero one)) p (list_has zero p e)

      at_second : leads_to one p ≡ true → (b : Bool) → leads_to zero p ≡ b → Contains (place_list zero ++ place_list (other_meta zero one)) p
      at_second e true is = at_first is
      at_second e false is =
          Contains-append_right (place_list zero) (place_list (other_meta zero one)) p (list_has (other_meta zero one) p (leads_other one p e is))

      by_zero : (meta : Meta) × (zero ≡ Some meta) × (place_from meta ≡ p) → IsMetaRoot file p
      by_zero (meta, at, same) = (Zero, meta, slot_named file Zero zero meta in_zero at, sym same)

      by_one : (meta : Meta) × (one ≡ Some meta) × (place_from meta ≡ p) → IsMetaRoot file p
      by_one (meta, at, same) = (One, meta, slot_named file One one meta in_one at, sym same)

-- ---- pages

module _ (file : List ℕ) (place : PlaceView) where
  pub more : (p : PlaceView) → IsTried file place.page_size place.root p → IsTried file place.page_size (place.root + 1) p
  more p (inl is) = inl is
  more p (inr (is, lt)) = inr (is, omega (arith, lt))

  -- one page more
  pub less : (p : PlaceView) → IsTried file place.page_size (place.root + 1) p
      → IsTried file place.page_size place.root p ⊎ ((place ≡ p) × IsRootPage file place.page_size p)
  less p (inl is) = inl (inl is)
  less p (inr (is, lt)) = elim (cases_lt p.root place.root) [ inl below ↦ inl (inr (is, below)) | inr not ↦ inr (same is.0 (omega (arith, lt, not)), is) ]
    where
      same : p.page_size ≡ place.page_size → p.root ≡ place.root → place ≡ p
      same a b = grind (arith, a, b)

-- before the first page
pub none_before : (file : List ℕ) (page_size : ℕ) (p : PlaceView) → IsTried file page_size 2 p → IsMetaRoot file p
none_before file page_size p (inl is) = is
none_before file page_size p (inr (is, lt)) = let from = is.1 in absurd (omega (arith, from, lt))

-- after the last one
pub all_tried : (file : List ℕ) (page_size n : ℕ) → ((p : PlaceView) → IsRootPage file page_size p → p.root < n) → (p : PlaceView)
    → IsTried file page_size n p ↔ IsState file page_size p
all_tried file page_size n below p = (to, from)
  where
    to : IsTried file page_size n p → IsState file page_size p
    to (inl is) = inl is
    to (inr (is, lt)) = inr is

    from : IsState file page_size p → IsTried file page_size n p
    from (inl is) = inl is
    from (inr is) = inr (is, below p is)
