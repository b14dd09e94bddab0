-- A file has one active meta.
use Rattle.std.proofs.Common.{◌≡◌, ◌∙◌, ℕ, ◌*◌, ◌^◌, ◌<◌, ◌≤◌, ◌==◌, List, Option, Some, None, IfNone, OnErr, ok_or, arith, sym, ap, inl, inr, subst}
use Rattle.std.proofs.Common.{refl, get_or, eq-eqb}
use Rattle.std.proofs.{Math.Pow.pow_mono, lemmas.Bool.cases_lt, lemmas.Bool.eqb-true, lemmas.List.get_or_read, lemmas.List.Folds.Any-from_list_any}
use Rattle.std.proofs.{lemmas.List.Folds.list_any_at}
use Rattle.std.proofs.lemmas.List.FromFn.{get_or-map-range_with_len}
use Rattle.bolt_format.specs.{declared.meta.Meta.Meta, declared.meta.MetaFault.MetaFault, declared.meta.Slot.Slot}
use Rattle.bolt_format.specs.{declared.meta.Slot.TheVariants.Zero, declared.meta.Slot.TheVariants.One}
use Rattle.bolt_format.specs.Metas.{IsActive, IsInOne, IsInSlot, IsLoneMeta, IsMeta, IsPageSize, other_slot, page_size_count, page_sizes}

-- a page has one record
pub IsMeta-one : (file : List ℕ) (at : ℕ) (a b : Meta) → IsMeta file at a → IsMeta file at b → a ≡ b
IsMeta-one file at a b p q = p.fields ∙ sym q.fields

-- slot one, where slot zero is valid
pub IsInOne-beside : (file : List ℕ) (zero meta : Meta) → IsMeta file 0 zero → IsInOne file meta → IsMeta file zero.page_size meta
IsInOne-beside file zero meta valid (inl (other, first, second)) = grind arith
IsInOne-beside file zero meta valid (inr (none, lone)) = absurd (none zero valid)

-- slot one, where slot zero is not
pub IsInOne-alone : (file : List ℕ) (meta : Meta) → ((zero : Meta) → IsMeta file 0 zero → ⊥) → IsInOne file meta → IsLoneMeta file meta
IsInOne-alone file meta none (inl (zero, first, second)) = absurd (none zero first)
IsInOne-alone file meta none (inr (_, lone)) = lone

-- the least place is one
pub IsLoneMeta-one : (file : List ℕ) (a b : Meta) → IsLoneMeta file a → IsLoneMeta file b → a ≡ b
IsLoneMeta-one file a b p q =
    elim (cases_lt p.at q.at) [
      | inl below ↦ absurd (q.least p.at a p.tried below p.valid)
      | inr above ↦ elim (cases_lt q.at p.at) [
        | inl below ↦ absurd (p.least q.at b q.tried below q.valid)
        | inr same ↦ IsMeta-one file q.at a b (let e : p.at ≡ q.at = omega arith in subst (λ (n : ℕ). IsMeta file n a) e p.valid) q.valid
      ]
    ]

-- a slot has one record
pub IsInSlot-one : (file : List ℕ) (slot : Slot) (a b : Meta) → IsInSlot file slot a → IsInSlot file slot b → a ≡ b
IsInSlot-one file Zero a b p q = IsMeta-one file 0 a b p q
IsInSlot-one file One a b (inl (zero, first, second)) q = IsMeta-one file zero.page_size a b second (IsInOne-beside file zero b first q)
IsInSlot-one file One a b (inr (none, lone)) q = IsLoneMeta-one file a b lone (IsInOne-alone file b none q)

One-Zero : One ≡ Zero → ⊥
One-Zero e = cc

-- not both slots are active
not_both : (file : List ℕ) (zero one : Meta) → IsActive file Zero zero → IsActive file One one → ⊥
not_both file zero one p q =
    elim (q.newest zero p.valid) [
      | inl older ↦ elim (p.newest one q.valid) [
        | inl newer ↦ omega (arith, older, newer)
        | inr equal ↦ omega (arith, older, equal.0)
      ]
      | inr equal ↦ One-Zero equal.1
    ]

-- one meta is active
pub IsActive-one : (file : List ℕ) (slot : Slot) (meta : Meta) → IsActive file slot meta
    → (other : Slot) (another : Meta) → IsActive file other another → (other ≡ slot) × (another ≡ meta)
IsActive-one file Zero meta p Zero another q = (refl, IsInSlot-one file Zero another meta q.valid p.valid)
IsActive-one file One meta p One another q = (refl, IsInSlot-one file One another meta q.valid p.valid)
IsActive-one file Zero meta p One another q = absurd (not_both file meta another p q)
IsActive-one file One meta p Zero another q = absurd (not_both file another meta q p)

-- slot one is active if its transaction is the greater
pub newer_one : (file : List ℕ) (zero one : Meta) → IsInSlot file Zero zero → IsInSlot file One one → zero.txid < one.txid → IsActive file One one
newer_one file zero one first second newer = grind arith

-- slot zero is active if the transaction of slot one is no greater
pub no_newer : (file : List ℕ) (zero one : Meta) → IsInSlot file Zero zero → IsInSlot file One one → one.txid ≤ zero.txid → IsActive file Zero zero
no_newer file zero one first second older = record {
  valid = first;
  newest = λ other valid.
      let e : other.txid ≡ one.txid = ap (λ (m : Meta). m.txid) (IsInSlot-one file One other one valid second) in
      elim (cases_lt other.txid zero.txid) [
        | inl less ↦ inl less
        | inr more ↦ inr (omega (arith, e, older, more), refl)
      ];
}

-- a meta is active if the other slot has none
pub lone_chosen : (file : List ℕ) (slot : Slot) (meta : Meta) → ((other : Meta) → IsInSlot file (other_slot slot) other → ⊥) → IsInSlot file slot meta
    → IsActive file slot meta
lone_chosen file slot meta none valid = grind arith

-- no slot has one
pub IsInSlot-none : (file : List ℕ) → ((zero : Meta) → IsInSlot file Zero zero → ⊥) → ((one : Meta) → IsInSlot file One one → ⊥)
    → (slot : Slot) (meta : Meta) → IsInSlot file slot meta → ⊥
IsInSlot-none file no_zero no_one Zero meta valid = no_zero meta valid
IsInSlot-none file no_zero no_one One meta valid = no_one meta valid

-- where none stands at any place, slot one has none
pub none_found : (file : List ℕ) (found : Option Meta) (fault : MetaFault) → ((zero : Meta) → IsMeta file 0 zero → ⊥)
    → IfNone found ((lone : Meta) → IsLoneMeta file lone → ⊥) → OnErr (ok_or found fault) ((meta : Meta) → IsInSlot file One meta → ⊥)
none_found file (Some one) fault no_zero none = tt
none_found file None fault no_zero none = λ meta valid. none meta (IsInOne-alone file meta no_zero valid)

-- The accepted page sizes in their order.
page_sizes-at : (k : ℕ) → k < page_size_count → get_or page_sizes k 0 ≡ 1024 * 2 ^ k
page_sizes-at k h = get_or-map-range_with_len (λ k. 1024 * 2 ^ k) 0 page_size_count k k 0 h (omega arith)

IsPageSize-at : (k : ℕ) → k < page_size_count → IsPageSize (get_or page_sizes k 0)
IsPageSize-at k h = list_any_at (λ size. size == get_or page_sizes k 0) page_sizes k 0 h (eq-eqb (get_or page_sizes k 0) _ refl)

-- a smaller one comes before
page_sizes-before : (n k : ℕ) → k < page_size_count → IsPageSize n → n < get_or page_sizes k 0 → (j : ℕ) × (j < k) × (n ≡ get_or page_sizes j 0)
page_sizes-before n k h size less =
    let (j, x, below, here, same) = Any-from_list_any (λ size. size == n) page_sizes size in
    let is_n : n ≡ get_or page_sizes j 0 = sym (eqb-true x n same) ∙ get_or_read page_sizes j x below (sym here) 0 in
    elim (cases_lt j k) [
      | inl first ↦ (j, first, is_n)
      | inr later ↦ absurd (omega (arith, page_sizes-at j below, page_sizes-at k h, pow_mono later))
    ]

-- the first place with a record is the least
pub IsLoneMeta-at : (file : List ℕ) (k : ℕ) (meta : Meta) → k < page_size_count
    → ((j : ℕ) → j < k → (other : Meta) → IsMeta file (get_or page_sizes j 0) other → ⊥)
    → IsMeta file (get_or page_sizes k 0) meta → IsLoneMeta file meta
IsLoneMeta-at file k meta h none valid = record {
  at = get_or page_sizes k 0;
  tried = IsPageSize-at k h;
  valid = valid;
  least = λ before other size less found.
      let (j, first, same) = page_sizes-before before k h size less in
      none j first other (subst (λ (n : ℕ). IsMeta file n other) same found);
}

-- with no record at any place there is none
pub IsLoneMeta-none : (file : List ℕ) (k : ℕ) → page_size_count ≤ k
    → ((j : ℕ) → j < k → (other : Meta) → IsMeta file (get_or page_sizes j 0) other → ⊥)
    → (meta : Meta) → IsLoneMeta file meta → ⊥
IsLoneMeta-none file k h none meta lone =
    let (j, x, below, here, same) = Any-from_list_any (λ size. size == lone.at) page_sizes lone.tried in
    let is_at : lone.at ≡ get_or page_sizes j 0 = sym (eqb-true x lone.at same) ∙ get_or_read page_sizes j x below (sym here) 0 in
    none j (omega arith) meta (subst (λ (n : ℕ). IsMeta file n meta) is_at lone.valid)
