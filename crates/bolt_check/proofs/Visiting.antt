-- A search for findings goes on from what a visited spot leads to.
use Rattle.std.proofs.Common.{arith, ◌≡◌, ℕ, ◌⊎◌, inl, inr, List, Option, Some, None}
use Rattle.bolt_check.proofs.Words.{Before, Carries, HasUse, IsClaimedBefore, IsCovered, Nodes, PageUse, Passes, Reach, SpanHas, Spot, Tests}
use Rattle.bolt_check.proofs.{WayOrder.before_irreflexive, WayOrder.before_strict, WayOrder.before_total, Judging.tests_same, Judging.passes_fewer}
use Rattle.bolt_check.proofs.{Judging.passes_silent, Judging.span_spot}
use Rattle.bolt_check.specs.Private.Carries.{Takes}

-- the ways of `old` are `first`, if o is a spot, and after it and in the same order those of `new`
pub record Visits (old new : Reach) (o : Option Spot) (first : List ℕ) (f : List ℕ → List ℕ) : Type 0 where
  pub leads : (s : Spot) → o ≡ Some s → old first ≡ Some s
  pub same : (b : List ℕ) (t : Spot) → new b ≡ Some t → old (f b) ≡ Some t
  pub rising : (b e : List ℕ) (t u : Spot) → new b ≡ Some t → new e ≡ Some u → Before b e → Before (f b) (f e)
  pub after : (s : Spot) → o ≡ Some s → (b : List ℕ) (t : Spot) → new b ≡ Some t → Before first (f b)
  pub all : (a : List ℕ) (t : Spot) → old a ≡ Some t → ((a ≡ first) × (o ≡ Some t)) ⊎ ((b : List ℕ) × ((a ≡ f b) × (new b ≡ Some t)))

abbrev pub PassesAt : Nodes → (ℕ → Type 0) → Option Spot → Type 0
PassesAt nodes c None = Unit {0}
PassesAt nodes c (Some s) = Passes nodes c s

module _ {old new : Reach} {o : Option Spot} {first : List ℕ} {f : List ℕ → List ℕ} (v : Visits old new o first f) where
  -- the order is the same
  pub not_after : (w b : List ℕ) (t u : Spot) → new w ≡ Some t → new b ≡ Some u → Before (f w) (f b) → Before w b
  not_after w b t u at_w at_b lt = grind (arith, before_total, before_strict)

  -- and no two ways become one
  pub one_of : (a b : List ℕ) (t u : Spot) → new a ≡ Some t → new b ≡ Some u → f a ≡ f b → a ≡ b
  one_of a b t u at_a at_b e = grind (arith, before_total, before_irreflexive)

module _ (nodes : Nodes) {old new : Reach} {o : Option Spot} {first : List ℕ} {f : List ℕ → List ℕ} {c d : ℕ → Type 0} {a b : ℕ → PageUse → Type 0}
    (v : Visits old new o first f) (takes : Takes nodes o c d a b) where
  span_first : (n : ℕ) → SpanHas nodes o n → SpanHas nodes (old first) n
  span_first n h = grind (arith, span_spot)

  span_later : (w : List ℕ) (n : ℕ) → SpanHas nodes (new w) n → SpanHas nodes (old (f w)) n
  span_later w n h = grind (arith, span_spot)

  claimed_to_old : (w : List ℕ) (t : Spot) → new w ≡ Some t → (n : ℕ) → IsClaimedBefore nodes new d w n → IsClaimedBefore nodes old c (f w) n
  claimed_to_old w t e n h = grind arith

  claimed_to_new : (w : List ℕ) (t : Spot) → new w ≡ Some t → (n : ℕ) → IsClaimedBefore nodes old c (f w) n → IsClaimedBefore nodes new d w n
  claimed_to_new w t e n h = grind (arith, span_spot, not_after)

  first_passes : PassesAt nodes c o → (s : Spot) → o ≡ Some s → Passes nodes (IsClaimedBefore nodes old c first) s
  first_passes h s e = grind (arith, passes_fewer, span_spot, before_strict)

  pub carries : PassesAt nodes c o → Carries nodes old c a new d b
  carries h = record {
    clean = λ clean. record {
      passes = λ y t e. elim (v.all y t e) [
        | inl q ↦ rw q.0 (first_passes h t q.1)
        | inr g ↦ rw g.1.0 (passes_fewer nodes (IsClaimedBefore nodes new d g.0) (IsClaimedBefore nodes old c (f g.0)) t (claimed_to_new g.0 t g.1.1)
            (clean.passes g.0 t g.1.1))
      ];
    };
    first = λ x g. record {
      way = f g.way;
      spot = g.spot;
      leads = v.same g.way g.spot g.leads;
      reported = tests_same nodes (IsClaimedBefore nodes new d g.way) (IsClaimedBefore nodes old c (f g.way)) g.spot x
          (claimed_to_old g.way g.spot g.leads) (claimed_to_new g.way g.spot g.leads) g.reported;
      none_before = λ y t z lt e m. elim (v.all y t e) [
        | inl q ↦ passes_silent nodes (IsClaimedBefore nodes old c first) t z (first_passes h t q.1)
            (let m' : Tests nodes (IsClaimedBefore nodes old c first) t z = rw (← q.0) m in m')
        | inr k ↦
            let m' : Tests nodes (IsClaimedBefore nodes old c (f k.0)) t z = rw (← k.1.0) m in
            g.none_before k.0 t z (not_after v k.0 g.way t g.spot k.1.1 g.leads (rw (← k.1.0) lt)) k.1.1
            (tests_same nodes (IsClaimedBefore nodes old c (f k.0)) (IsClaimedBefore nodes new d k.0) t z (claimed_to_new k.0 t k.1.1)
            (claimed_to_old k.0 t k.1.1) m')
      ];
    };
    covered = λ n. (covered_to_old n, covered_to_new n);
    uses = uses_to_old;
  }
    where
      covered_to_old : (n : ℕ) → IsCovered nodes new d n → IsCovered nodes old c n
      covered_to_old n (inl h) = elim (takes.split n h) [ inl k ↦ inl k | inr k ↦ inr (first, span_first n k) ]
      covered_to_old n (inr (y, h)) = inr (f y, span_later y n h)

      covered_to_new : (n : ℕ) → IsCovered nodes old c n → IsCovered nodes new d n
      covered_to_new n h = grind arith

      uses_to_old : (n : ℕ) (u : PageUse) → HasUse nodes new b n u → HasUse nodes old a n u
      uses_to_old n u h = grind arith

pub carries_on : (nodes : Nodes) {x y z : Reach} {c d e : ℕ → Type 0} {k l m : ℕ → PageUse → Type 0} → Carries nodes x c k y d l
    → Carries nodes y d l z e m
    → Carries nodes x c k z e m
carries_on nodes p q = record {
  clean = λ h. p.clean (q.clean h);
  first = λ x h. p.first x (q.first x h);
  covered = λ n. (λ h. (p.covered n).0 ((q.covered n).0 h), λ h. (q.covered n).1 ((p.covered n).1 h));
  uses = λ n u h. p.uses n u (q.uses n u h);
}
