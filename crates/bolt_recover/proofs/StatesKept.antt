-- What is known of a place: its state, of which there is one.
use Rattle.std.proofs.Common.{◌≡◌, ◌∙◌, ◌⊎◌, ◌≢◌, ◌<◌, ◌++◌, inl, inr, ℕ, Bool, true, false, ap, IfNone, IfSome, Option, Some, None, List, [], ◌∷◌}
use Rattle.std.proofs.Common.{length, refl, sym, subst, arith}
use Rattle.bolt_recover.proofs.Words.{∥∥₁_elim, props, false≢true, Contains, Contains-append_cases, Contains-append_left, Contains-append_right}
use Rattle.bolt_recover.proofs.Words.{contains_cases, contains_head, contains_none, At_page, Key, Member, ForLosses, ForRecovered}
use Rattle.bolt_recover.proofs.Words.{IsMetaPage, KeepsRoot, node_at, passes_silent, root_spot}
use Rattle.bolt_recover.proofs.{Existing.has_losses, Existing.has_recovered, StatesGrow.grow, StatesGrow.stay}
use Rattle.bolt_recover.specs.States.{AreExactly, HasBucketsAlone, IsKept, IsLost, PlaceView, StateView, counted32, figures_of, meta_at, root_buckets}
use Rattle.bolt_recover.specs.{Private.StatesTried.IsBucketStateAt, Private.StatesTried.IsCountedState, Private.StatesTried.IsStateAt}
use Rattle.bolt_recover.specs.{ShownStates.state_view, declared.state.State.State}

abbrev IsKeptAt : List ℕ → PlaceView → StateView → Type 0
IsKeptAt file place s =
    ForLosses file (meta_at file place) (λ losses. s.losses ≡ counted32 (length losses))
    × ForRecovered file (meta_at file place) (λ listing. s.figures ≡ figures_of listing)

state_same : (a b : StateView) → a.place ≡ b.place → a.losses ≡ b.losses → a.figures ≡ b.figures → a ≡ b
state_same a b p l f = grind (arith, p, l, f)

module _ (file : List ℕ) where
  -- one state at a place
  pub one_state : (a b : StateView) → IsKept file a → IsKept file b → a.place ≡ b.place → a ≡ b
  one_state a b h k same =
      let (losses, are) = has_losses file (meta_at file a.place) in
      let (l, recovers) = has_recovered file (meta_at file a.place) in
      let at_b = subst (λ (place : PlaceView). IsKeptAt file place b) (sym same) (k.losses, k.figures) in
      state_same a b same (h.losses losses are ∙ sym (at_b.0 losses are)) (h.figures l recovers ∙ sym (at_b.1 l recovers))

  -- and its root page isn't lost
  pub kept_not_lost : (place : PlaceView) → KeepsRoot file (meta_at file place) → IsLost file place → ⊥
  kept_not_lost place keeps lost =
      ∥∥₁_elim lost (hlevel props) (λ (x, loses). passes_silent (node_at file (meta_at file place)) IsMetaPage (At_page (root_spot place.root)) x keeps loses)

  -- ---- one place more

  pub is_last : (places : List PlaceView) (place p : PlaceView) → Contains (places ++ place ∷ []) p → Contains places p ⊎ (place ≡ p)
  is_last places place p has =
      elim (Contains-append_cases places (place ∷ []) p has) [
        | inl old ↦ inl old
        | inr new ↦ elim (contains_cases place p [] new) [ inl same ↦ inr same | inr none ↦ absurd (contains_none p none) ]
      ]

  pub last_there : (places : List PlaceView) (place : PlaceView) → Contains (places ++ place ∷ []) place
  last_there places place = Contains-append_right places (place ∷ []) place (contains_head place [])

  abbrev AreKept : List PlaceView → List StateView → Type 0
  AreKept places kept = AreExactly (λ (s : StateView). s.place) (λ s. Contains places s.place × IsKept file s) kept

  abbrev AreLost : List PlaceView → List PlaceView → Type 0
  AreLost places lost = AreExactly (λ (p : PlaceView). p) (λ p. Contains places p × IsLost file p) lost

  module _ (places : List PlaceView) (place : PlaceView) (fresh : Contains places place → ⊥) where
    pub add_kept : (kept : List StateView) (s : StateView) → s.place ≡ place → IsKept file s → AreKept places kept
        → AreKept (places ++ place ∷ []) (kept ++ s ∷ [])
    add_kept kept s same is are =
        grow (λ (x : StateView). x.place) (λ x. Contains places x.place × IsKept file x)
        (λ x. Contains (places ++ place ∷ []) x.place × IsKept file x) kept s are
        (λ y has at. fresh (subst (Contains places) (at ∙ same) ((are.exact y).0 has).0))
        (λ y (has, k). elim (is_last places place y.place has) [ inl old ↦ inl (old, k) | inr last ↦ inr (one_state s y is k (same ∙ last)) ])
        (λ y (has, k). (Contains-append_left places (place ∷ []) y.place has, k))
        (subst (Contains (places ++ place ∷ [])) (sym same) (last_there places place), is)

    pub lost_stay : (lost : List PlaceView) → KeepsRoot file (meta_at file place) → AreLost places lost → AreLost (places ++ place ∷ []) lost
    lost_stay lost keeps are =
        stay (λ (p : PlaceView). p) (λ p. Contains places p × IsLost file p) (λ p. Contains (places ++ place ∷ []) p × IsLost file p) lost are
        (λ p (has, is).
        elim (is_last places place p has) [ inl old ↦ (old, is) | inr last ↦ absurd (kept_not_lost place keeps (subst (IsLost file) (sym last) is)) ])
        (λ p (has, is). (Contains-append_left places (place ∷ []) p has, is))

    pub add_lost : (lost : List PlaceView) → IsLost file place → AreLost places lost → AreLost (places ++ place ∷ []) (lost ++ place ∷ [])
    add_lost lost is are =
        grow (λ (p : PlaceView). p) (λ p. Contains places p × IsLost file p) (λ p. Contains (places ++ place ∷ []) p × IsLost file p) lost place are
        (λ p has at. fresh (subst (Contains places) at ((are.exact p).0 has).0))
        (λ p (has, k). elim (is_last places place p has) [ inl old ↦ inl (old, k) | inr last ↦ inr last ])
        (λ p (has, k). (Contains-append_left places (place ∷ []) p has, k))
        (last_there places place, is)

    pub kept_stay : (kept : List StateView) → IsLost file place → AreKept places kept → AreKept (places ++ place ∷ []) kept
    kept_stay kept lost are =
        stay (λ (x : StateView). x.place) (λ x. Contains places x.place × IsKept file x) (λ x. Contains (places ++ place ∷ []) x.place × IsKept file x) kept are
        (λ y (has, k).
        elim (is_last places place y.place has) [ inl old ↦ (old, k) | inr last ↦ absurd (kept_not_lost y.place k.root (subst (IsLost file) last lost)) ])
        (λ y (has, k). (Contains-append_left places (place ∷ []) y.place has, k))

  -- ---- what was counted

  abbrev IsAt : PlaceView → State → Type 0
  IsAt place s = KeepsRoot file (meta_at file place) × IsKeptAt file place (state_view s)

  counted_kept : (place : PlaceView) (alone : Bool) (s : State) → KeepsRoot file (meta_at file place)
      → IsCountedState file (meta_at file place) alone place (Some s) → IsKept file (state_view s)
  counted_kept place alone s keeps (same, losses, count) =
      let (root, (few, figures)) = subst (λ (p : PlaceView). IsAt p s) (sym same) (keeps, (losses, λ l is. (count l is).0)) in
      record { root = root; losses = few; figures = figures }

  pub counted_state : (place : PlaceView) (o : Option State) → KeepsRoot file (meta_at file place)
      → IsCountedState file (meta_at file place) false place o → IsStateAt file place o
  counted_state place (Some s) keeps counted = (counted.0, counted_kept place false s keeps counted)
  counted_state place None keeps counted = absurd (false≢true counted.0)

  -- buckets alone, of which there is one
  pub counted_alone : (place : PlaceView) (s : State) → KeepsRoot file (meta_at file place)
      → IsCountedState file (meta_at file place) true place (Some s) → 0 < s.figures.buckets
      → IsBucketStateAt file place (Some s)
  counted_alone place s keeps counted some = (
    (keeps, λ l is. (some_names l (ap (λ f. f.buckets) ((counted.2 l is).0)) some, (counted.2 l is).1 refl)),
    (counted.0, counted_kept place true s keeps counted),
  )
    where
      some_names : (l : List Member) {n : ℕ} → n ≡ counted32 (length (root_buckets l)) → 0 < n → root_buckets l ≢ []
      some_names l e some none = let n = ap length none in omega (arith, e, some, n)

  pub none_alone : (place : PlaceView) (s : State) → IsCountedState file (meta_at file place) true place (Some s) → s.figures.buckets ≡ 0
      → HasBucketsAlone file (meta_at file place) → ⊥
  none_alone place s counted zero (keeps, has) = let (l, recovers) = has_recovered file (meta_at file place) in
      no_names (root_buckets l) (sym zero ∙ ap (λ f. f.buckets) ((counted.2 l recovers).0)) (has l recovers).0
    where
      no_names : (names : List Key) → 0 ≡ counted32 (length names) → names ≢ [] → ⊥
      no_names [] e some = some refl
      no_names (name ∷ names) e some = omega (arith, e)

  pub value_alone : (place : PlaceView) → IsCountedState file (meta_at file place) true place None → HasBucketsAlone file (meta_at file place) → ⊥
  value_alone place counted (keeps, has) = let (l, recovers) = has_recovered file (meta_at file place) in counted.1 l recovers (has l recovers).1

  -- the state with a bucket, if there is one
  pub bucket_at : (place : PlaceView) (o r : Option State) → KeepsRoot file (meta_at file place)
      → IsCountedState file (meta_at file place) true place o
      → IfSome r (λ s. (o ≡ Some s) × (0 < s.figures.buckets)) → IfNone r ((s : State) → o ≡ Some s → s.figures.buckets ≡ 0) → IsBucketStateAt file place r
  bucket_at place o (Some s) keeps counted (is, some) none =
      counted_alone place s keeps (subst (IsCountedState file (meta_at file place) true place) is counted) some
  bucket_at place None None keeps counted some none = value_alone place counted
  bucket_at place (Some s) None keeps counted some none = none_alone place s counted (none s refl)
