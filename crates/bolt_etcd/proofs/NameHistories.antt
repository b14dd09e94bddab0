-- The revisions of one name in a history: each follows the one before it, and the last one is what the name holds.
use Rattle.std.proofs.Common.{arith, ◌||◌, ◌≡◌, ◌∙◌, ◌+◌, ℕ, Bool, true, false, List, [], ◌∷◌, filter, Option, Some, None, inl, inr, refl, sym, ap}
use Rattle.std.proofs.Common.{subst}
use Rattle.std.proofs.{lemmas.Bool.and_from, lemmas.Bool.cases_Bool, lemmas.Bool.cond-false, lemmas.Bool.cond-true, lemmas.Bool.cond_both}
use Rattle.std.proofs.{lemmas.Bool.eq-eqb, lemmas.Bool.or_left, lemmas.Option.same_Some}
use Rattle.std.specs.{List.last_or, Option.is_some, Cmp.Lexicographic.same_text}
use Rattle.bolt_check.specs.Keys.{Key}
use Rattle.bolt_etcd.specs.{Check.Follows.creates, Check.Follows.follows, Check.Follows.is_next_of, Store.Newest.is_named, Store.Newest.newest}
use Rattle.bolt_etcd.specs.{Wire.Revisions.RevisionView, Wire.Revisions.name_of}
use Rattle.bolt_etcd.specs.Histories.Transactions.{Delete, Put, State, after, after_all, live_of, nothing, revision_by}
use Rattle.bolt_etcd.proofs.HistorySteps.{Goes, IsWritten}

-- what a name holds if this is its last revision
abbrev pub held_of : Option RevisionView → Option RevisionView
held_of None = None
held_of (Some r) = live_of r

pub held_parts : (o : Option RevisionView) (r : RevisionView) → held_of o ≡ Some r → (o ≡ Some r) × (r.key.deleted ≡ false)
held_parts None r e = cc
held_parts (Some s) r e = grind (arith, cases_Bool, cond-false, same_Some)

-- ---- each follows the one before

abbrev pub AllFollow : Option RevisionView → List RevisionView → Type 0
AllFollow o [] = Unit {0}
AllFollow o (r ∷ rs) = (follows o r ≡ true) × AllFollow (Some r) rs

-- whether it follows, by what the name holds
abbrev pub follows_held : Option RevisionView → RevisionView → Bool
follows_held None r = creates r
follows_held (Some before) r = r.key.deleted || is_next_of before r

pub follows_is : (o : Option RevisionView) (r : RevisionView) → follows o r ≡ follows_held (held_of o) r
unfolding follows
follows_is None r = refl
follows_is (Some before) r = elim (cases_Bool before.key.deleted) [ inl is ↦ rw is refl | inr is ↦ rw is refl ]

put_follows : (o : Option RevisionView) (main sub : ℕ) (name value : List ℕ) (lease : ℕ)
    → follows_held o (revision_by (λ (other : Key). o) main sub (Put name value lease)) ≡ true
put_follows None main sub name value lease = eq-eqb main main refl
put_follows (Some before) main sub name value lease = and_from _ _ (eq-eqb (before.content.version + 1) _ refl) (eq-eqb before.content.created _ refl)

deletion_follows : (o : Option RevisionView) (r : RevisionView) → is_some o ≡ true → r.key.deleted ≡ true → follows_held o r ≡ true
deletion_follows None r some is = cc
deletion_follows (Some before) r some is = or_left _ _ is

written_follows : (state : State) (r : RevisionView) → IsWritten state r → follows_held (state (name_of r)) r ≡ true
written_follows state r (Put name value lease, can, is) =
    subst (λ (x : RevisionView). follows_held (state (name_of x)) x ≡ true) (sym is) (put_follows (state name) r.key.main r.key.sub name value lease)
written_follows state r (Delete name, can, is) =
    subst (λ (x : RevisionView). follows_held (state (name_of x)) x ≡ true) (sym is) (deletion_follows (state name) _ can refl)

module _ (name : Key) where
  abbrev named : List RevisionView → List RevisionView
  named rs = filter (is_named name) rs

  -- ---- what it holds after a revision

  after_own : (state : State) (r : RevisionView) → is_named name r ≡ true → after r state name ≡ live_of r
  after_own state r own = cond-true (is_named name r) _ _ own

  after_other : (state : State) (r : RevisionView) → is_named name r ≡ false → after r state name ≡ state name
  after_other state r other = cond-false (is_named name r) _ _ other

  pub all_follow : (state : State) (main sub : ℕ) (rs : List RevisionView) (o : Option RevisionView) → Goes state main sub rs
      → state name ≡ held_of o → AllFollow o (named rs)
  all_follow state main sub [] o go holds = tt
  all_follow state main sub (r ∷ rs) o (next, is, go) holds =
      let later = λ (p : Option RevisionView) (holds' : after r state name ≡ held_of p). all_follow (after r state) r.key.main (r.key.sub + 1) rs p go holds' in
      cond_both (is_named name r) _ _ (AllFollow o)
      (λ own. (
        follows_is o r
            ∙ ap (λ (h : Option RevisionView). follows_held h r) (sym holds ∙ ap state (sym (same_text (name_of r) name (sym own))))
            ∙ written_follows state r is,
        later (Some r) (after_own state r own),
      ))
      (λ other. later o (after_other state r other ∙ holds))

  last_held : (rs : List RevisionView) (state : State) (o : Option RevisionView) → state name ≡ held_of o
      → after_all rs state name ≡ held_of (last_or o (named rs))
  last_held [] state o holds = holds
  last_held (r ∷ rs) state o holds =
      cond_both (is_named name r) _ _ (λ l. after_all rs (after r state) name ≡ held_of (last_or o l))
      (λ own. last_held rs (after r state) (Some r) (after_own state r own))
      (λ other. last_held rs (after r state) o (after_other state r other ∙ holds))

  -- after all of these it holds the newest of its revisions
  pub newest_held : (rs : List RevisionView) → after_all rs nothing name ≡ held_of (newest name rs)
  unfolding newest
  newest_held rs = last_held rs nothing None refl
