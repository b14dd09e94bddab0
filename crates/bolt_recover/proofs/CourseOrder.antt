-- A course visits ways in their order.
use Rattle.std.proofs.Common.{◌≡◌, ◌∙◌, ◌<◌, inl, inr, ℕ, zero, suc, Bool, List, [], ◌∷◌, ◌++◌, Option, slice_get, arith, refl, sym, ap, subst}
use Rattle.std.proofs.Common.{append_assoc}
use Rattle.bolt_recover.proofs.Words.{append-nil, Before, Each, entry_tasks, Event, Finding, further, gives_at, LeafElement, Path, step_site}
use Rattle.bolt_recover.proofs.Words.{tasks_from, visits_at, Has, has_split, map_has, Meta, rises_append, RisesBy, Site, SurveyedWay, Task}
use Rattle.bolt_recover.proofs.Words.{tasks_after, To_give, To_visit, visits_of, Way, Has}
use Rattle.bolt_tree.proofs.Exports.{before_sides, before_under}
use Rattle.bolt_recover.proofs.Courses.{Course, Course.done, Course.give, Course.visit}
use Rattle.bolt_recover.proofs.{SurveyIsOne.ways, TaskLists.IsAt, TaskLists.after_at, TaskLists.entry_at, TaskLists.from_at}

-- a way to be visited, and all below it, comes before one to be visited later, and all below that
abbrev pub Ahead : Task → Task → Type 0
Ahead (To_give path e) b = Unit {0}
Ahead (To_visit v p) (To_give path e) = Unit {0}
Ahead (To_visit v p) (To_visit u q) = (rest more : Way) → Before (v ++ rest) (u ++ more)

-- a way at or below one that is to be visited
abbrev Under : List Task → Way → Type 0
Under tasks u = (v : Way) × (p : Site) × (rest : Way) × Has tasks (To_visit v p) × (u ≡ v ++ rest)

module _ (file : List ℕ) (meta : Meta) where
  across : (w : Way) (p : Site) (i j : ℕ) (a b : Task) → i < j → IsAt file meta w p i a → IsAt file meta w p j b → Ahead a b
  across w p i j (To_visit v t) (To_visit u q) lt h k = grind (arith, append_assoc, before_sides)
  across w p i j a b lt h k = grind arith

  entry_rises : (path : Path) (o : Option LeafElement) (v : Way) (q : Option Site)
      → RisesBy Ahead (gives_at file meta path o ++ visits_at file meta v q)
  entry_rises path o v q = grind arith

  from_rises : (w : Way) (p : Site) (i k : ℕ) → RisesBy Ahead (tasks_from file meta w p i k)
  from_rises w p i zero = tt
  from_rises w p i (suc k) =
      rises_append Ahead (entry_tasks file meta w p i) (tasks_from file meta w p (suc i) k)
      (entry_rises p.path (slice_get p.elements i) (further w i) (step_site file meta p i)) (from_rises w p (suc i) k)
      (λ a b ha hb. let (j, le, at) = from_at file meta w p (suc i) k b hb in across w p i j a b (omega (arith, le)) (entry_at file meta w p i a ha) at)

  after_rises : (w : Way) (p : Site) (found : Option Finding) → RisesBy Ahead (tasks_after file meta w p found)
  after_rises w p found = grind (arith, from_rises)

  child_ahead : (w : Way) (p : Site) (j : ℕ) (a b : Task) → IsAt file meta w p j a → Ahead (To_visit w p) b → Ahead a b
  child_ahead w p j (To_visit v t) (To_visit u q) at before = grind (arith, append_assoc)
  child_ahead w p j a b at before = grind arith

  before_all : (w : Way) (visits : List SurveyedWay) → ((u : SurveyedWay) → Has visits u → Before w u.way) → Each (Before w) (ways visits)
  before_all w visits h = grind (arith, map_has)

  -- all below what is to be visited next, and all below what comes after it
  below : (w u : Way) (p : Site) (found : Option Finding) (tasks : List Task) → ((b : Task) → Has tasks b → Ahead (To_visit w p) b)
      → Under (tasks_after file meta w p found ++ tasks) u
      → Before w u × Under (To_visit w p ∷ tasks) u
  below w u p found tasks before (v, q, rest, inside, same) =
      elim (has_split (tasks_after file meta w p found) tasks (To_visit v q) inside) [
        | inl child ↦
            let (none, j, at) = after_at file meta w p found (To_visit v q) child in
            let long : u ≡ w ++ j ∷ rest = same ∙ ap (λ (z : Way). z ++ rest) at.0 ∙ append_assoc w (j ∷ []) rest in
            (subst (Before w) (sym long) (before_under w rest j), (w, p, j ∷ rest, inl refl, long))
        | inr later ↦ (
          subst (Before w) (sym same) (subst (λ (z : Way). Before z (v ++ rest)) (append-nil w) (before (To_visit v q) later [] rest)),
          (v, q, rest, inr later, same),
        )
      ]

  abbrev Rise : List Task → List Event → Type 0
  Rise tasks events = RisesBy Before (ways (visits_of events)) × ((u : SurveyedWay) → Has (visits_of events) u → Under tasks u.way)

  pub rises_course : (claimed : ℕ → Bool) (tasks : List Task) (events : List Event) → Course file meta claimed tasks events → RisesBy Ahead tasks
      → Rise tasks events
  rises_course claimed tasks events done rise = (tt, λ u has. absurd has)
  rises_course claimed tasks events (give {tasks = more} {events = rest} course) rise =
      let later = rises_course claimed more rest course in grind (arith, later)
  rises_course claimed tasks events (visit {way = w} {p = p} {found = found} {tasks = more} {events = rest} here course) rise =
      let first = tasks_after file meta w p found in
      let later = rises_course _ (first ++ more) rest course
      (rises_append Ahead first more (after_rises w p found) rise.1
      (λ a b child inside. let (none, j, at) = after_at file meta w p found a child in child_ahead w p j a b at (rise.0 b inside))) in (
        (before_all w (visits_of rest) (λ u has. (below w u.way p found more rise.0 (later.1 u has)).0), later.0),
        λ u has. elim has [
          | inl same ↦ (w, p, [], inl refl, ap (λ (z : SurveyedWay). z.way) (sym same) ∙ sym (append-nil w))
          | inr inside ↦ (below w u.way p found more rise.0 (later.1 u inside)).1
        ],
      )
