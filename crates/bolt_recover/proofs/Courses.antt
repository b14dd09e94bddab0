-- The course of tasks: they come to one list of events, that of the function.
use Rattle.std.proofs.Common.{◌≡◌, inl, inr, ℕ, zero, suc, ◌<◌, ◌≤◌, Bool, true, false, List, [], ◌∷◌, ◌++◌, length, Option, Some, None, Ok, refl}
use Rattle.std.proofs.Common.{sym, ap, subst, arith}
use Rattle.bolt_lemmas.proofs.Exports.{has_number, length-numbers, numbers, shorter, still, without}
use Rattle.bolt_recover.proofs.Words.{InlinePage, At_inline, At_page, claimed_after, Event, events, false_from_ne_true, false≢true, Finding, Given}
use Rattle.bolt_recover.proofs.Words.{give_all, Gives, LeafElement, Meta, Node, node_at, node_below, Nodes, or_parts, PageSpot, Path, run_all, run_on}
use Rattle.bolt_recover.proofs.Words.{run_to, Site, site_tasks, Spot, Task, tasks_after, To_give, To_visit, Visited, Way, Has}
use Rattle.bolt_recover.proofs.{SiteFacts.step_spot, SurveyIsOne.gives_one, TaskLists.after_at, Tested.test_finds}
use Rattle.std.proofs.Math.Bool.{or-false}

module _ (file : List ℕ) (meta : Meta) where
  -- from these claims these tasks come to these events
  pub data Course : (ℕ → Bool) → List Task → List Event → Type 0 where
    done : {claimed : ℕ → Bool} → Course claimed [] []
    give : {claimed : ℕ → Bool} {path : Path} {e : LeafElement} {tasks : List Task} {events : List Event}
        → Course claimed tasks events
        → Course claimed (To_give path e ∷ tasks) (Given path e ∷ events)
    visit : {claimed : ℕ → Bool} {way : Way} {p : Site} {found : Option Finding} {tasks : List Task} {events : List Event}
        → Gives (node_at file meta) (λ n. claimed n ≡ true) p.spot found
        → Course (claimed_after (node_at file meta) claimed p.spot found) (tasks_after file meta way p found ++ tasks) events
        → Course claimed (To_visit way p ∷ tasks) (Visited way p found ∷ events)

  -- ---- There is one.
  abbrev nodes : Nodes
  nodes = node_at file meta

  -- each page below the mark that isn't claimed is among these
  abbrev Covers : (ℕ → Bool) → List ℕ → Type 0
  Covers claimed left = (n : ℕ) → n < meta.high_water → claimed n ≡ false → Has left n

  covers_less : (claimed : ℕ → Bool) (left : List ℕ) (s : PageSpot) (node : Node) (has : Has left s.number) → nodes s.number ≡ Ok node
      → Covers claimed left
      → Covers (claimed_after nodes claimed (At_page s) None) (without s.number left has)
  covers_less claimed left s node has page covers n below free = grind (arith, or_parts, false≢true, still)

  -- the elements at an inline page
  course_gives : (claimed : ℕ → Bool) (first tasks : List Task) (later : List Event) → ((way : Way) (p : Site) → Has first (To_visit way p) → ⊥)
      → Course claimed tasks later
      → Course claimed (first ++ tasks) (give_all first later)
  course_gives claimed [] tasks later only course = course
  course_gives claimed (To_visit way p ∷ first) tasks later only course = absurd (only way p (inl refl))
  course_gives claimed (To_give path e ∷ first) tasks later only course = give (course_gives claimed first tasks later (λ way p h. only way p (inr h)) course)

  inline_gives : (way v : Way) (p t : Site) (host : ℕ) (inner : InlinePage) → p.spot ≡ At_inline host inner
      → Has (site_tasks file meta way p) (To_visit v t) → ⊥
  inline_gives way v p t host inner is h = let (none, i, at) = after_at file meta way p None (To_visit v t) h in grind (arith, step_spot)

  -- where fewer pages are left, tasks come to what is run
  module _ (k : ℕ) (deeper : List Task → (ℕ → Bool) → List Event)
      (runs : (left : List ℕ) (claimed : ℕ → Bool) (tasks : List Task) → length left < k → Covers claimed left → Course claimed tasks (deeper tasks claimed)) where
    course_on : (left : List ℕ) (claimed : ℕ → Bool) (tasks : List Task) (later : List Event) (way : Way) (p : Site) (found : Option Finding) (s : Spot)
        → length left ≤ k → Covers claimed left
        → p.spot ≡ s → Gives nodes (λ n. claimed n ≡ true) s found → Course claimed tasks later
        → Course (claimed_after nodes claimed s found) (tasks_after file meta way p found ++ tasks) (run_on file meta deeper later tasks claimed way p found s)
    course_on left claimed tasks later way p (Some x) s le covers is gives course =
        subst (λ (f : ℕ → Bool). Course f tasks later) (λ i n. sym (or-false (claimed n)) i) course
    course_on left claimed tasks later way p None (At_inline host inner) le covers is gives course =
        subst (λ (f : ℕ → Bool). Course f (site_tasks file meta way p ++ tasks) (give_all (site_tasks file meta way p) later))
        (λ i n. sym (or-false (claimed n)) i)
        (course_gives claimed (site_tasks file meta way p) tasks later (λ v t. inline_gives way v p t host inner is) course)
    course_on left claimed tasks later way p None (At_page s) le covers is gives course =
        let free = false_from_ne_true (claimed s.number) (gives.free s.number (omega arith, omega arith)) in
        let has = covers s.number (node_below file meta s.number gives.node gives.page) free in
        let less = shorter s.number left has in
        runs (without s.number left has) (claimed_after nodes claimed (At_page s) None) (site_tasks file meta way p ++ tasks) (omega (arith, less, le))
        (covers_less claimed left s gives.node has gives.page covers)

    course_all : (left : List ℕ) (claimed : ℕ → Bool) (tasks : List Task) → length left ≤ k → Covers claimed left
        → Course claimed tasks (run_all file meta deeper tasks claimed)
    course_all left claimed [] le covers = done
    course_all left claimed (To_give path e ∷ tasks) le covers = give (course_all left claimed tasks le covers)
    course_all left claimed (To_visit way p ∷ tasks) le covers = let later = course_all left claimed tasks in grind (arith, test_finds, course_on, visit, later)

  course_to : (k : ℕ) (left : List ℕ) (claimed : ℕ → Bool) (tasks : List Task) → length left < k → Covers claimed left
      → Course claimed tasks (run_to file meta k tasks claimed)
  course_to zero left claimed tasks lt covers = absurd (omega arith)
  course_to (suc k) left claimed tasks lt covers = course_all k (run_to file meta k) (course_to k) left claimed tasks (omega arith) covers

  pub course : (tasks : List Task) (claimed : ℕ → Bool) → Course claimed tasks (events file meta tasks claimed)
  unfolding events
  course tasks claimed =
      let count = length-numbers meta.high_water in
      course_to (suc meta.high_water) (numbers meta.high_water) claimed tasks (omega (arith, count)) (λ n below free. has_number n meta.high_water below)

  -- ---- And no other.
  one_course : (claimed : ℕ → Bool) (tasks : List Task) (a b : List Event) → Course claimed tasks a → Course claimed tasks b → a ≡ b
  one_course claimed tasks a b done done = refl
  one_course claimed tasks a b (give {path = path} {e = e} here) (give there) = ap (λ (es : List Event). Given path e ∷ es) (one_course _ _ _ _ here there)
  one_course claimed tasks a b (visit {way = way} {p = p} {found = f} {tasks = more} {events = xs} here on) (visit {found = g} {events = ys} there other) =
      subst (λ (z : Option Finding). (es : List Event) → Course (claimed_after nodes claimed p.spot z) (tasks_after file meta way p z ++ more) es
      → Visited way p f ∷ xs ≡ Visited way p z ∷ es)
      (gives_one nodes (λ n. claimed n ≡ true) p.spot f g here there)
      (λ es also. ap (λ (rest : List Event). Visited way p f ∷ rest) (one_course _ _ _ _ on also)) ys other

  -- ---- What comes first.
  pub events_none : (claimed : ℕ → Bool) → events file meta [] claimed ≡ []
  unfolding events
  events_none claimed = refl

  pub events_give : (claimed : ℕ → Bool) (path : Path) (e : LeafElement) (tasks : List Task)
      → events file meta (To_give path e ∷ tasks) claimed ≡ Given path e ∷ events file meta tasks claimed
  unfolding events
  events_give claimed path e tasks = refl

  pub events_visit : (claimed : ℕ → Bool) (way : Way) (p : Site) (found : Option Finding) (tasks : List Task)
      → Gives nodes (λ n. claimed n ≡ true) p.spot found
      → events file meta (To_visit way p ∷ tasks) claimed
      ≡ Visited way p found ∷ events file meta (tasks_after file meta way p found ++ tasks) (claimed_after nodes claimed p.spot found)
  events_visit claimed way p found tasks gives =
      one_course claimed (To_visit way p ∷ tasks) _ _ (course (To_visit way p ∷ tasks) claimed)
      (visit gives (course (tasks_after file meta way p found ++ tasks) (claimed_after nodes claimed p.spot found)))
