-- What a course visits is a survey, and what it returns are the elements at the kept ways.
use Rattle.std.proofs.Common.{◌≡◌, ◌∙◌, ◌⊎◌, ◌↔◌, ◌<◌, inl, inr, ℕ, Bool, true, List, [], ◌∷◌, ◌++◌, Option, Some, None, refl, sym, ap, subst}
use Rattle.std.proofs.Common.{subst₂, arith, append_assoc, cond}
use Rattle.bolt_lemmas.proofs.Exports.{either_or, flat_has, has_flat, rises_across}
use Rattle.bolt_recover.proofs.Words.{after_event, after_events, all_events, append-nil, claimed_after, claims_of, Contains, contains_at}
use Rattle.bolt_recover.proofs.Words.{contains_from_has, counted, Each, Event, false≢true, Finding, further, gaps_of, Given, Gives, Has}
use Rattle.bolt_recover.proofs.Words.{has_from_contains, has_left, has_right, has_split, is_at_page, IsClaimedIn, IsKeptPage, IsMetaPage, IsOpen}
use Rattle.bolt_recover.proofs.Words.{IsRecoveredMember, IsSurvey, Item, item_of, kept_gap, way_kept, LeafElement, loss_at, losses_of, members_at}
use Rattle.bolt_recover.proofs.Words.{members_of, Meta, meta_pages, nat_tests, node_at, Nodes, Outcome, outcome_of}
use Rattle.bolt_recover.proofs.Words.{page_ways, Path, Reach, reached, root_site, root_tasks, same_Some, Site, site_at, site_size, span_of, SpanAt}
use Rattle.bolt_recover.proofs.Words.{SpanHas, Spot, step_site, sum_by-cons, SurveyedWay, Task, tasks_after, To_give, To_visit, Visited, visit_at}
use Rattle.bolt_recover.proofs.Words.{visits_of, Way, RisesBy, Before}
use Rattle.bolt_recover.proofs.{Courses.Course, Courses.course, Courses.Course.done, Courses.Course.give, Courses.Course.visit}
use Rattle.bolt_recover.proofs.{CourseOrder.rises_course}
use Rattle.bolt_recover.proofs.SiteFacts.{leads_within, site_further, site_is, size_enough, slice_of, spot_is, step_spot}
use Rattle.bolt_recover.proofs.{SurveyIsOne.Earlier, SurveyIsOne.gives_same, SurveyIsOne.in_front, SurveyIsOne.rise, SurveyIsOne.ways}
use Rattle.bolt_recover.proofs.{MembersInBuckets.well_at}
use Rattle.bolt_recover.proofs.TaskLists.{IsAt, after_at, at_from}

-- the claims of a spot are its span
pub claims_in : (nodes : Nodes) (s : Spot) (n : ℕ) → (claims_of nodes s n ≡ true) ↔ SpanAt nodes s n
claims_in nodes s n = grind (arith, false≢true)

module _ (file : List ℕ) (meta : Meta) where
  abbrev pub nodes : Nodes
  nodes = node_at file meta

  abbrev pub reach : Reach
  reach = reached nodes meta.root

  -- page n is claimed by a visit, if that is kept
  abbrev ByKept : (SurveyedWay → Type 0) → ℕ → Type 0
  ByKept IsVisit n = (v : Way) × (IsVisit (way_kept v) × SpanHas nodes (reach v) n)

  by_visit : (w : Way) (p : Site) (found : Option Finding) (n : ℕ) → site_at file meta w ≡ Some p
      → (span_of nodes p.spot found n ≡ true) ↔ ByKept (λ v. v ≡ record { way = w; found = found }) n
  by_visit w p None n at = (
    λ is. (w, (refl, subst (λ (o : Option Spot). SpanHas nodes o n) (sym (spot_is file meta w p at)) ((claims_in nodes p.spot n).0 is))),
    λ (v, (same, span)).
        (claims_in nodes p.spot n).1
        (subst (λ (o : Option Spot). SpanHas nodes o n) (ap reach (ap (λ (z : SurveyedWay). z.way) same) ∙ spot_is file meta w p at) span),
  )
  by_visit w p (Some x) n at = grind (arith, false≢true)

  -- what comes of events is what the survey of their visits says
  pub record Tallied (o : Outcome) (events : List Event) : Type 0 where
    pub losses : (after_events file meta o events).losses ≡ o.losses ++ losses_of file meta (visits_of events)
    pub gaps : (after_events file meta o events).gaps ≡ o.gaps ++ gaps_of file meta (visits_of events)
    pub pages : counted (after_events file meta o events).visited 0 ≡ counted o.visited (page_ways reach (visits_of events))

  tallied : (o : Outcome) (events : List Event)
      → ((w : Way) (p : Site) (found : Option Finding) → Has events (Visited w p found) → site_at file meta w ≡ Some p) → Tallied o events
  tallied o [] placed = record { losses = sym (append-nil o.losses); gaps = sym (append-nil o.gaps); pages = refl }
  tallied o (Given path e ∷ events) placed =
      let rest = tallied o events (λ w p found h. placed w p found (inr h)) in record { losses = rest.losses; gaps = rest.gaps; pages = rest.pages }
  tallied o (Visited w p found ∷ events) placed =
      let at = placed w p found (inl refl) in
      let rest = tallied (after_event file meta o (Visited w p found)) events (λ v q f h. placed v q f (inr h)) in
      let here = ap {B = ℕ} (λ (o : Option Spot). cond (is_at_page o) 1 0) (spot_is file meta w p at) in
      let all = sum_by-cons (λ (u : SurveyedWay). cond (is_at_page (reach u.way)) 1 0) (record { way = w; found = found }) (visits_of events) in
      let pages = rest.pages in
      record {
        losses = rest.losses ∙ append_assoc o.losses (loss_at (Some p) found) (losses_of file meta (visits_of events))
            ∙ ap (λ ls. o.losses ++ (ls ++ losses_of file meta (visits_of events))) (ap (λ (q : Option Site). loss_at q found) (sym at));
        gaps = rest.gaps ∙ append_assoc o.gaps (kept_gap file meta (Some p.spot) found) (gaps_of file meta (visits_of events))
            ∙ ap (λ (q : Option Spot). o.gaps ++ (kept_gap file meta q found ++ gaps_of file meta (visits_of events))) (sym (spot_is file meta w p at));
        pages = omega (arith, here, all, pages);
      }

module _ (file : List ℕ) (meta : Meta) (survey : List SurveyedWay) where
  -- the claims are those of the kept visits in front
  abbrev AreClaims : (SurveyedWay → Type 0) → (ℕ → Bool) → Type 0
  AreClaims InFront claimed = (n : ℕ) → (claimed n ≡ true) ↔ (IsMetaPage n ⊎ ByKept file meta InFront n)

  -- an element at a kept way
  abbrev IsGiven : Path → LeafElement → Type 0
  IsGiven path e =
      (way : Way) × (p : Site) × Has survey (way_kept way) × (site_at file meta way ≡ Some p) × Contains p.elements e × (path ≡ p.path ++ e.key ∷ [])

  abbrev IsTask : Task → Type 0
  IsTask (To_give path e) = IsGiven path e
  IsTask (To_visit w p) = IsOpen survey w × (site_at file meta w ≡ Some p)

  abbrev IsEvent : Event → Type 0
  IsEvent (Given path e) = IsGiven path e
  IsEvent (Visited w p found) =
      IsOpen survey w × (site_at file meta w ≡ Some p) × Gives (nodes file meta) (IsClaimedIn (nodes file meta) (reach file meta) survey w) p.spot found

  child_is : (w : Way) (p : Site) (i : ℕ) (task : Task) → Has survey (way_kept w) → site_at file meta w ≡ Some p → IsAt file meta w p i task
      → IsTask task
  child_is w p i task has at h = grind (arith, contains_at, site_further)

  -- a task is done
  abbrev Done : List Event → Task → Type 0
  Done events (To_give path e) = Has events (Given path e)
  Done events (To_visit w p) = (found : Option Finding) × Has events (Visited w p found)

  done_later : (x : Event) (events : List Event) (task : Task) → Done events task → Done (x ∷ events) task
  done_later x events task h = grind arith

  abbrev tasks_of : Event → List Task
  tasks_of (Given path e) = []
  tasks_of (Visited w p found) = tasks_after file meta w p found

  -- what comes of a course: the tasks are done, and those at the sites that are visited, and the kept visits claim what is claimed at the end
  record Comes (claimed : ℕ → Bool) (tasks : List Task) (events : List Event) : Type 0 where
    claims : (o : Outcome) → o.claimed ≡ claimed → AreClaims (Has survey) (after_events file meta o events).claimed
    only : Each IsEvent events
    led : Each (Done events) tasks
    kids : (x : Event) → Has events x → Each (Done events) (tasks_of x)

  -- the claims in front are those that test 18 looks at
  module _ (front : List SurveyedWay) (x : SurveyedWay) (rest : List SurveyedWay) (all : front ++ x ∷ rest ≡ survey) (rises : RisesBy Earlier survey) where
    in_rest : (v : SurveyedWay) → Has survey v → Earlier v x → Has front v
    in_rest v has = let rises_all = subst (RisesBy Earlier) (sym all) rises in grind (arith, in_front, rises_all)

    in_all : (v : SurveyedWay) → Has front v → Has survey v × Earlier v x
    in_all v has = (
      subst (λ (s : List SurveyedWay). Has s v) all (has_left front (x ∷ rest) v has),
      rises_across Earlier front (x ∷ rest) (subst (RisesBy Earlier) (sym all) rises) v x has (inl refl),
    )

    claimed_here : (claimed : ℕ → Bool) → AreClaims (Has front) claimed → (n : ℕ) → IsClaimedIn (nodes file meta) (reach file meta) survey x.way n
        → claimed n ≡ true
    claimed_here claimed claims n h = grind (arith, in_rest)

    claimed_there : (claimed : ℕ → Bool) → AreClaims (Has front) claimed → (n : ℕ) → claimed n ≡ true
        → IsClaimedIn (nodes file meta) (reach file meta) survey x.way n
    claimed_there claimed claims n is = grind (arith, in_all)

  -- the claims after a visit
  claims_after : (front : List SurveyedWay) (w : Way) (p : Site) (found : Option Finding) (claimed : ℕ → Bool) → site_at file meta w ≡ Some p
      → AreClaims (Has front) claimed
      → AreClaims (Has (front ++ record { way = w; found = found } ∷ [])) (claimed_after (nodes file meta) claimed p.spot found)
  claims_after front w p found claimed at claims n =
      let this : List SurveyedWay = record { way = w; found = found } ∷ [] in
      either_or (claimed n) (span_of (nodes file meta) p.spot found n) _ _ _ (claims n) (by_visit file meta w p found n at)
      (λ is. elim is [ inl low ↦ inl low | inr (v, (before, span)) ↦ inr (v, (has_left front this (way_kept v) before, span)) ])
      (λ (v, (same, span)). inr (v, (has_right front this (way_kept v) (inl (sym same)), span)))
      (λ is. elim is [
        | inl low ↦ inl (inl low)
        | inr (v, (has, span)) ↦
            elim (has_split front this (way_kept v) has) [
              | inl before ↦ inl (inr (v, (before, span)))
              | inr last ↦ elim last [ inl same ↦ inr (v, (sym same, span)) | inr none ↦ absurd none ]
            ]
      ])

  comes_more : (claimed after : ℕ → Bool) (x : Event) (task : Task) (first tasks : List Task) (events : List Event)
      → ((o : Outcome) → o.claimed ≡ claimed → (after_event file meta o x).claimed ≡ after)
      → IsEvent x → Done (x ∷ events) task → tasks_of x ≡ first → Comes after (first ++ tasks) events → Comes claimed (task ∷ tasks) (x ∷ events)
  comes_more claimed after x task first tasks events next is ends own later = grind (arith, done_later, has_right, has_left)

  comes_course : (claimed : ℕ → Bool) (tasks : List Task) (events : List Event) → Course file meta claimed tasks events
      → (front : List SurveyedWay) → front ++ visits_of events ≡ survey → RisesBy Earlier survey → AreClaims (Has front) claimed → Each IsTask tasks
      → Comes claimed tasks events
  comes_course claimed tasks events done front all rises claims are = record {
    claims = λ o same. subst₂ (λ (visits : List SurveyedWay) (f : ℕ → Bool). AreClaims (Has visits) f) (sym (append-nil front) ∙ all) (sym same) claims;
    only = λ x h. absurd h;
    led = λ t h. absurd h;
    kids = λ x h. absurd h;
  }
  comes_course claimed tasks events (give {path = path} {e = e} {tasks = more} {events = rest} course) front all rises claims are =
      comes_more claimed claimed (Given path e) (To_give path e) [] more rest (λ o same. same) (are (To_give path e) (inl refl)) (inl refl) refl
      (comes_course claimed more rest course front all rises claims (λ task h. are task (inr h)))
  comes_course claimed tasks events (visit {way = w} {p = p} {found = found} {tasks = more} {events = rest} gives course) front all rises claims are =
      let this : SurveyedWay = record { way = w; found = found } in
      let (opened, there) = are (To_visit w p) (inl refl) in
      let first = tasks_after file meta w p found in
      let inside : Has survey this = subst (λ (s : List SurveyedWay). Has s this) all (has_right front (this ∷ visits_of rest) this (inl refl)) in
      let here = gives_same (nodes file meta) (λ n. claimed n ≡ true) (IsClaimedIn (nodes file meta) (reach file meta) survey w) p.spot found
      (claimed_there front this (visits_of rest) all rises claimed claims) (claimed_here front this (visits_of rest) all rises claimed claims) gives in
      comes_more claimed _ (Visited w p found) (To_visit w p) first more rest
      (λ o same. ap (λ (f : ℕ → Bool). claimed_after (nodes file meta) f p.spot found) same) (opened, there, here) (found, inl refl) refl
      (comes_course _ (first ++ more) rest course (front ++ this ∷ []) (append_assoc front (this ∷ []) (visits_of rest) ∙ all) rises
      (claims_after front w p found claimed there claims)
      (λ task h. elim (has_split first more task h) [
        | inl child ↦
            let (none, i, is) = after_at file meta w p found task child in
            child_is w p i task (subst (λ (f : Option Finding). Has survey (record { way = w; found = f })) none inside) there is
        | inr later ↦ are task (inr later)
      ]))

-- visits and members among events
visit_in : (events : List Event) (u : SurveyedWay) → Has (visits_of events) u → (p : Site) × Has events (Visited u.way p u.found)
visit_in events u h = let (x, has, at) = flat_has visit_at events u h in by x has at
  where
    by : (x : Event) → Has events x → Has (visit_at x) u → (p : Site) × Has events (Visited u.way p u.found)
    by (Given path e) has at = absurd at
    by (Visited w p found) has (inl same) = (p, subst (λ (v : SurveyedWay). Has events (Visited v.way p v.found)) same has)
    by (Visited w p found) has (inr none) = absurd none

in_visits : (events : List Event) (w : Way) (p : Site) (found : Option Finding) → Has events (Visited w p found)
    → Has (visits_of events) (record { way = w; found = found })
in_visits events w p found h = has_flat visit_at events (Visited w p found) _ h (inl refl)

member_in : (events : List Event) (path : Path) (item : Item) → Contains (members_of events) (path, item)
    → (e : LeafElement) × Has events (Given path e) × (item ≡ item_of e)
member_in events path item h = let (x, has, at) = flat_has members_at events (path, item) (has_from_contains _ _ h) in grind arith

in_members : (events : List Event) (path : Path) (e : LeafElement) → Has events (Given path e) → Contains (members_of events) (path, item_of e)
in_members events path e h = contains_from_has _ _ (has_flat members_at events (Given path e) _ h (inl refl))

-- all that comes of a file
module _ (file : List ℕ) (meta : Meta) where
  abbrev pub survey_of : List SurveyedWay
  survey_of = visits_of (all_events file meta)

  rises : RisesBy Before (ways survey_of)
  rises =
      (rises_course file meta meta_pages (root_tasks file meta) (all_events file meta) (course file meta (root_tasks file meta) meta_pages)
      (λ b h. absurd h, tt)).0

  comes : Comes file meta survey_of meta_pages (root_tasks file meta) (all_events file meta)
  comes =
      comes_course file meta survey_of meta_pages (root_tasks file meta) (all_events file meta) (course file meta (root_tasks file meta) meta_pages) [] refl
      (rise survey_of rises)
      (λ n. (λ is. inl (grind (arith, nat_tests)), λ is. elim is [ inl low ↦ grind (arith, nat_tests) | inr (v, (front, span)) ↦ absurd front ]))
      (λ task h. elim h [ inl same ↦ subst (IsTask file meta survey_of) same (inl refl, refl) | inr none ↦ absurd none ])

  pub placed : (w : Way) (p : Site) (found : Option Finding) → Has (all_events file meta) (Visited w p found) → site_at file meta w ≡ Some p
  placed w p found there = (comes.only (Visited w p found) there).1

  -- a site that is visited, and what there is to do at a kept one
  site_of : (u : SurveyedWay) → Has survey_of u
      → (p : Site) × Has (all_events file meta) (Visited u.way p u.found) × (site_at file meta u.way ≡ Some p)
      × Gives (nodes file meta) (IsClaimedIn (nodes file meta) (reach file meta) survey_of u.way) p.spot u.found
  site_of u has = grind (arith, visit_in, comes)

  done_at : (w : Way) (p : Site) (i : ℕ) (task : Task) → Has (all_events file meta) (Visited w p None)
      → i < site_size (nodes file meta) p.spot p.elements → IsAt file meta w p i task
      → Done file meta survey_of (all_events file meta) task
  done_at w p i task there lt at = comes.kids (Visited w p None) there task (at_from file meta w p 0 _ i task (omega arith) (omega (arith, lt)) at)

  pub surveyed : IsSurvey file meta survey_of
  surveyed = record {
    rises = rises;
    only =
        λ u has. let (p, there, at, gives) = site_of u has in ((comes.only (Visited u.way p u.found) there).0, (p.spot, spot_is file meta u.way p at, gives));
    all = λ way s opened leads. elim opened [
      | inl none ↦
          let (found, there) = comes.led (To_visit [] (root_site file meta)) (inl refl) in (
            found,
            subst (λ (w : Way). Has survey_of (record { way = w; found = found })) (sym none)
                (in_visits (all_events file meta) [] (root_site file meta) found there),
          )
      | inr (parent, i, is, has) ↦
          let (t, leads_to, same) = site_is file meta way s leads in
          let (p, there, at, gives) = site_of (way_kept parent) has in
          let on : step_site file meta p i ≡ Some t = sym (site_further file meta parent i p at) ∙ ap (site_at file meta) (sym is) ∙ leads_to in
          let lt = leads_within (nodes file meta) p.spot p.elements i t.spot (step_spot file meta p t i on) in
          let (found, below) = done_at parent p i (To_visit (further parent i) t) there lt (refl, on) in (
            found,
            subst (λ (w : Way). Has survey_of (record { way = w; found = found })) (sym is) (in_visits (all_events file meta) (further parent i) t found below),
          )
    ];
  }

  pub all_members : (path : Path) (item : Item)
      → Contains (members_of (all_events file meta)) (path, item) ↔ IsRecoveredMember file meta survey_of path item
  all_members path item = (
    λ has.
        let (e, there, is) = member_in (all_events file meta) path item has in
        let (way, p, keeps, leads, inside, named) = comes.only (Given path e) there in
        record { way = way; site = p; element = e; keeps = keeps; leads = leads; has = inside; named = named; is = is },
    λ is.
        let (p, there, at, gives) = site_of (way_kept is.way) is.keeps in
        let one : p ≡ is.site = same_Some p is.site (sym at ∙ is.leads) in
        let (i, lt, get) = slice_of p.elements is.element (subst (λ (z : Site). Contains z.elements is.element) (sym one) is.has) in
        let enough = size_enough file meta _ p.spot p.elements (well_at file meta is.way p at).1 gives in
        let given = done_at is.way p i (To_give (p.path ++ is.element.key ∷ []) is.element) there (omega (arith, lt, enough)) (get, refl) in
        let named : p.path ++ is.element.key ∷ [] ≡ path = ap (λ (z : Site). z.path ++ is.element.key ∷ []) one ∙ sym is.named in
        subst (λ (m : Path × Item). Contains (members_of (all_events file meta)) m) (λ j. (named j, sym is.is j))
        (in_members (all_events file meta) (p.path ++ is.element.key ∷ []) is.element given),
  )

  pub tally : (begun : ℕ) → Tallied file meta (record { losses = []; gaps = []; visited = begun; claimed = meta_pages }) (all_events file meta)
  tally begun = tallied file meta (record { losses = []; gaps = []; visited = begun; claimed = meta_pages }) (all_events file meta) placed

  -- the pages that its kept visits take in
  pub all_claimed : (begun n : ℕ) → ((outcome_of file meta begun (all_events file meta)).claimed n ≡ true) ↔ IsKeptPage file meta survey_of n
  all_claimed begun n = comes.claims (record { losses = []; gaps = []; visited = begun; claimed = meta_pages }) refl n
