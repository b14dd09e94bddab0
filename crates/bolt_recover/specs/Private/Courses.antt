-- What is still to be done, and all that comes of it: what is visited, and what is returned.
use Rattle.std.specs.Prelude.{ℕ, zero, suc, ◌+◌, Bool, false, ◌||◌, ◌&&◌, List, [], ◌∷◌, ◌++◌, length, Option, Some, None, Result, Ok, Err, nat_le}
use Rattle.std.specs.Prelude.{nat_lt, slice_get, if◌then◌else◌}
use Rattle.std.specs.List.{flat_map}
use Rattle.bolt_format.specs.{Elements.LeafElement, declared.meta.Meta.Meta}
use Rattle.bolt_check.specs.{Counts.counted, Nodes.Node, Nodes.Nodes, Nodes.node_at, Ways.At_inline, Ways.At_page, Ways.Spot}
use Rattle.bolt_check.specs.{declared.finding.Finding.Finding}
use Rattle.bolt_tree.specs.{Entries.item_of, Listing.Member, Paths.Path}
use Rattle.bolt_recover.specs.{PageGaps.PageGapView, PageGaps.kept_gap, Losses.LossView, Losses.loss_at, PageWays.is_at_page, Private.Tests.test}
use Rattle.bolt_recover.specs.{Sites.Site, Sites.root_site, Sites.step_site, Surveys.SurveyedWay}

abbrev pub Way : Type 0
Way = List ℕ

abbrev pub further : Way → ℕ → Way
further way i = way ++ i ∷ []

-- the site at a way, to be visited, or an element to be returned under its path
pub data Task : Type 0 where
  To_visit : Way → Site → Task
  To_give : Path → LeafElement → Task

-- a site that was visited and what was found there, or an element that was returned
pub data Event : Type 0 where
  Visited : Way → Site → Option Finding → Event
  Given : Path → LeafElement → Event

-- how many entries there are at a site
abbrev pub entry_count : Result Node ℕ → ℕ
entry_count (Ok node) = length node.entries
entry_count (Err fault) = 0

abbrev pub site_size : Nodes → Spot → List LeafElement → ℕ
site_size nodes (At_page s) elements = entry_count (nodes s.number)
site_size nodes (At_inline host inner) elements = length elements

-- the pages that are claimed once this spot is
abbrev pub in_span : Result Node ℕ → ℕ → ℕ → Bool
in_span (Ok node) number n = nat_le number n && nat_le n (number + node.overflow)
in_span (Err fault) number n = false

abbrev pub claims_of : Nodes → Spot → ℕ → Bool
claims_of nodes (At_page s) n = in_span (nodes s.number) s.number n
claims_of nodes (At_inline host inner) n = false

-- only the meta pages
abbrev pub meta_pages : ℕ → Bool
meta_pages n = nat_lt n 2

-- page n lies in the span of a spot that is kept
abbrev pub span_of : Nodes → Spot → Option Finding → ℕ → Bool
span_of nodes s None n = claims_of nodes s n
span_of nodes s (Some x) n = false

abbrev pub claimed_after : Nodes → (ℕ → Bool) → Spot → Option Finding → ℕ → Bool
claimed_after nodes claimed s found n = claimed n || span_of nodes s found n

-- what comes of events: the losses and the gaps, in order, the number of visits of pages, and the claimed pages
pub record Outcome : Type 0 where
  pub losses : List LossView
  pub gaps : List PageGapView
  pub visited : ℕ
  pub claimed : ℕ → Bool

-- how many visits are of pages
abbrev pub page_visit : Spot → ℕ
page_visit s = if is_at_page (Some s) then 1 else 0

abbrev pub after_event : List ℕ → Meta → Outcome → Event → Outcome
after_event file meta o (Given path e) = o
after_event file meta o (Visited way p found) = record {
  losses = o.losses ++ loss_at (Some p) found;
  gaps = o.gaps ++ kept_gap file meta (Some p.spot) found;
  visited = counted o.visited (page_visit p.spot);
  claimed = claimed_after (node_at file meta) o.claimed p.spot found;
}

abbrev pub after_events : List ℕ → Meta → Outcome → List Event → Outcome
after_events file meta o [] = o
after_events file meta o (event ∷ events) = after_events file meta (after_event file meta o event) events

-- what comes of all events of a file, if `begun` visits were made before
abbrev pub outcome_of : List ℕ → Meta → ℕ → List Event → Outcome
outcome_of file meta begun events = after_events file meta (record { losses = []; gaps = []; visited = begun; claimed = meta_pages }) events

-- the members that are returned
abbrev pub members_at : Event → List Member
members_at (Visited way p found) = []
members_at (Given path e) = (path, item_of e) ∷ []

abbrev pub members_of : List Event → List Member
members_of events = flat_map members_at events

-- the ways that are visited
abbrev pub visit_at : Event → List SurveyedWay
visit_at (Visited way p found) = record { way = way; found = found } ∷ []
visit_at (Given path e) = []

abbrev pub visits_of : List Event → List SurveyedWay
visits_of events = flat_map visit_at events

-- the elements among tasks are returned, and then comes this
abbrev pub give_all : List Task → List Event → List Event
give_all [] later = later
give_all (To_visit way p ∷ tasks) later = give_all tasks later
give_all (To_give path e ∷ tasks) later = Given path e ∷ give_all tasks later

module _ (file : List ℕ) (meta : Meta) where
  abbrev pub gives_at : Path → Option LeafElement → List Task
  gives_at path None = []
  gives_at path (Some e) = To_give (path ++ e.key ∷ []) e ∷ []

  abbrev pub visits_at : Way → Option Site → List Task
  visits_at way None = []
  visits_at way (Some p) = To_visit way p ∷ []

  -- what there is to do at one entry of a site: its element is returned, and where it leads is visited
  abbrev pub entry_tasks : Way → Site → ℕ → List Task
  entry_tasks way p i = gives_at p.path (slice_get p.elements i) ++ visits_at (further way i) (step_site file meta p i)

  -- what there is to do at `k` entries, from entry i on
  abbrev pub tasks_from : Way → Site → ℕ → ℕ → List Task
  tasks_from way p i zero = []
  tasks_from way p i (suc k) = entry_tasks way p i ++ tasks_from way p (suc i) k

  abbrev pub site_tasks : Way → Site → List Task
  site_tasks way p = tasks_from way p 0 (site_size (node_at file meta) p.spot p.elements)

  -- what there is to do after a visit
  abbrev pub tasks_after : Way → Site → Option Finding → List Task
  tasks_after way p None = site_tasks way p
  tasks_after way p (Some x) = []

  module _ (deeper : List Task → (ℕ → Bool) → List Event) where
    -- after a visit; `later` is what comes of the other tasks alone, if no page is claimed
    abbrev pub run_on : List Event → List Task → (ℕ → Bool) → Way → Site → Option Finding → Spot → List Event
    run_on later tasks claimed way p (Some x) s = later
    run_on later tasks claimed way p None (At_inline host inner) = give_all (site_tasks way p) later
    run_on later tasks claimed way p None (At_page s) = deeper (site_tasks way p ++ tasks) (claimed_after (node_at file meta) claimed (At_page s) None)

    abbrev pub run_all : List Task → (ℕ → Bool) → List Event
    run_all [] claimed = []
    run_all (To_give path e ∷ tasks) claimed = Given path e ∷ run_all tasks claimed
    run_all (To_visit way p ∷ tasks) claimed =
        Visited way p (test (node_at file meta) claimed p.spot)
        ∷ run_on (run_all tasks claimed) tasks claimed way p (test (node_at file meta) claimed p.spot) p.spot

  -- where no more than `k` visits claim a page
  abbrev pub run_to : ℕ → List Task → (ℕ → Bool) → List Event
  run_to zero tasks claimed = []
  run_to (suc k) tasks claimed = run_all (run_to k) tasks claimed

  -- All that comes of tasks. Each page that a visit claims lies below the mark.
  unfoldable pub events : List Task → (ℕ → Bool) → List Event
  events tasks claimed = run_to (suc meta.high_water) tasks claimed

  -- the tasks at the beginning, and all that comes of a file
  abbrev pub root_tasks : List Task
  root_tasks = To_visit [] (root_site file meta) ∷ []

  abbrev pub all_events : List Event
  all_events = events root_tasks meta_pages

  -- the members that the course of a file returns: its recovered listing
  abbrev pub recovered_of : List Member
  recovered_of = members_of all_events
