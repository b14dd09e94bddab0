-- Values of an open page that are skipped: the same comes of the rest.
use Rattle.std.proofs.Common.{◌≡◌, ◌∙◌, ◌≤◌, ◌<◌, ℕ, zero, suc, ◌+◌, ◌-◌, Bool, false, List, [], ◌∷◌, ◌++◌, Option, Some, None, slice_get, take, refl}
use Rattle.std.proofs.Common.{sym, ap, arith, append_assoc, Vec, Global}
use Rattle.bolt_recover.proofs.Words.{after_events, claims_file, claims_meta, content_elements, content_site, Event, events, further, gives_at}
use Rattle.bolt_recover.proofs.Words.{is_claimed, AreStepsPlaced, item_of, LeafElement, Member, members_of, Meta, open_tasks, OpenPage}
use Rattle.bolt_recover.proofs.Words.{option_map, Outcome, page_spot, Path, shown_node, Site, slice_get-map, step_on, step_site, steps_left}
use Rattle.bolt_recover.proofs.Words.{steps_path, Task, tasks_from, TreePage, visits_at, Way, way_of}
use Rattle.bolt_format.specs.TreePages.{shown_page}
use Rattle.bolt_check.specs.{declared.spot.PageSpot.PageSpot, declared.spot.Spot.Spot}
use Rattle.bolt_recover.specs.{Private.Frames.IsGoodAt, Private.Frames.IsValueElement, Private.Frames.Skips, declared.steps.Steps.Steps}
use Rattle.bolt_recover.proofs.{Courses.events_give, StepLemmas.are_open_push, StepLemmas.inner, StepLemmas.open_last, StepLemmas.tasks_top}

-- ---- Values lead nowhere.
nowhere : (page : TreePage) (s : PageSpot) (n : ℕ) → IsValueElement (shown_page page).leaves n → step_on (shown_node page) (page_spot s) n ≡ None
unfolding shown_node
nowhere page s n value = grind (arith, slice_get-map)

value_at : (file : List ℕ) (meta : Meta) (path : Path) (page : TreePage) (s : Spot) (n : ℕ) → IsGoodAt file meta page s
    → IsValueElement (shown_page page).leaves n
    → step_site file meta (content_site path (record { spot = s; page = page })) n ≡ None
value_at file meta path page s n good value = grind (arith, nowhere)

-- ---- They add nothing to what comes of the rest.
record Drops (old new : List Event) : Type 0 where
  dropped : List Member
  members : members_of old ≡ dropped ++ members_of new
  same : (file : List ℕ) (meta : Meta) (o : Outcome) → after_events file meta o old ≡ after_events file meta o new

drops_on : (a b c : List Event) → Drops a b → Drops b c → Drops a c
drops_on a b c first then = record {
  dropped = first.dropped ++ then.dropped;
  members = first.members ∙ ap (λ (ms : List Member). first.dropped ++ ms) then.members ∙ sym (append_assoc first.dropped then.dropped (members_of c));
  same = λ file meta o. first.same file meta o ∙ then.same file meta o;
}

module _ (file : List ℕ) (meta : Meta) (claimed : ℕ → Bool) (way : Way) (p : Site) (rest : List Task) where
  entry_drops : (further : Way) (o : Option LeafElement) (q : Option Site) (more : List Task)
      → option_map (λ (e : LeafElement). e.is_bucket) o ≡ Some false → q ≡ None
      → Drops (events file meta ((gives_at file meta p.path o ++ visits_at file meta further q) ++ more ++ rest) claimed)
      (events file meta (more ++ rest) claimed)
  entry_drops further (Some e) None more value none =
      rw (events_give file meta claimed (p.path ++ e.key ∷ []) e (more ++ rest))
      (record { dropped = (p.path ++ e.key ∷ [], item_of e) ∷ []; members = refl; same = λ file meta o. refl })
  entry_drops further o q more value none = grind arith

  -- from i to j
  values_drop : (k i j a b : ℕ) → i + k ≡ j → a ≡ k + b → ((n : ℕ) → i ≤ n → n < j → IsValueElement p.elements n × (step_site file meta p n ≡ None))
      → Drops (events file meta (tasks_from file meta way p i a ++ rest) claimed) (events file meta (tasks_from file meta way p j b ++ rest) claimed)
  values_drop zero i j a b to all values =
      let there : j ≡ i = omega (arith, to) in
      let long : a ≡ b = omega (arith, all) in
      rw (there, long) (record { dropped = []; members = refl; same = λ file meta o. refl })
  values_drop (suc k) i j a b to all values =
      let long : a ≡ suc (k + b) = omega (arith, all) in
      let here = values i (omega arith) (omega (arith, to)) in
      rw long
      (drops_on _ _ _ (entry_drops (further way i) (slice_get p.elements i) (step_site file meta p i) (tasks_from file meta way p (suc i) (k + b))
      here.0 here.1)
      (values_drop k (suc i) j (k + b) b (omega (arith, to)) refl (λ n from below. values n (omega (arith, from)) below)))

-- ---- The innermost page goes on.
skips : (s : Steps) (stack : Vec OpenPage Global) (old new : List Event) → let on : Steps = record s { «open» = stack } in
    AreStepsPlaced on → steps_left s ≡ old → steps_left on ≡ new → Drops old new → Skips s on
skips s stack old new placed before after drops = grind arith

pub skipped : (s : Steps) (front : List OpenPage) (top : OpenPage) (stack : Vec OpenPage Global) (next : ℕ) → AreStepsPlaced s → s.ahead ≡ None
    → s.open.items ≡ front ++ top ∷ []
    → top.next ≤ next → next ≤ top.count → ((n : ℕ) → top.next ≤ n → n < next → IsValueElement (content_elements top.content) n)
    → stack.items ≡ front ++ record top { next = next } ∷ [] → Skips s (record s { «open» = stack })
skipped s front top stack next has is pages from within values put =
    let file = claims_file s.claims in
    let meta = claims_meta s.claims in
    let path = steps_path s in
    let here = inner s front top has is pages in
    let moved : OpenPage = record top { next = next } in
    let site : Site = content_site (take top.path_len path) top.content in
    let left : ℕ → List Task = λ i. tasks_from file meta (way_of front) site i (top.count - i) ++ open_tasks file meta path [] front [] in
    let comes : List Task → List Event = λ tasks. events file meta tasks (is_claimed s.claims) in
    skips s stack (comes (left top.next)) (comes (left next))
    (rw (is, put) (record {
      pages =
          are_open_push file meta 0 front moved _ here.below
          (record { content = here.good.content; count = here.good.count; fits = here.good.fits; taken = within }) here.within;
      within = omega arith;
    }))
    (ap comes (tasks_top s front top has is pages))
    (ap comes (rw (is, put) (open_last file meta path [] front moved [])))
    (values_drop file meta (is_claimed s.claims) (way_of front) site (open_tasks file meta path [] front []) (next - top.next) top.next next
    (top.count - top.next) (top.count - next)
    (omega (arith, from)) (omega (arith, from, within))
    (λ n le lt. (values n le lt, value_at file meta (take top.path_len path) top.content.page top.content.spot n here.good.content (values n le lt))))
