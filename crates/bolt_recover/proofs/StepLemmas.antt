-- What the steps of a recovering walk leave to be done.
use Rattle.std.proofs.Common.{◌≡◌, ◌∙◌, ◌≤◌, ◌<◌, ℕ, ◌+◌, ◌-◌, Bool, true, ◌↔◌, List, [], ◌∷◌, ◌++◌, length, map, take, Option, Some, None, slice_get}
use Rattle.std.proofs.Common.{drop, refl, sym, ap, arith, append_assoc, sum_by, Vec, Global, Bor}
use Rattle.bolt_recover.proofs.Words.{after_event, ahead_tasks, all_events, append-nil, AreOpenPages, At_page, both_ways, claimed_after, claims_file}
use Rattle.bolt_recover.proofs.Words.{claims_meta, claims_nodes, claims_visited, claims_with, Event, loss_of, Passes, Tests, KeptPage}
use Rattle.bolt_recover.proofs.Words.{content_elements, content_site, content_size, content_spot, counted, Ends, events, Finding, further, Gives}
use Rattle.bolt_recover.proofs.Words.{GivesHead, StepsOn, is_claimed, IsAllLeft, IsContent, IsGoodKeptPage, IsGoodPage, IsMetaPage, AreStepsPlaced}
use Rattle.bolt_recover.proofs.Words.{IsShallow, kept_gap, LeafElement, length_entries, length-map, length-take-le, loss_view, loss_at, map-append}
use Rattle.bolt_recover.proofs.Words.{members_of, Meta, meta_pages, nat_tests, NextVisit, node_at, open_tasks, OpenPage, option_map, page_gap_view}
use Rattle.bolt_recover.proofs.Words.{page_tasks, page_visit, page_weight, Path, path_of, root_spot, Site, site_size, site_tasks, spot_at, spot_gap}
use Rattle.bolt_recover.proofs.Words.{spot_site, steps_left, steps_path, steps_weight, TreePage, sum_by-append, take-append-drop, take-append-le}
use Rattle.bolt_recover.proofs.Words.{tally_of, Task, tasks_after, tasks_left, Visited, Way, way_of, step_site}
use Rattle.bolt_recover.proofs.{Courses.events_give, Courses.events_none, Courses.events_visit, SurveyIsOne.gives_same}
use Rattle.bolt_format.specs.TreePages.{page_keys, shown_page}
use Rattle.bolt_recover.specs.{Private.Frames.IsGoodAt, Private.Frames.IsShallowAt, declared.page_gaps.PageGap.PageGap, declared.losses.Loss.Loss}
use Rattle.bolt_recover.specs.{declared.steps.Steps.Steps}
use Rattle.bolt_check.specs.{declared.claims.Claims.Claims, declared.spot.Spot.Spot}
use Rattle.bolt_check.specs.declared.spot.Spot.TheVariants as spots
use Rattle.std.proofs.Math.Bool.{or-false}

module _ (file : List ℕ) (meta : Meta) where
  -- the innermost page is the last one
  pub open_last : (path : Path) (way : Way) (pages : List OpenPage) (page : OpenPage) (rest : List Task)
      → open_tasks file meta path way (pages ++ page ∷ []) rest
      ≡ page_tasks file meta path (way ++ way_of pages) page ++ open_tasks file meta path way pages rest
  open_last path way [] page rest = ap (λ (w : Way). page_tasks file meta path w page ++ rest) (sym (append-nil way))
  open_last path way (first ∷ pages) page rest = let later = open_last path (further way (first.next - 1)) pages page in grind (arith, append_assoc, later)

  pub are_open_push : (low : ℕ) (pages : List OpenPage) (page : OpenPage) (high : ℕ)
      → AreOpenPages file meta low pages page.path_len → IsGoodPage file meta page → page.path_len ≤ high → AreOpenPages file meta low (pages ++ page ∷ []) high
  are_open_push low [] page high are good le = (are, good, le)
  are_open_push low (first ∷ pages) page high are good le = (are.0, are.1, are_open_push first.path_len pages page high are.2 good le)

  -- the innermost page, and those before it
  pub record Innermost (low : ℕ) (pages : List OpenPage) (page : OpenPage) (high : ℕ) : Type 0 where
    pub below : AreOpenPages file meta low pages page.path_len
    pub good : IsGoodPage file meta page
    pub within : page.path_len ≤ high

  low_high : (low : ℕ) (pages : List OpenPage) (high : ℕ) → AreOpenPages file meta low pages high → low ≤ high
  low_high low [] high are = are
  low_high low (first ∷ pages) high are = let more = low_high first.path_len pages high are.2 in let here = are.0 in omega (arith, more, here)

  innermost : (low : ℕ) (pages : List OpenPage) (page : OpenPage) (high : ℕ) → AreOpenPages file meta low (pages ++ page ∷ []) high
      → Innermost low pages page high
  innermost low [] page high are = record { below = are.0; good = are.1; within = are.2 }
  innermost low (first ∷ pages) page high are = let later = innermost first.path_len pages page high are.2 in grind arith

  are_open_up : (low : ℕ) (pages : List OpenPage) (high higher : ℕ) → AreOpenPages file meta low pages high → high ≤ higher
      → AreOpenPages file meta low pages higher
  are_open_up low [] high higher are le = omega (arith, are, le)
  are_open_up low (first ∷ pages) high higher are le = (are.0, are.1, are_open_up first.path_len pages high higher are.2 le)

  -- the tasks of open pages look at no more of the path than that of their bucket
  same_open : (low high : ℕ) (pages : List OpenPage) (way : Way) (a b : Path) (rest : List Task) → AreOpenPages file meta low pages high
      → ((n : ℕ) → n ≤ high → take n a ≡ take n b) → open_tasks file meta a way pages rest ≡ open_tasks file meta b way pages rest
  same_open low high [] way a b rest are same = refl
  same_open low high (page ∷ pages) way a b rest are same = let later = same_open page.path_len high pages in grind (arith, low_high, later)

  size_at : (page : TreePage) (s : Spot) → IsGoodAt file meta page s
      → length (page_keys page) ≡ site_size (node_at file meta) (spot_at s) (shown_page page).leaves
  size_at page s good = grind (arith, length_entries, length-map)

  size_is : (content : KeptPage) → IsGoodKeptPage file meta content
      → content_size content ≡ site_size (node_at file meta) (content_spot content) (content_elements content)
  size_is content good = size_at content.page content.spot good

  opened : (path : Path) (pages : List OpenPage) (s : Spot) (content : KeptPage) (path_len count : ℕ) → IsContent file meta s content
      → count ≡ content_size content
      → open_tasks file meta path [] (pages ++ record { content = content; path_len = path_len; count = count; next = 0 } ∷ []) []
      ≡ site_tasks file meta (way_of pages) (spot_site file meta (take path_len path) s) ++ open_tasks file meta path [] pages []
  opened path pages s content path_len count is long = grind (arith, open_last, size_is)

pub take_below : (m n : ℕ) (path rest : Path) → m ≤ length path → n ≤ m → take n (take m path ++ rest) ≡ take n path
take_below m n path rest long le =
    grind (arith, length-take-le m path, take-append-le n (take m path) rest, take-append-le n (take m path) (drop m path), take-append-drop m path)

-- what is ahead was visited, with these pages open after it
module _ (s : Steps) (claims : Claims) (stack : Vec OpenPage Global) (losses : Vec Loss Global) (gaps : Vec PageGap Global)
    (loss_path : Vec (Bor (List ℕ)) Global) (ahead : NextVisit)
    (has : AreStepsPlaced s) (is : s.ahead ≡ Some ahead) (file : claims_file claims ≡ claims_file s.claims) (meta : claims_meta claims ≡ claims_meta s.claims)
    (counts : claims_visited claims ≡ counted (claims_visited s.claims) (page_visit (spot_at ahead.spot))) where
  abbrev visited : Steps
  visited = record s { claims = claims; ahead = None; «open» = stack; losses = losses; gaps = gaps; loss_path = loss_path }

  abbrev site : Site
  site = spot_site (claims_file s.claims) (claims_meta s.claims) (take ahead.path_len (steps_path s)) ahead.spot

  abbrev rest : List Task
  rest = open_tasks (claims_file s.claims) (claims_meta s.claims) (steps_path s) [] s.open.items []

  abbrev Finds : Option Finding → Type 0
  Finds found = Gives (claims_nodes s.claims) (λ n. is_claimed s.claims n ≡ true) (spot_at ahead.spot) found

  goes_visiting : (found : Option Finding) → Finds found
      → ((n : ℕ) → is_claimed claims n ≡ claimed_after (claims_nodes s.claims) (is_claimed s.claims) (spot_at ahead.spot) found n)
      → open_tasks (claims_file s.claims) (claims_meta s.claims) (steps_path s) [] stack.items []
      ≡ tasks_after (claims_file s.claims) (claims_meta s.claims) (way_of s.open.items) site found ++ rest
      → map loss_view losses.items ≡ map loss_view s.losses.items ++ loss_at (Some site) found
      → map page_gap_view gaps.items
      ≡ map page_gap_view s.gaps.items ++ kept_gap (claims_file s.claims) (claims_meta s.claims) (Some (spot_at ahead.spot)) found
      → AreOpenPages (claims_file s.claims) (claims_meta s.claims) 0 stack.items (length (steps_path s))
      → sum_by page_weight stack.items ≤ 65537 + sum_by page_weight s.open.items → StepsOn s visited
  goes_visiting found gives after tasks lost gapped placed weight =
      let event = Visited (way_of s.open.items) site found in
      let old_file = claims_file s.claims in let old_meta = claims_meta s.claims in
      let claimed : is_claimed claims ≡ claimed_after (claims_nodes s.claims) (is_claimed s.claims) (spot_at ahead.spot) found = λ i n. after n i in
      let left : steps_left s ≡ event ∷ steps_left visited =
      ap (λ (o : Option NextVisit).
      events old_file old_meta (ahead_tasks old_file old_meta (steps_path s) (way_of s.open.items) o rest) (is_claimed s.claims)) is
      ∙ events_visit old_file old_meta (is_claimed s.claims) (way_of s.open.items) site found rest gives
      ∙ ap (λ (es : List Event). event ∷ es) (rw (file, meta, claimed, tasks) refl) in
      let tally : tally_of visited ≡ after_event old_file old_meta (tally_of s) event =
      λ i. record { losses = lost i; gaps = gapped i; visited = counts i; claimed = claimed i } in
      let long = ap length left in
      record {
        on = record {
          file = file;
          meta = meta;
          placed = rw (file, meta) (record { pages = placed; within = omega arith });
          outcome = grind (arith, left, tally);
        };
        path = refl;
        members = sym (ap members_of left);
        less = omega (arith, long, weight);
      }

  -- it is lost
  pub goes_lost : (x : Finding) → Tests (claims_nodes s.claims) (λ n. is_claimed s.claims n ≡ true) (spot_at ahead.spot) x
      → ((n : ℕ) → is_claimed claims n ≡ is_claimed s.claims n)
      → stack.items ≡ s.open.items → map loss_view losses.items ≡ map loss_view s.losses.items ++ loss_of site x ∷ [] → gaps.items ≡ s.gaps.items
      → StepsOn s visited
  goes_lost x tests same stays lost same_gaps =
      let are = rw is at has.pages in
      let within = rw is at has.within in
      let weight = ap (sum_by page_weight) stays in
      goes_visiting (Some x) tests (λ n. same n ∙ sym (or-false (is_claimed s.claims n))) (rw stays refl) lost
      (ap (map page_gap_view) same_gaps ∙ sym (append-nil (map page_gap_view s.gaps.items)))
      (rw stays (are_open_up (claims_file s.claims) (claims_meta s.claims) 0 s.open.items ahead.path_len (length (steps_path s)) are within))
      (omega (arith, weight))

  -- it is open
  pub goes_in : (content : KeptPage) (count : ℕ) → Passes (claims_nodes s.claims) (λ n. is_claimed s.claims n ≡ true) (spot_at ahead.spot)
      → IsContent (claims_file s.claims) (claims_meta s.claims) ahead.spot content
      → ((n : ℕ) → is_claimed claims n ≡ claims_with s.claims (spot_at ahead.spot) n) → count ≡ content_size content → count < 65536
      → stack.items ≡ s.open.items ++ record { content = content; path_len = ahead.path_len; count = count; next = 0 } ∷ [] → losses.items ≡ s.losses.items
      → map page_gap_view gaps.items ≡ map page_gap_view s.gaps.items ++ spot_gap (claims_file s.claims) (claims_meta s.claims) (spot_at ahead.spot)
      → StepsOn s visited
  goes_in content count passes opens after long fits pushed kept noted =
      let page : OpenPage = record { content = content; path_len = ahead.path_len; count = count; next = 0 } in
      let are = rw is at has.pages in
      let within = rw is at has.within in
      let weight = ap (sum_by page_weight) pushed ∙ sum_by-append page_weight s.open.items (page ∷ []) in
      goes_visiting None passes after
      (rw pushed (opened (claims_file s.claims) (claims_meta s.claims) (steps_path s) s.open.items ahead.spot content ahead.path_len count opens long))
      (ap (map loss_view) kept ∙ sym (append-nil (map loss_view s.losses.items))) noted
      (rw pushed (are_open_push (claims_file s.claims) (claims_meta s.claims) 0 s.open.items page (length (steps_path s)) are
      (record { content = opens.good; count = long; fits = fits; taken = omega arith }) within)) (omega (arith, weight, fits))

-- the innermost page goes on, with this ahead, these pages open and this path
module _ (s : Steps) (front : List OpenPage) (top : OpenPage) (has : AreStepsPlaced s) (is : s.ahead ≡ None) (pages : s.open.items ≡ front ++ top ∷ []) where
  abbrev file_of : List ℕ
  file_of = claims_file s.claims

  abbrev meta_of : Meta
  meta_of = claims_meta s.claims

  abbrev here : Site
  here = content_site (take top.path_len (steps_path s)) top.content

  abbrev moved : OpenPage
  moved = record { content = top.content; path_len = top.path_len; count = top.count; next = top.next + 1 }

  pub inner : Innermost file_of meta_of 0 front top (length (steps_path s))
  inner = innermost file_of meta_of 0 front top (length (steps_path s)) (let are = has.pages in rw (is, pages) at are)

  pub tasks_top : tasks_left file_of meta_of (steps_path s) s.ahead s.open.items ≡ page_tasks file_of meta_of (steps_path s)
      (way_of front) top ++ open_tasks file_of meta_of (steps_path s) [] front []
  tasks_top = rw (is, pages) (open_last file_of meta_of (steps_path s) [] front top [])

  module _ (ahead : Option NextVisit) (stack : Vec OpenPage Global) (path : Vec (Bor (List ℕ)) Global) where
    abbrev on : Steps
    on = record s { ahead = ahead; «open» = stack; path = path }

    weight_of : sum_by page_weight s.open.items ≡ sum_by page_weight front + page_weight top
    weight_of = let sum = ap (sum_by page_weight) pages ∙ sum_by-append page_weight front (top ∷ []) in omega (arith, sum)

    -- it had no more elements
    pub took_last : top.next ≡ top.count → ahead ≡ None → stack.items ≡ front → path.items ≡ s.path.items
        → StepsOn s on × (steps_weight on < steps_weight s)
    took_last over none left same = grind (arith, weight_of, tasks_top, are_open_up, inner)

    -- its next element is done
    module _ (more : top.next ≡ top.count → ⊥) (r : Option Spot) (path_len : ℕ)
        (of : ahead ≡ option_map (λ (spot : Spot). record { spot = spot; path_len = path_len }) r) (put : stack.items ≡ front ++ moved ∷ [])
        (leads : step_site file_of meta_of here top.next ≡ option_map (spot_site file_of meta_of (take path_len (path_of path.items))) r)
        (takes : (n : ℕ) → n ≤ top.path_len → take n (path_of path.items) ≡ take n (steps_path s)) (low : top.path_len ≤ path_len)
        (high : path_len ≤ length (path_of path.items)) where
      in_front : top.next + 1 ≤ top.count
      in_front = let taken = inner.good.taken in omega (arith, taken, more)

      -- an element of a branch
      pub took_branch : slice_get (content_elements top.content) top.next ≡ None → path.items ≡ s.path.items
          → StepsOn s on × (steps_weight on < steps_weight s)
      took_branch none same =
          let left : tasks_left file_of meta_of (steps_path on) on.ahead on.open.items ≡ tasks_left file_of meta_of (steps_path s) s.ahead s.open.items =
          grind (arith, in_front, tasks_top, same_open, inner, open_last, map-append) in
          let weight_on = ap (sum_by page_weight) put ∙ sum_by-append page_weight front (moved ∷ []) in
          grind (arith, in_front, left, same, inner, are_open_push, weight_of, weight_on)

      -- an element of a leaf
      pub took_leaf : (e : LeafElement) → slice_get (content_elements top.content) top.next ≡ Some e
          → path_of path.items ≡ take top.path_len (steps_path s) ++ e.key ∷ [] → GivesHead s on e
      took_leaf e some deeper = grind (arith, in_front, tasks_top, same_open, inner, open_last, map-append, events_give, are_open_push)

-- the element to be taken next is there
pub next_below : (file : List ℕ) (meta : Meta) (page : OpenPage) → IsGoodPage file meta page → (page.next ≡ page.count → ⊥)
    → page.next < content_size page.content
next_below file meta page good more = let count = good.count in let taken = good.taken in omega (arith, count, taken, more)

shallow_at : (file : List ℕ) (meta : Meta) (page : TreePage) (s : Spot) → IsGoodAt file meta page s → IsShallowAt s
shallow_at file meta page s good = grind arith

pub is_shallow : (file : List ℕ) (meta : Meta) (content : KeptPage) → IsGoodKeptPage file meta content → IsShallow content
is_shallow file meta content good = shallow_at file meta content.page content.spot good

-- nothing was open
pub took_nothing : (s : Steps) (stack : Vec OpenPage Global) (path : Vec (Bor (List ℕ)) Global) → s.ahead ≡ None → s.open.items ≡ []
    → stack.items ≡ [] → path.items ≡ []
    → Ends s (record s { «open» = stack; path = path })
took_nothing s stack path is none left over = grind (arith, events_none)

-- the meta pages alone are claimed
of_metas : (claimed : ℕ → Bool) → ((n : ℕ) → (claimed n ≡ true) ↔ IsMetaPage n) → (n : ℕ) → claimed n ≡ meta_pages n
of_metas claimed metas n =
    both_ways (claimed n) (meta_pages n) (λ h. let is = (metas n).0 h in grind (arith, nat_tests)) (λ h. (metas n).1 (grind (arith, nat_tests)))

pub root_gives : (claims : Claims) (found : Option Finding) → ((n : ℕ) → (is_claimed claims n ≡ true) ↔ IsMetaPage n)
    → Gives (claims_nodes claims) (λ n. is_claimed claims n ≡ true) (At_page (root_spot (claims_meta claims).root)) found
    → Gives (claims_nodes claims) IsMetaPage (At_page (root_spot (claims_meta claims).root)) found
root_gives claims found metas h = grind (arith, gives_same)

-- the root page alone was ahead, and is open
abbrev pub root_visit : Meta → NextVisit
root_visit meta = record { spot = spots.Page (record { number = meta.root; depth = 1; lower = None; upper = None }); path_len = 0 }

pub begins : (s : Steps) (claims : Claims) (stack : Vec OpenPage Global) (gaps : Vec PageGap Global) (loss_path : Vec (Bor (List ℕ)) Global)
    (content : KeptPage) (count : ℕ)
    → s.ahead ≡ Some (root_visit (claims_meta s.claims)) → s.open.items ≡ [] → s.losses.items ≡ [] → s.gaps.items ≡ []
    → ((n : ℕ) → (is_claimed s.claims n ≡ true) ↔ IsMetaPage n)
    → claims_file claims ≡ claims_file s.claims → claims_meta claims ≡ claims_meta s.claims → claims_visited claims ≡ counted (claims_visited s.claims) 1
    → Passes (claims_nodes s.claims) (λ n. is_claimed s.claims n ≡ true) (At_page (root_spot (claims_meta s.claims).root))
    → IsContent (claims_file s.claims) (claims_meta s.claims) (root_visit (claims_meta s.claims)).spot content
    → ((n : ℕ) → is_claimed claims n ≡ claims_with s.claims (At_page (root_spot (claims_meta s.claims).root)) n) → count ≡ content_size content → count < 65536
    → stack.items ≡ record { content = content; path_len = 0; count = count; next = 0 } ∷ []
    → map page_gap_view gaps.items
    ≡ map page_gap_view s.gaps.items ++ spot_gap (claims_file s.claims) (claims_meta s.claims) (At_page (root_spot (claims_meta s.claims).root))
    → IsAllLeft (claims_file s.claims) (claims_meta s.claims) (claims_visited s.claims)
    (record s { claims = claims; ahead = None; «open» = stack; gaps = gaps; loss_path = loss_path })
begins s claims stack gaps loss_path content count is none lost no_gaps metas file meta counts passes opens after long fits pushed noted =
    let claimed : is_claimed s.claims ≡ meta_pages = λ i n. of_metas (is_claimed s.claims) metas n i in
    let goes =
    goes_in s claims stack s.losses gaps loss_path (root_visit (claims_meta s.claims))
    (rw (is, none) (record { pages = omega arith; within = omega arith })) is file meta counts
    content count passes opens after long fits (pushed ∙ rw none refl) refl noted in
    let left : steps_left s ≡ all_events (claims_file s.claims) (claims_meta s.claims) = rw (is, none, claimed) refl in
    let tally : tally_of s ≡ record { losses = []; gaps = []; visited = claims_visited s.claims; claimed = meta_pages } =
    λ i. record { losses = map loss_view (lost i); gaps = map page_gap_view (no_gaps i); visited = claims_visited s.claims; claimed = claimed i } in
    record { members = goes.members ∙ ap members_of left; outcome = grind (arith, left, tally, goes.on.outcome) }
