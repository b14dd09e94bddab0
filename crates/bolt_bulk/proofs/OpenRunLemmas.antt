-- What a forward pass over a bucket's items writes is the pages over them.
use Rattle.std.proofs.Common.{◌≡◌, ◌∙◌, ◌⊎◌, ℕ, suc, ◌+◌, true, false, Option, List, [], ◌∷◌, ◌++◌, length, map, refl, sym, ap, subst, inl, inr}
use Rattle.std.proofs.Common.{arith, append_assoc}
use Rattle.std.proofs.{lemmas.Bool.cases_Bool, lemmas.Bool.or_parts, lemmas.List.append-nil, lemmas.List.length-append, lemmas.List.Sums.sum_by_push}
use Rattle.bolt_format.specs.Elements.{BranchElement, LeafElement}
use Rattle.bolt_layout.specs.{Cut.branch_cut, Cut.cut_from, Cut.joins, Laid.Laid, Laid.Placed, Laid.numbers_of, Laid.pages_of, Laid.size_of}
use Rattle.bolt_layout.specs.{Levels.branch_page_view, Levels.leaf_page_view, Levels.page_over, Levels.root_over, Limits.HaveRightLimits}
use Rattle.bolt_layout.specs.{Limits.cut_within, Limits.one_less, declared.Layout.Layout}
use Rattle.bolt_bulk.specs.Private.{bucket_limit, climb, climb_puts, close, close_puts, Comes, end_of, has_room, BecomesRoot, IsSized, IsUnder}
use Rattle.bolt_bulk.specs.Private.{kept_upper, key_size, Known, leaves_coming, next_number, nothing_open, numbers_in, Open, own_page, pages_put}
use Rattle.bolt_bulk.specs.Private.{pushed_on, pushing, put_in, stays_open, taking, Upper}
use Rattle.bolt_layout.proofs.Exports.{top_above}

-- The code's test of room is that of the cut.
pub room_joins : {E : Type 0} (page_size least : ℕ) (run : List (Laid E)) (next : Laid E) (size : ℕ) → next.size ≡ size
    → has_room page_size least run size ≡ joins page_size least size_of run next
room_joins page_size least run next size e = grind (arith, sum_by_push)

pub cut_joined : {E : Type 0} (page_size least : ℕ) (run : List (Laid E)) (next : Laid E) (items : List (Laid E))
    → joins page_size least size_of run next ≡ true
    → cut_from page_size least size_of run (next ∷ items) ≡ cut_from page_size least size_of (run ++ next ∷ []) items
cut_joined page_size least run next items h = rw h refl

cut_begun : {E : Type 0} (page_size least : ℕ) (run : List (Laid E)) (next : Laid E) (items : List (Laid E))
    → joins page_size least size_of run next ≡ false
    → cut_from page_size least size_of run (next ∷ items) ≡ run ∷ cut_from page_size least size_of (next ∷ []) items
cut_begun page_size least run next items h = rw h refl

pub cut_step : {E : Type 0} (page_size least : ℕ) (run : List (Laid E)) (next : Laid E) (items : List (Laid E))
    → ((joins page_size least size_of run next ≡ true)
    × (cut_from page_size least size_of run (next ∷ items) ≡ cut_from page_size least size_of (run ++ next ∷ []) items))
    ⊎ ((joins page_size least size_of run next ≡ false)
    × (cut_from page_size least size_of run (next ∷ items) ≡ run ∷ cut_from page_size least size_of (next ∷ []) items))
cut_step page_size least run next items = grind (arith, cut_joined, cut_begun)

-- A run that stays open takes the next page,
left_stays : (page_size : ℕ) (upper : Upper) (next : Laid BranchElement) (size : ℕ) (pages : List (Laid BranchElement)) → next.size ≡ size
    → stays_open page_size upper size ≡ true
    → cut_within page_size size_of upper.allowed upper.run (next ∷ pages)
    ≡ cut_within page_size size_of (kept_upper page_size upper size).allowed (upper.run ++ next ∷ []) pages
left_stays page_size upper next size pages named stays = grind (arith, room_joins)

-- and any other ends before it.
left_closes : (page_size : ℕ) (upper : Upper) (next : Laid BranchElement) (size : ℕ) (pages : List (Laid BranchElement)) → next.size ≡ size
    → stays_open page_size upper size ≡ false
    → cut_within page_size size_of upper.allowed upper.run (next ∷ pages) ≡ upper.run ∷ cut_within page_size size_of (one_less upper.allowed) (next ∷ []) pages
left_closes page_size upper next size pages named closes = grind (arith, or_parts, room_joins)

-- the first run of a cut begins with the run that was open
pub left_begins : (page_size : ℕ) (left : Option ℕ) (run pages : List (Laid BranchElement))
    → (more : List (Laid BranchElement)) × (rest : List (List (Laid BranchElement))) × (cut_within page_size size_of left run pages ≡ (run ++ more) ∷ rest)
left_begins page_size left run [] = ([], [], ap (λ (r : List (Laid BranchElement)). r ∷ []) (sym (append-nil run)))
left_begins page_size left run (next ∷ pages) =
    let upper : Upper = record { run = run; allowed = left; closed = 0 } in
    elim (cases_Bool (stays_open page_size upper next.size)) [
      | inl t ↦
          let (more, rest, e) = left_begins page_size (kept_upper page_size upper next.size).allowed (run ++ next ∷ []) pages in (
            next ∷ more,
            rest,
            left_stays page_size upper next next.size pages refl t ∙ (e ∙ ap (λ (r : List (Laid BranchElement)). r ∷ rest) (append_assoc run (next ∷ []) more)),
          )
      | inr f ↦ (
        [],
        cut_within page_size size_of (one_less left) (next ∷ []) pages,
        left_closes page_size upper next next.size pages refl f
            ∙ ap (λ (r : List (Laid BranchElement)). r ∷ cut_within page_size size_of (one_less left) (next ∷ []) pages) (sym (append-nil run)),
      )
    ]

-- the second page of a row is in the first run
pair_step : (page_size : ℕ) (left : Option ℕ) (q p : Laid BranchElement) (pages : List (Laid BranchElement))
    → cut_within page_size size_of left (q ∷ []) (p ∷ pages) ≡ cut_within page_size size_of left (q ∷ p ∷ []) pages
pair_step page_size left q p pages = refl

-- A climb keeps what the runs become.
run_right : (which : Layout) (page_size : ℕ) (limits : ℕ → Option ℕ) (q p : Laid BranchElement) (pages all : List (Laid BranchElement))
    (root : Laid BranchElement)
    → Comes which page_size limits [] all (q ∷ p ∷ pages) root
    → Comes which page_size limits (record { run = q ∷ []; allowed = limits 0; closed = 0 } ∷ []) all (p ∷ pages) root
run_right which page_size limits q p pages all root (all_is, is) =
    let M : List (List (Laid BranchElement)) → List (Laid BranchElement) = λ runs. map (page_over branch_page_view page_size) runs in
    let same : cut_within page_size size_of (limits 0) (q ∷ []) (p ∷ pages) ≡ branch_cut which page_size size_of (q ∷ p ∷ pages) = is.right 0 in
    let step : cut_within page_size size_of (limits 0) (q ∷ []) (p ∷ pages) ≡ cut_within page_size size_of (limits 0) ((q ∷ []) ++ p ∷ []) pages =
    pair_step page_size (limits 0) q p pages in
    let cut : branch_cut which page_size size_of all ≡ cut_within page_size size_of (limits 0) ((q ∷ []) ++ p ∷ []) pages =
    ap (λ (xs : List (Laid BranchElement)). branch_cut which page_size size_of xs) (sym all_is) ∙ (sym same ∙ step) in
    let long = ap (λ (xs : List (Laid BranchElement)). length xs) all_is in (
      record { runs = []; count = refl; cut = cut; some = omega arith },
      (
        ap M (sym cut),
        subst (λ (runs : List (List (Laid BranchElement))). IsUnder which page_size (λ k. limits (suc k)) (M runs) root) (sym same ∙ step)
            (record { top = sym (top_above which page_size (q ∷ p ∷ pages) (omega arith)) ∙ is.top; right = λ k. is.right (suc k) }),
      ),
    )

pub climb_same : (which : Layout) (page_size : ℕ) (limits : ℕ → Option ℕ) (key : List ℕ) (q : Laid BranchElement) (uppers : List Upper)
    (p : Laid BranchElement) (pages all : List (Laid BranchElement)) (root : Laid BranchElement)
    → p.key ≡ key → IsSized p → Comes which page_size limits uppers all (q ∷ p ∷ pages) root
    → Comes which page_size limits (climb page_size (limits (length uppers)) key q uppers) all (p ∷ pages) root
climb_same which page_size limits key q [] p pages all root named sized is = run_right which page_size limits q p pages all root is
climb_same which page_size limits key q (upper ∷ uppers) p pages all root named sized (stands, is) =
    let size : p.size ≡ key_size key = sized ∙ ap key_size named in
    let above : ℕ → Option ℕ = λ k. limits (suc k) in
    let pushed : Upper = pushed_on upper q in
    let M : List (List (Laid BranchElement)) → List (Laid BranchElement) = λ runs. map (page_over branch_page_view page_size) runs in
    let whole : List (List (Laid BranchElement)) = branch_cut which page_size size_of all in
    let C : List (List (Laid BranchElement)) → Type 0 = λ runs. Comes which page_size above uppers (M whole) (M runs) root in
    elim (cases_Bool (stays_open page_size pushed (key_size key))) [
      | inl t ↦
          let step = left_stays page_size pushed p (key_size key) pages size t in
          rw t (
            record {
              runs = stands.runs;
              count = stands.count;
              cut = stands.cut ∙ ap (λ (rs : List (List (Laid BranchElement))). stands.runs ++ rs) step;
              some = stands.some;
            },
            subst C step is,
          )
      | inr f ↦
          let step = left_closes page_size pushed p (key_size key) pages size f in
          let split = subst C step is in
          let (more, rest, e) = left_begins page_size (one_less upper.allowed) (p ∷ []) pages in
          let q2 : Laid BranchElement = page_over branch_page_view page_size (upper.run ++ q ∷ []) in
          let p2 : Laid BranchElement = page_over branch_page_view page_size (p ∷ more) in
          let both = subst (λ (runs : List (List (Laid BranchElement))). Comes which page_size above uppers (M whole) (q2 ∷ M runs) root) e split in
          let l = length-append stands.runs ((upper.run ++ q ∷ []) ∷ []) in
          rw f (
            record {
              runs = stands.runs ++ (upper.run ++ q ∷ []) ∷ [];
              count = omega arith;
              cut =
                  stands.cut ∙ (ap (λ (rs : List (List (Laid BranchElement))). stands.runs ++ rs) step
                  ∙ sym (append_assoc stands.runs ((upper.run ++ q ∷ []) ∷ []) (cut_within page_size size_of (one_less upper.allowed) (p ∷ []) pages)));
              some = stands.some;
            },
            subst (λ (runs : List (List (Laid BranchElement))).
                Comes which page_size above (climb page_size (above (length uppers)) key q2 uppers) (M whole) (M runs) root) (sym e)
                (climb_same which page_size above key q2 uppers p2 (M rest) (M whole) root named refl both),
          )
    ]

-- At the end each run takes the page below it, and closes.
pub close_same : (which : Layout) (page_size : ℕ) (limits : ℕ → Option ℕ) (q : Laid BranchElement) (uppers : List Upper)
    (all : List (Laid BranchElement)) (root : Laid BranchElement)
    → Comes which page_size limits uppers all (q ∷ []) root → close page_size q uppers ≡ root
close_same which page_size limits q [] all root is = is.1.top
close_same which page_size limits q (upper ∷ uppers) all root is =
    grind (
      arith,
      close_same which page_size (λ k. limits (suc k)) (page_over branch_page_view page_size (upper.run ++ q ∷ [])) uppers
          (map (page_over branch_page_view page_size) (branch_cut which page_size size_of all)) root is.1,
    )

-- The pages that were written.
pub pages-append : {E : Type 0} (xs ys : List (Laid E)) (n : ℕ) → pages_of (xs ++ ys) n ≡ pages_of xs n ++ pages_of ys (n + numbers_of xs)
pages-append [] ys n = ap (λ (m : ℕ). pages_of ys m) (let e : n ≡ n + 0 = omega arith in e)
pages-append (x ∷ xs) ys n = grind (arith, append_assoc, pages-append xs ys (n + x.numbers))

-- a row of pages, and a page at its end
pub pages_push : (xs run : List (Laid BranchElement)) (q : Laid BranchElement) (b : ℕ)
    → pages_of (xs ++ (run ++ q ∷ [])) b ≡ pages_of (xs ++ run) b ++ q.pages (b + numbers_of (xs ++ run))
pages_push xs run q b = grind (arith, append_assoc, pages-append, append-nil)

-- a page over a run is written after the pages below it
over_put : (page_size b : ℕ) (run : List (Laid BranchElement)) (q : Laid BranchElement) (uppers : List Upper) (more : List Placed)
    → pages_of (put_in uppers) b ++ ((page_over branch_page_view page_size (run ++ q ∷ [])).pages (b + numbers_in uppers) ++ more)
    ≡ pages_of (put_in uppers ++ run) b
    ++ (q.pages (b + numbers_of (put_in uppers ++ run)) ++ (own_page branch_page_view page_size (run ++ q ∷ []) (b + numbers_in uppers) ∷ more))
over_put page_size b run q uppers more =
    let m : ℕ = b + numbers_in uppers in
    let own : Placed = own_page branch_page_view page_size (run ++ q ∷ []) m in
    let xs : List Placed = pages_of (put_in uppers) b in
    let ys : List Placed = pages_of (run ++ q ∷ []) m in
    cc (
      append_assoc ys (own ∷ []) more,
      append_assoc xs ys (own ∷ more),
      pages-append (put_in uppers) (run ++ q ∷ []) b,
      pages_push (put_in uppers) run q b,
      append_assoc (pages_of (put_in uppers ++ run) b) (q.pages (b + numbers_of (put_in uppers ++ run))) (own ∷ more),
    )

pub climb_put : (page_size : ℕ) (new : Option ℕ) (key : List ℕ) (q : Laid BranchElement) (uppers : List Upper) (b : ℕ)
    → pages_of (put_in (climb page_size new key q uppers)) b
    ≡ pages_of (put_in uppers) b ++ (q.pages (b + numbers_in uppers) ++ climb_puts page_size key q uppers b)
climb_put page_size new key q [] b = ap (λ (n : ℕ). q.pages n ++ []) (let e : b ≡ b + 0 = omega arith in e)
climb_put page_size new key q (upper ∷ uppers) b =
    grind (
      arith,
      cases_Bool,
      pages_push,
      append-nil,
      over_put,
      climb_put page_size new key (page_over branch_page_view page_size (upper.run ++ q ∷ [])) uppers b,
    )

pub close_put : (page_size : ℕ) (q : Laid BranchElement) (uppers : List Upper) (b : ℕ)
    → (close page_size q uppers).pages b ≡ pages_of (put_in uppers) b ++ (q.pages (b + numbers_in uppers) ++ close_puts page_size q uppers b)
close_put page_size q [] b = sym (append-nil (q.pages b)) ∙ ap (λ (n : ℕ). q.pages n ++ []) (let e : b ≡ b + 0 = omega arith in e)
close_put page_size q (upper ∷ uppers) b = grind (arith, over_put, close_put page_size (page_over branch_page_view page_size (upper.run ++ q ∷ [])) uppers b)

-- One item.
pub opens : (which : Layout) (page_size : ℕ) (known : Known) (items : List (Laid LeafElement)) → known.leaves ≡ leaves_coming page_size [] items
    → HaveRightLimits which page_size (bucket_limit known.limits) (leaves_coming page_size [] items)
    → BecomesRoot which page_size (nothing_open known) items (root_over which page_size items)
unfolding root_over
opens which page_size known items leaves right = grind arith

leaves_first : (page_size : ℕ) (first : Laid LeafElement) (run items : List (Laid LeafElement))
    → (p : Laid BranchElement) × (rest : List (Laid BranchElement))
    × (map (page_over leaf_page_view page_size) (cut_from page_size 1 size_of (first ∷ run) items) ≡ p ∷ rest)
    × (p.key ≡ first.key) × IsSized p
leaves_first page_size first run [] = (page_over leaf_page_view page_size (first ∷ run), [], refl, refl, refl)
leaves_first page_size first run (next ∷ items) =
    let M : List (List (Laid LeafElement)) → List (Laid BranchElement) = λ runs. map (page_over leaf_page_view page_size) runs in
    elim (cut_step page_size 1 (first ∷ run) next items) [
      | inl more ↦
          let (p, rest, e, k, s) = leaves_first page_size first (run ++ next ∷ []) items in
          (p, rest, ap M more.1 ∙ e, k, s)
      | inr begun ↦ (page_over leaf_page_view page_size (first ∷ run), M (cut_from page_size 1 size_of (next ∷ []) items), ap M begun.1, refl, refl)
    ]

pub takes : (which : Layout) (page_size : ℕ) (state : Open) (item : Laid LeafElement) (items : List (Laid LeafElement)) (root : Laid BranchElement)
    → BecomesRoot which page_size state (item ∷ items) root
    → BecomesRoot which page_size (taking page_size state item) items root
takes which page_size state item items root is =
    let same = room_joins page_size 1 state.run item item.size refl in
    let M : List (List (Laid LeafElement)) → List (Laid BranchElement) = λ runs. map (page_over leaf_page_view page_size) runs in
    let C : List (List (Laid LeafElement)) → Type 0 =
    λ runs. Comes which page_size (bucket_limit state.known.limits) state.uppers state.known.leaves (M runs) root in
    elim (cases_Bool (has_room page_size 1 state.run item.size)) [
      | inl t ↦ rw t (record { comes = subst C (cut_joined page_size 1 state.run item items (sym same ∙ t)) is.comes })
      | inr f ↦
          let q : Laid BranchElement = page_over leaf_page_view page_size state.run in
          let (p, rest, e, k, s) = leaves_first page_size item [] items in
          let split = subst C (cut_begun page_size 1 state.run item items (sym same ∙ f)) is.comes in
          let whole =
          subst (λ (ps : List (Laid BranchElement)).
          Comes which page_size (bucket_limit state.known.limits) state.uppers state.known.leaves (q ∷ ps) root) e split in
          rw f (record {
            comes =
                subst (λ (ps : List (Laid BranchElement)).
                Comes which page_size (bucket_limit state.known.limits)
                (climb page_size (bucket_limit state.known.limits (length state.uppers)) item.key q state.uppers) state.known.leaves ps root) (sym e)
                (climb_same which page_size (bucket_limit state.known.limits) item.key q state.uppers p rest state.known.leaves root k s whole);
          })
    ]

pub pushed_put : (state : Open) (item : Laid LeafElement) (b : ℕ)
    → pages_put (pushing state item) b ≡ pages_put state b ++ item.pages (next_number state b)
pushed_put state item b = grind (arith, pages-append, append-nil, append_assoc)

-- The end.
pub ends : (which : Layout) (page_size : ℕ) (state : Open) (root : Laid BranchElement) → BecomesRoot which page_size state [] root
    → end_of page_size state ≡ root
ends which page_size state root is =
    close_same which page_size (bucket_limit state.known.limits) (page_over leaf_page_view page_size state.run) state.uppers state.known.leaves root is.comes
