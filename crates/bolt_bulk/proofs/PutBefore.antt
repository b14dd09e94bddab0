-- Whatever is still to come, the pages that a forward pass has written are a prefix of the layout's, which has at least one more page; and
-- their numbers are among the layout's.
use Rattle.std.proofs.Common.{◌≡◌, ◌∙◌, ◌≤◌, ℕ, suc, ◌+◌, nat_lt, Option, List, [], ◌∷◌, ◌++◌, length, map, refl, sym, ap, subst, inl, inr, arith}
use Rattle.std.proofs.Common.{append_assoc}
use Rattle.std.proofs.{lemmas.Bool.cases_Bool, lemmas.List.append-nil, lemmas.List.length-append}
use Rattle.bolt_format.specs.{Elements.BranchElement, Elements.LeafElement, Pages.PageView}
use Rattle.bolt_layout.specs.{Cut.branch_cut, Cut.cut_from, Cut.join_last, Items.items_of, Laid.Laid, Laid.Placed, Laid.numbers_of, Laid.pages_of}
use Rattle.bolt_layout.specs.{Laid.size_of}
use Rattle.bolt_layout.specs.{Levels.branch_page_view, Levels.leaf_page_view, Levels.next_level, Levels.page_over, Levels.top_in, Layout.first_page}
use Rattle.bolt_layout.specs.{declared.Layout.Layout}
use Rattle.bolt_layout.specs.declared.Layout.TheVariants.{Plain, Balanced}
use Rattle.bolt_bulk.specs.Private.{all_put, base_in, bucket_limit, Comes, BucketFrame, frames_put, held_item, BecomesRoot, IsPass, BecomesWhole}
use Rattle.bolt_bulk.specs.Private.{next_number, numbers_in, Open, pages_put, pushing, put_in, Upper}
use Rattle.bolt_layout.proofs.Exports.{numbers-append}
use Rattle.bolt_bulk.proofs.OpenRunLemmas.{cut_step, left_begins, pages-append, pages_push, pushed_put}

-- Pages with so many numbers begin the pages of what is laid out, with these numbers, and at least so many pages follow.
pub record Begins (least : ℕ) (front : List Placed) (few : ℕ) (whole : List Placed) (many : ℕ) : Type 0 where
  pub rest : List Placed
  pub parts : whole ≡ front ++ rest
  pub some : least ≤ length rest
  pub fewer : few ≤ many

begins_by : {front middle whole : List Placed} {few between many least fewer others : ℕ} → fewer ≤ least → Begins least front few middle between
    → Begins others middle between whole many → Begins fewer front few whole many
begins_by less a b = grind (arith, length-append, append_assoc)

begins_same : {front same whole : List Placed} {least few as_few many : ℕ} → front ≡ same → few ≡ as_few → Begins least front few whole many
    → Begins least same as_few whole many
begins_same same numbers a = grind arith

begins_behind : {front whole : List Placed} {few many : ℕ} (before : List Placed) (first : ℕ) → Begins 1 front few whole many
    → Begins 1 (before ++ front) (first + few) (before ++ whole) (first + many)
begins_behind before first a = grind (arith, append_assoc)

-- the first run of a cut begins with the run that was open
cut_begins : {E : Type 0} (page_size least : ℕ) (run items : List (Laid E))
    → (more : List (Laid E)) × (rest : List (List (Laid E))) × (cut_from page_size least size_of run items ≡ (run ++ more) ∷ rest)
cut_begins {E = E} page_size least run [] = ([], [], ap (λ (r : List (Laid E)). r ∷ []) (sym (append-nil run)))
cut_begins {E = E} page_size least run (next ∷ items) = elim (cut_step page_size least run next items) [
  | inl joined ↦
      let (more, rest, e) = cut_begins page_size least (run ++ next ∷ []) items in
      (next ∷ more, rest, joined.1 ∙ (e ∙ ap (λ (r : List (Laid E)). r ∷ rest) (append_assoc run (next ∷ []) more)))
  | inr begun ↦ (
    [],
    cut_from page_size least size_of (next ∷ []) items,
    begun.1 ∙ ap (λ (r : List (Laid E)). r ∷ cut_from page_size least size_of (next ∷ []) items) (sym (append-nil run)),
  )
]

-- a page over a run comes after the pages of any prefix of the run
over_before : {E : Type 0} (view : ℕ → List E → PageView) (page_size : ℕ) (run more : List (Laid E)) (n : ℕ)
    → Begins 1 (pages_of run n) (numbers_of run) ((page_over view page_size (run ++ more)).pages n) (page_over view page_size (run ++ more)).numbers
over_before view page_size run more n = grind (arith, length-append, numbers-append, pages-append, append_assoc)

-- so does the first run of a row of pages, in each layout
joined_begins : (run : List (Laid BranchElement)) (runs : List (List (Laid BranchElement)))
    → (more : List (Laid BranchElement)) × (rest : List (List (Laid BranchElement))) × (join_last (run ∷ runs) ≡ (run ++ more) ∷ rest)
joined_begins run [] = ([], [], ap (λ (r : List (Laid BranchElement)). r ∷ []) (sym (append-nil run)))
joined_begins run (next ∷ []) = elim (cases_Bool (nat_lt (length next) 2)) [
  | inl t ↦ (next, [], rw t refl)
  | inr f ↦ ([], next ∷ [], rw f (ap (λ (r : List (Laid BranchElement)). r ∷ next ∷ []) (sym (append-nil run))))
]
joined_begins run (next ∷ other ∷ runs) =
    ([], join_last (next ∷ other ∷ runs), ap (λ (r : List (Laid BranchElement)). r ∷ join_last (next ∷ other ∷ runs)) (sym (append-nil run)))

run_begins : (which : Layout) (page_size : ℕ) (page : Laid BranchElement) (level : List (Laid BranchElement))
    → (more : List (Laid BranchElement)) × (rest : List (List (Laid BranchElement)))
    × (branch_cut which page_size size_of (page ∷ level) ≡ (page ∷ more) ∷ rest)
run_begins Plain page_size page level = cut_begins page_size 2 (page ∷ []) level
run_begins Balanced page_size page level =
    let (more, rest, e) = cut_begins page_size 2 (page ∷ []) level in
    let (others, runs, joined) = joined_begins (page ∷ more) rest in
    (more ++ others, runs, ap (λ (rs : List (List (Laid BranchElement))). join_last rs) e ∙ joined)

top_begins : (which : Layout) (page_size steps : ℕ) (page : Laid BranchElement) (level : List (Laid BranchElement)) (b : ℕ)
    → Begins 0 (page.pages b) page.numbers ((top_in which steps page_size (page ∷ level)).pages b) (top_in which steps page_size (page ∷ level)).numbers
top_begins which page_size (suc steps) page (other ∷ level) b =
    let (more, rest, e) = run_begins which page_size page (other ∷ level) in
    let up : Laid BranchElement = page_over branch_page_view page_size (page ∷ more) in
    let level2 : List (Laid BranchElement) = map (page_over branch_page_view page_size) rest in
    let same : next_level which page_size (page ∷ other ∷ level) ≡ up ∷ level2 =
    ap (λ (runs : List (List (Laid BranchElement))). map (page_over branch_page_view page_size) runs) e in
    let one = over_before branch_page_view page_size (page ∷ []) more b in
    let fewer = one.fewer in
    let first : Begins 0 (page.pages b) page.numbers (up.pages b) up.numbers = record {
      rest = one.rest;
      parts = one.parts ∙ ap (λ (ps : List Placed). ps ++ one.rest) (append-nil (page.pages b));
      some = omega arith;
      fewer = omega arith;
    } in
    subst (λ (l : List (Laid BranchElement)).
    Begins 0 (page.pages b) page.numbers ((top_in which steps page_size l).pages b) (top_in which steps page_size l).numbers) (sym same)
    (begins_by (omega arith) first (top_begins which page_size steps up level2 b))
top_begins which page_size steps page level b = grind (arith, append-nil)

-- What open upper runs and a page become begins with the pages of those runs and of that page.
coming_begins : (which : Layout) (page_size : ℕ) (limits : ℕ → Option ℕ) (uppers : List Upper) (p : Laid BranchElement)
    (pages all : List (Laid BranchElement)) (root : Laid BranchElement)
    → Comes which page_size limits uppers all (p ∷ pages) root → (b : ℕ)
    → Begins 0 (pages_of (put_in uppers) b ++ p.pages (b + numbers_in uppers)) (numbers_in uppers + p.numbers) (root.pages b) root.numbers
coming_begins which page_size limits [] p pages all root is b =
    let top = top_begins which page_size (length (p ∷ pages)) p pages b in let under = is.1.top in grind arith
coming_begins which page_size limits (upper ∷ uppers) p pages all root is b =
    let others : List (Laid BranchElement) = map (page_over branch_page_view page_size) (branch_cut which page_size size_of all) in
    let run : List (Laid BranchElement) = upper.run in
    let (more, rest, e) = left_begins page_size upper.allowed (run ++ p ∷ []) pages in
    let up : Laid BranchElement = page_over branch_page_view page_size ((run ++ p ∷ []) ++ more) in
    let m : ℕ = b + numbers_in uppers in
    let above =
    subst (λ (rs : List (List (Laid BranchElement))).
    Comes which page_size (λ k. limits (suc k)) uppers others (map (page_over branch_page_view page_size) rs) root) e is.1 in
    let ih = coming_begins which page_size (λ k. limits (suc k)) uppers up (map (page_over branch_page_view page_size) rest) others root above b in
    let one = begins_behind (pages_of (put_in uppers) b) (numbers_in uppers) (over_before branch_page_view page_size (run ++ p ∷ []) more m) in
    let two = begins_by (omega arith) one ih in
    let front : pages_of (put_in uppers) b ++ pages_of (run ++ p ∷ []) m
    ≡ pages_of (put_in uppers ++ run) b ++ p.pages (b + numbers_of (put_in uppers ++ run)) =
    sym (pages-append (put_in uppers) (run ++ p ∷ []) b) ∙ pages_push (put_in uppers) run p b in
    let c = numbers-append (put_in uppers) run in
    let d = numbers-append run (p ∷ []) in
    let count : numbers_in uppers + numbers_of (run ++ p ∷ []) ≡ numbers_in (upper ∷ uppers) + p.numbers = omega arith in
    begins_same front count two

-- What was written of an open bucket comes before its root page.
pub put_before : (which : Layout) (page_size : ℕ) (state : Open) (items : List (Laid LeafElement)) (root : Laid BranchElement) (b : ℕ)
    → BecomesRoot which page_size state items root
    → Begins 1 (pages_put state b) (numbers_in state.uppers + numbers_of state.run) (root.pages b) root.numbers
put_before which page_size state items root b is =
    let (more, rest, e) = cut_begins page_size 1 state.run items in
    let p : Laid BranchElement = page_over leaf_page_view page_size (state.run ++ more) in
    let m : ℕ = b + numbers_in state.uppers in
    let comes =
    subst (λ (rs : List (List (Laid LeafElement))).
    Comes which page_size (bucket_limit state.known.limits) state.uppers state.known.leaves (map (page_over leaf_page_view page_size) rs) root) e is.comes in
    let one =
    coming_begins which page_size (bucket_limit state.known.limits) state.uppers p (map (page_over leaf_page_view page_size) rest) state.known.leaves
    root comes b in
    let two = begins_behind (pages_of (put_in state.uppers) b) (numbers_in state.uppers) (over_before leaf_page_view page_size state.run more m) in
    begins_by (omega arith) two one

stack_before : (which : Layout) (page_size : ℕ) (frames : List BucketFrame) (root whole : Laid BranchElement) (front : List Placed) (few : ℕ)
    → BecomesWhole which page_size frames root whole → Begins 1 front few (root.pages (base_in frames)) root.numbers
    → Begins 1 (frames_put frames ++ front) (base_in frames + few) (whole.pages first_page) (first_page + whole.numbers)
stack_before which page_size [] root whole front few stack is = grind arith
stack_before which page_size (frame ∷ frames) root whole front few stack is =
    let (outer, opened, rest) = stack in
    let b : ℕ = base_in frames in
    let item = held_item frame root in
    let own : ℕ = numbers_in frame.state.uppers + numbers_of frame.state.run in
    let one = put_before which page_size (pushing frame.state item) (items_of which page_size frame.after) outer b opened in
    let two = begins_behind (pages_put frame.state b) own is in
    let count = numbers-append frame.state.run (item ∷ []) in
    let both : own + root.numbers ≡ numbers_in frame.state.uppers + numbers_of (frame.state.run ++ item ∷ []) = omega arith in
    let more : pages_put (pushing frame.state item) b ≡ pages_put frame.state b ++ root.pages (base_in (frame ∷ frames)) = pushed_put frame.state item b in
    let three : Begins 1 (pages_put frame.state b ++ front) (own + few) (pages_put (pushing frame.state item) b)
    (numbers_in frame.state.uppers + numbers_of (frame.state.run ++ item ∷ [])) =
    grind arith in
    let four = stack_before which page_size frames outer whole (pages_put frame.state b ++ front) (own + few) rest (begins_by (omega arith) three one) in
    grind (arith, append_assoc)

-- at any moment of a pass
pub pass_before : (which : Layout) (page_size : ℕ) (frames : List BucketFrame) (state : Open) (items : List (Laid LeafElement)) (whole : Laid BranchElement)
    → IsPass which page_size frames state items whole
    → Begins 1 (all_put frames state) (next_number state (base_in frames)) (whole.pages first_page) (first_page + whole.numbers)
pass_before which page_size frames state items whole pass =
    let few : ℕ = numbers_in state.uppers + numbers_of state.run in
    let is =
    stack_before which page_size frames pass.root whole (pages_put state (base_in frames)) few pass.stack
    (put_before which page_size state items pass.root (base_in frames) pass.current) in
    grind arith
