use Rattle.std.proofs.Common.{◌≡◌, ◌∙◌, ◌⊎◌, ◌↔◌, ◌<◌, ◌+◌, ◌-◌, ◌++◌, ◌∷◌, inl, ℕ, true, List, [], ap, arith, subst, sym}
use Rattle.bolt_recover.proofs.Words.{All, All-push, false_from_ne_true, false≢true, FoundPage, FoundBelow, is_listed, is_taken, IsFoundPage, IsFoundView}
use Rattle.bolt_recover.proofs.Words.{leftovers_file, leftovers_length, leftovers_meta, map-append, found_numbers}
use Rattle.bolt_recover.proofs.FoundLemmas.{found_next, found_not, found_up, taken_more, view_of}
use Rattle.bolt_recover.proofs.found_leaves.find_leaves.Goals as goal
use Rattle.bolt_recover.proofs.found_leaves.find_leaves.Goals.{in-Some, in_default}

pub loop-number-preserved : goal.loop-number-preserved
loop-number-preserved c =
    let file = leftovers_file c.args.leftovers in
    let meta = leftovers_meta c.args.leftovers in
    let kept : ℕ → Type 0 = λ n. is_taken c.args.leftovers n ≡ true in
    let l = c.loop-number in
    let inv = l.invariant in
    let n = l.number in
    let found = found_numbers l.found.items in
    let old = is_taken l.leftovers in
    let new = is_taken c.take.new.self in
    let listed = is_listed l.leftovers in
    let first = is_listed c.args.leftovers in
    let inside : n < leftovers_length c.args.leftovers =
    (let within = c.end-number-end.ensures.within in let lt = c.loop-number-test.true in omega (arith, within, lt)) in
    let free = c.requires n inside in
    elim c.match-take.branch [
      | in-Some w ↦
          let some = rw (inv.file, inv.meta) at w.in-Some.ensures in
          let f : FoundPage = w.new.result in
          let items : c.match-take.found.items ≡ l.found.items ++ f ∷ [] =
          ap (λ v. v.items) w.found-is ∙ w.push_reserved.ensures.items ∙ ap (λ (fs : List FoundPage). fs ++ f ∷ []) c.in_ok-reserve.ensures.items in
          let numbers : found_numbers c.match-take.found.items ≡ found ++ n ∷ [] =
          ap found_numbers items ∙ map-append (λ (x : FoundPage). x.number) l.found.items (f ∷ []) ∙ ap (λ (m : ℕ). found ++ m ∷ []) w.new.ensures.number in
          let view =
          view_of file meta (λ k. old k ≡ true) f (rw (w.new.ensures.number, w.new.ensures.page) some.page)
          (rw (w.new.ensures.number, w.new.ensures.page) some.node) (rw w.new.ensures.number some.leaf) in
          record {
            file = c.take.ensures.file ∙ inv.file;
            meta = c.take.ensures.meta ∙ inv.meta;
            length = c.take.ensures.length ∙ inv.length;
            below = subst (λ (xs : List ℕ). FoundBelow file meta kept (n + 1) xs) (sym numbers)
                (found_next file meta kept found n old listed first inv.taken (inv.listed n) free inv.below some.leaf some.unlisted);
            taken = subst (λ (xs : List ℕ). (k : ℕ) → (new k ≡ true) ↔ (kept k ⊎ IsFoundPage file meta xs k)) (sym numbers)
                (taken_more file meta kept found n old new inv.taken some.taken);
            listed =
                λ k untaken. c.take.ensures.noted k untaken
                ∙ inv.listed k (false_from_ne_true (old k) (λ was. false≢true (sym untaken ∙ (some.taken k).1 (inl was))));
            views = subst (All (IsFoundView file meta)) (sym items) (All-push (IsFoundView file meta) l.found.items f inv.views view);
          }
      | in_default w ↦
          let none = rw (inv.file, inv.meta) at w.in_default.ensures in
          let items : c.match-take.found.items ≡ l.found.items = ap (λ v. v.items) w.found-is ∙ c.in_ok-reserve.ensures.items in
          let numbers : found_numbers c.match-take.found.items ≡ found = ap found_numbers items in
          record {
            file = c.take.ensures.file ∙ inv.file;
            meta = c.take.ensures.meta ∙ inv.meta;
            length = c.take.ensures.length ∙ inv.length;
            below = subst (λ (xs : List ℕ). FoundBelow file meta kept (n + 1) xs) (sym numbers)
                (found_not file meta kept found n old listed first inv.taken (inv.listed n) free inv.below none.none);
            taken = subst (λ (xs : List ℕ). (k : ℕ) → (new k ≡ true) ↔ (kept k ⊎ IsFoundPage file meta xs k)) (sym numbers)
                (λ k. subst (λ b. (b ≡ true) ↔ (kept k ⊎ IsFoundPage file meta found k)) (sym (none.same k)) (inv.taken k));
            listed = λ k untaken. c.take.ensures.noted k untaken ∙ inv.listed k (sym (none.same k) ∙ untaken);
            views = subst (All (IsFoundView file meta)) (sym items) inv.views;
          }
    ]

pub returns-clause-found : goal.returns-clause-found
returns-clause-found c =
    let file = leftovers_file c.args.leftovers in
    let meta = leftovers_meta c.args.leftovers in
    let kept : ℕ → Type 0 = λ n. is_taken c.args.leftovers n ≡ true in
    let end = c.end-number-end.result in
    let below = c.end-number-end.ensures.below in
    let at_end : c.loop-number.number ≡ end =
    (let over = c.loop-number-test.false in let auto_ = c.loop-number.auto.number-end in omega (arith, over, auto_)) in
    let up : end + (meta.high_water - end) ≡ meta.high_water = omega (arith, below) in
    let found = found_numbers c.loop-number.found.items in
    subst (λ (n : ℕ). FoundBelow file meta kept n found) up
    (found_up file meta kept end found (meta.high_water - end) (subst (λ (n : ℕ). FoundBelow file meta kept n found) at_end c.loop-number.invariant.below)
    (λ n le lt next. c.end-number-end.ensures.past n next.leaf.passes.node le next.leaf.passes.page (omega (arith, lt, up))))
