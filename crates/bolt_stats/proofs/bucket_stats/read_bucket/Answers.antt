use Rattle.std.proofs.Common.{rules, ◌≡◌, ◌∙◌, ◌+◌, ◌<◌, ◌++◌, ◌∷◌, [], ℕ, List, inl, inr, ap, arith, map, sym}
use Rattle.bolt_lemmas.proofs.Exports.{none_left}
use Rattle.bolt_stats.proofs.Words.{bytes_of, saturated, deepest_of, figure, greatest, inner_pages, inner_roots, meta_of, Node, unread_numbers, one}
use Rattle.bolt_stats.proofs.Words.{own_figure, props, total_of, unread_page, ∥∥₁_elim, ∥∥₁_map, ∥∥₁_prop}
use Rattle.bolt_stats.proofs.{FigureLemmas.figure_add, ReadDepths.first_height, ReadDepths.numbers_opened, ReadDepths.read_deepest}
use Rattle.bolt_stats.proofs.{ReadDepths.read_height}
use Rattle.bolt_stats.proofs.ReadSums.{more_found, next_good, popped, read_good, read_sum, started, zero_figure}
use Rattle.bolt_stats.proofs.bucket_stats.read_bucket.Goals as goal

pub pages-init : goal.pages-init
pages-init c =
    let file : List ℕ = bytes_of c.args.checked.now in
    let meta = meta_of c.args.checked.now in
    let now = started c.args.pages.now.items c.push.new.self.items _ c.requires.pages c.in_ok-push.ensures.items in
    record {
      good = rw (now, c.requires.roots) c.requires.good;
      fewer = inl (now, c.requires.roots);
      fits = λ f. let z = zero_figure f c.default.result c.default.ensures in omega (arith, z);
      stats = λ f. let z = zero_figure f c.default.result c.default.ensures in rw (now, c.requires.roots) (omega (arith, z));
      height =
          let first = first_height file meta c.args.pages.now.items c.push.new.self.items _ c.requires.pages c.in_ok-push.ensures.items in omega (arith, first);
      deepest = rw (now, c.requires.roots) (omega arith);
    }

pub read_unread_page-requires : goal.read_unread_page-requires
read_unread_page-requires c =
    next_good (bytes_of c.args.checked.now) (meta_of c.args.checked.now) (unread_numbers c.pop.new.self.items) c.pages.roots.items
    (unread_numbers c.pages.pages.items) c.in-Some.open.number
    (popped c.pages.pages.items c.pop.new.self.items c.in-Some.open c.in-Some.ensures.items) c.pages.invariant.good

pub pages-preserved : goal.pages-preserved
pages-preserved c =
    let file : List ℕ = bytes_of c.args.checked.now in
    let meta = meta_of c.args.checked.now in
    let n : ℕ = c.in-Some.open.number in
    let rest : List ℕ = unread_numbers c.pop.new.self.items in
    let before : List ℕ = unread_numbers c.pages.pages.items in
    let after : List ℕ = unread_numbers c.read_unread_page.new.pages.items in
    let roots : List ℕ = c.pages.roots.items in
    let found : List ℕ = c.read_unread_page.new.roots.items in
    let taken = popped c.pages.pages.items c.pop.new.self.items c.in-Some.open c.in-Some.ensures.items in
    let good = rw taken at c.pages.invariant.good in
    let enough = next_good file meta rest roots before n taken c.pages.invariant.good in
    let kids = c.in_ok-read.ensures.kids in
    let opened : (node : Node)
    → c.read_unread_page.new.pages.items ≡ c.pop.new.self.items ++ map (unread_page (saturated (c.in-Some.open.depth + 1))) (inner_pages node)
    → after ≡ rest ++ inner_pages node
    = λ node a. numbers_opened c.pop.new.self.items c.read_unread_page.new.pages.items (saturated (c.in-Some.open.depth + 1)) (inner_pages node) a in
    let sums : (own : ℕ → ℕ)
    → own n + (total_of file meta own after + total_of file meta own found) ≡ total_of file meta own before + total_of file meta own roots
    = λ own. ∥∥₁_elim kids (Prim.hlevel props) (λ (node, page, a, b, _, _). ∥∥₁_elim enough (Prim.hlevel props) (λ e.
    read_sum file meta own rest roots after found n node page e (opened node a) b
    ∙ ap (λ (l : List ℕ). total_of file meta own l + total_of file meta own roots) (sym taken))) in
    let count = sums one in
    let less : total_of file meta one after + total_of file meta one found < total_of file meta one (c.args.root ∷ [])
    = elim c.pages.invariant.fewer [
      | inl none ↦ let p = ap (total_of file meta one) none.0 in let q = ap (total_of file meta one) none.1 in omega (arith, count, p, q)
      | inr less ↦ omega (arith, count, less)
    ] in
    record {
      good =
          ∥∥₁_elim kids ∥∥₁_prop (λ (node, page, a, b, _, _). ∥∥₁_map good (λ g. read_good file meta rest roots after found n node page g (opened node a) b));
      fewer = inr less;
      fits = λ f. let added = ap (figure f) c.add-whole.ensures ∙ figure_add f c.pages.whole.stats c.in_ok-read.read.stats in omega (arith, added);
      stats = λ f.
          let added = ap (figure f) c.add-whole.ensures ∙ figure_add f c.pages.whole.stats c.in_ok-read.read.stats in
          let own = c.in_ok-read.ensures.stats f in
          let sum = sums (own_figure file meta f) in
          let whole = c.pages.invariant.stats f in
          omega (arith, added, own, sum, whole);
      height = ∥∥₁_elim kids (Prim.hlevel props) (λ (node, page, a, b, high, _). ∥∥₁_elim enough (Prim.hlevel props) (λ e.
          let same =
          read_height file meta c.pop.new.self.items c.pages.pages.items c.read_unread_page.new.pages.items c.in-Some.open node c.in_ok-read.read.height
          page e c.in-Some.ensures.items a high in
          omega (arith, same, c.pages.invariant.height)));
      deepest = ∥∥₁_elim kids (Prim.hlevel props) (λ (node, page, a, b, _, deep). ∥∥₁_elim enough (Prim.hlevel props) (λ e.
          let same = read_deepest file meta rest roots after found n node c.in_ok-read.read.inline_depth page e (opened node a) b deep in
          let was = ap (greatest (deepest_of file meta)) taken in
          omega (arith, same, was, c.pages.invariant.deepest)));
    }

pub pages-smaller : goal.pages-smaller
pages-smaller c =
    let file : List ℕ = bytes_of c.args.checked.now in
    let meta = meta_of c.args.checked.now in
    let n : ℕ = c.in-Some.open.number in
    let taken = popped c.pages.pages.items c.pop.new.self.items c.in-Some.open c.in-Some.ensures.items in
    let enough =
    next_good file meta (unread_numbers c.pop.new.self.items) c.pages.roots.items (unread_numbers c.pages.pages.items) n taken c.pages.invariant.good in
    ∥∥₁_elim c.in_ok-read.ensures.kids (Prim.hlevel props) (λ (node, page, a, b, _, _). ∥∥₁_elim enough (Prim.hlevel props) (λ e.
    let after = numbers_opened c.pop.new.self.items c.read_unread_page.new.pages.items (saturated (c.in-Some.open.depth + 1)) (inner_pages node) a in
    let sum =
    read_sum file meta one (unread_numbers c.pop.new.self.items) c.pages.roots.items (unread_numbers c.read_unread_page.new.pages.items)
    c.read_unread_page.new.roots.items n node page e after b in
    let more = more_found file meta one c.pages.roots.items c.read_unread_page.new.roots.items (inner_roots node) b in
    let same = ap (total_of file meta one) taken in
    omega (arith, sum, more, same)))

pub returns-clause-good : goal.returns-clause-good
returns-clause-good c = rw (none_left _ _ _ c.in_default.ensures.cases.0 c.in_default.ensures.rest c.in_default.ensures.items) at c.pages.invariant.good

pub returns-clause-stats : goal.returns-clause-stats
returns-clause-stats c = search (rules, none_left)

pub returns-clause-height : goal.returns-clause-height
returns-clause-height c =
    let whole = rw (none_left _ _ _ c.in_default.ensures.cases.0 c.in_default.ensures.rest c.in_default.ensures.items) at c.pages.invariant.height in
    omega (arith, whole)

pub returns-clause-deepest : goal.returns-clause-deepest
returns-clause-deepest c =
    let whole = rw (none_left _ _ _ c.in_default.ensures.cases.0 c.in_default.ensures.rest c.in_default.ensures.items) at c.pages.invariant.deepest in
    omega (arith, whole)
