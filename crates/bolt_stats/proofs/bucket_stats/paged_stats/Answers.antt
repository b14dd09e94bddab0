use Rattle.std.proofs.Common.{rules, ◌≡◌, ◌∙◌, ◌∷◌, [], ℕ, List, ap, arith}
use Rattle.bolt_lemmas.proofs.Exports.{none_left}
use Rattle.bolt_stats.proofs.Words.{bytes_of, figure, meta_of, node_at, one, own_figure, roots_of, Stats, UnreadBucket, weight, ∥∥₁_elim, ∥∥₁_map}
use Rattle.bolt_stats.proofs.Words.{∥∥₁_prop}
use Rattle.bolt_stats.proofs.{FigureLemmas.figure_add, ReadDepths.bucket_end, ReadDepths.read_end}
use Rattle.bolt_stats.proofs.ReadSums.{all_good, deepened, first_figure, first_fits, last_good, unread_popped, total_popped, zero_depth}
use Rattle.bolt_stats.proofs.bucket_stats.paged_stats.Goals as goal

pub buckets-init : goal.buckets-init
buckets-init c =
    let first : UnreadBucket = record { root = c.args.root; above = 0 } in
    let items : c.push.new.self.items ≡ first ∷ [] = rw c.new-buckets.ensures.items at c.in_ok-push.ensures.items in
    record {
      pages = c.new-pages.ensures.items;
      roots = c.new-roots.ensures.items;
      good = rw items c.requires;
      fits = λ f. let z = first_figure f c.default.result c.default.ensures in let few = first_fits f in omega (arith, z, few);
      stats = λ f. let z = first_figure f c.default.result c.default.ensures in rw items (omega (arith, z));
      depth_fits = let z = zero_depth c.default.result c.default.ensures in omega (arith, z);
      depth = let z = zero_depth c.default.result c.default.ensures in rw items (omega (arith, z));
    }

pub read_bucket-requires-clause-good : goal.read_bucket-requires-clause-good
read_bucket-requires-clause-good c =
    let file : List ℕ = bytes_of c.args.checked.now in
    let meta = meta_of c.args.checked.now in
    let taken = unread_popped file meta c.buckets.buckets.items c.pop.new.self.items c.in-Some.bucket c.in-Some.ensures.items in
    ∥∥₁_map c.buckets.invariant.good (λ g. last_good file meta (roots_of c.buckets.buckets.items) (roots_of c.pop.new.self.items) c.in-Some.bucket.root taken g)

pub buckets-preserved : goal.buckets-preserved
buckets-preserved c =
    let file : List ℕ = bytes_of c.args.checked.now in
    let meta = meta_of c.args.checked.now in
    let rest : List ℕ = roots_of c.pop.new.self.items in
    let found : List ℕ = c.read_bucket.new.roots.items in
    let taken = unread_popped file meta c.buckets.buckets.items c.pop.new.self.items c.in-Some.bucket c.in-Some.ensures.items in
    record {
      pages = c.in_ok-read.ensures.pages;
      roots = c.in_ok-add_buckets.ensures.none;
      good = ∥∥₁_elim c.buckets.invariant.good ∥∥₁_prop (λ g. ∥∥₁_map c.in_ok-read.ensures.good (λ h.
          all_good file meta (roots_of c.buckets.buckets.items) rest found (roots_of c.add_buckets.new.buckets.items) c.in-Some.bucket.root taken
          c.in_ok-add_buckets.ensures.from g h));
      fits = λ f. let added = ap (figure f) c.add-total.ensures ∙ figure_add f c.buckets.total _ in omega (arith, added);
      stats = λ f.
          let own : ℕ → ℕ = own_figure file meta f in
          let added = ap (figure f) c.add-total.ensures ∙ figure_add f c.buckets.total _ in
          let same = deepened f c.in_ok-read.read.stats c.saturating_add-depth.result in
          let read = c.in_ok-read.ensures.stats f in
          let sums = c.in_ok-add_buckets.ensures.sums (weight (node_at file meta) own meta.high_water) in
          let before = total_popped file meta own (roots_of c.buckets.buckets.items) rest c.in-Some.bucket.root taken in
          let whole = c.buckets.invariant.stats f in
          omega (arith, added, same, read, sums, before, whole);
      depth_fits =
          let added = ap (λ (s : Stats). s.depth) c.add-total.ensures in
          let end = c.saturating_add-depth.ensures in
          let before = c.buckets.invariant.depth_fits in
          omega (arith, added, end, before);
      depth =
          let added = ap (λ (s : Stats). s.depth) c.add-total.ensures in
          let step =
          read_end file meta c.buckets.buckets.items c.pop.new.self.items c.add_buckets.new.buckets.items c.in-Some.bucket found c.in_ok-read.read.height
          c.saturating_add-above.result c.in_ok-read.read.inline_depth c.saturating_add-depth.result c.in_ok-read.ensures.height c.in_ok-read.ensures.deepest
          c.saturating_add-above.ensures c.saturating_add-depth.ensures c.in-Some.ensures.items (c.in_ok-add_buckets.ensures.deepest (bucket_end file meta)) in
          let whole = c.buckets.invariant.depth in
          omega (arith, added, step, whole);
    }

pub buckets-smaller : goal.buckets-smaller
buckets-smaller c =
    let file : List ℕ = bytes_of c.args.checked.now in
    let meta = meta_of c.args.checked.now in
    let rest : List ℕ = roots_of c.pop.new.self.items in
    let taken = unread_popped file meta c.buckets.buckets.items c.pop.new.self.items c.in-Some.bucket c.in-Some.ensures.items in
    let sums = c.in_ok-add_buckets.ensures.sums (weight (node_at file meta) one meta.high_water) in
    let before = total_popped file meta one (roots_of c.buckets.buckets.items) rest c.in-Some.bucket.root taken in
    omega (arith, sums, before, c.in_ok-read.ensures.fewer)

pub returns-clause-stats : goal.returns-clause-stats
returns-clause-stats c = search (rules, none_left)

pub returns-clause-depth : goal.returns-clause-depth
returns-clause-depth c = search (rules, none_left)
