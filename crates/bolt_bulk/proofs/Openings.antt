-- What is known of the buckets of a tree is known of those that are still to come.
use Rattle.std.proofs.Common.{◌≡◌, ◌∙◌, ap, ◌+◌, ◌≤◌, ℕ, suc, true, false, List, [], ◌∷◌, Option, None, refl, subst, arith, sym}
use Rattle.bolt_format.specs.Elements.{LeafElement}
use Rattle.bolt_tree.specs.Tree.{Tree, end, with_bucket, with_value}
use Rattle.bolt_layout.specs.{Items.is_inline, Items.items_of, Items.root_of, Laid.numbers_of, Layout.layout_high_water, Limits.limit_at}
use Rattle.bolt_layout.specs.{Limits.limits_from_ends}
use Rattle.bolt_layout.specs.Openings.{row_ends_of, AreRight, AreFromEnds, leaf_pages, limits_for, opened_by, opened_in}
use Rattle.bolt_layout.specs.{declared.Layout.Layout, declared.Layout.TheVariants.Plain}
use Rattle.bolt_layout.proofs.Exports.{items_below, leaves_few, plain_right, plain_rows, root_from_ends, from_ends_are}
use Rattle.bolt_bulk.specs.Private.{AreComing, AreComingAround, FitLimits, BucketFrame, HasRoot, limit_in, limits_with, Notes, onto, Wanted}
use Rattle.bolt_check.specs.Counts.{saturated}
use Rattle.bolt_bulk.specs.declared.limits.Limits.{Limits}

module _ (which : Layout) (page_size : ℕ) where
  -- entries that are values change nothing
  pub opened_onto : (entries : List LeafElement) (tree : Tree) → opened_in which page_size (onto entries tree) ≡ opened_in which page_size tree
  opened_onto [] tree = refl
  opened_onto (e ∷ entries) tree = opened_onto entries tree

  -- nor does an inline bucket
  pub opened_inline : (inside : Tree) → is_inline page_size inside (items_of which page_size inside) ≡ true → opened_by which page_size inside ≡ 0
  opened_inline inside inline = rw inline refl

  pub opened_rooted : (inside : Tree) → is_inline page_size inside (items_of which page_size inside) ≡ false
      → opened_by which page_size inside ≡ suc (opened_in which page_size inside)
  opened_rooted inside rooted = rw rooted refl

module _ (wanted : Wanted) (page_size : ℕ) (limits : ℕ → ℕ → Option ℕ) where
  pub coming_onto : (n : ℕ) (entries : List LeafElement) (tree : Tree) → AreComing wanted page_size limits n (onto entries tree)
      → AreComing wanted page_size limits n tree
  coming_onto n [] tree are = are
  coming_onto n (e ∷ entries) tree are = coming_onto n entries tree are

  pub coming_at : (m n : ℕ) (tree : Tree) → m ≡ n → AreComing wanted page_size limits m tree → AreComing wanted page_size limits n tree
  coming_at m n tree same are = subst (λ (k : ℕ). AreComing wanted page_size limits k tree) same are

  pub around_at : (m n : ℕ) (frames : List BucketFrame) → m ≡ n → AreComingAround wanted page_size limits m frames
      → AreComingAround wanted page_size limits n frames
  around_at m n frames same are = subst (λ (k : ℕ). AreComingAround wanted page_size limits k frames) same are

-- no limits are right for the plain layout
pub fit_plain : (page_size : ℕ) (limits : Limits) (tree : Tree) → ((bucket level : ℕ) → limit_in limits bucket level ≡ None)
    → FitLimits Plain tree page_size (limits_with limits)
fit_plain page_size limits tree none = record {
  root = plain_rows page_size (limits_with limits) (λ bucket level. none (saturated bucket) level) 0 (leaf_pages page_size (items_of Plain page_size tree));
  others = plain_right page_size (limits_with limits) (λ bucket level. none (saturated bucket) level) 1 tree;
}

-- At the beginning it is known of all.
module _ (wanted : Wanted) (page_size : ℕ) (limits : ℕ → ℕ → Option ℕ) where
  abbrev FromEnds : ℕ → Tree → Type 0
  FromEnds n below = wanted.which ≡ Plain → AreFromEnds page_size (limits_for page_size wanted.tree) n below

  -- the limits that the ends of a bucket's rows give
  abbrev ends : Layout → Tree → ℕ → Option ℕ
  ends w inside level = limit_at (limits_from_ends false (row_ends_of page_size (leaf_pages page_size (items_of w page_size inside)))) level

  coming_below : (n : ℕ) (below : Tree) → AreRight wanted.which page_size limits n below → FromEnds n below
      → numbers_of (items_of wanted.which page_size below) ≤ layout_high_water wanted.which page_size wanted.tree
      → AreComing wanted page_size limits n below
  coming_below n end right from few = tt
  coming_below n (with_value key value after) right from few = coming_below n after right from (omega arith)
  coming_below n (with_bucket key sequence inside after) right from few =
      let (one, rest) = items_below wanted.which page_size key sequence inside after in
      let leaves = leaves_few wanted.which page_size inside in
      let plain =
      λ (rooted : HasRoot wanted.which page_size inside) (e : wanted.which ≡ Plain).
      (from e).0 (subst (λ (w : Layout). HasRoot w page_size inside) e rooted) in (
        λ rooted. (
          record {
            right = (right.0 rooted).0;
            notes = record { noted = λ e level. (plain rooted e).0 level ∙ ap (λ (w : Layout). ends w inside level) (sym e); few = omega arith };
          },
          coming_below (suc n) inside (right.0 rooted).1 (λ e. (plain rooted e).1) (omega arith),
        ),
        coming_below (n + opened_by wanted.which page_size inside) after right.1
            (λ e. subst (λ (w : Layout). AreFromEnds page_size (limits_for page_size wanted.tree) (n + opened_by w page_size inside) after) (sym e)
            (from e).1) (omega arith),
      )

  pub all_coming : AreRight wanted.which page_size limits 1 wanted.tree → AreComing wanted page_size limits 1 wanted.tree
  unfolding root_of
  all_coming right =
      let leaves = leaves_few wanted.which page_size wanted.tree in coming_below 1 wanted.tree right (λ e. from_ends_are page_size wanted.tree) (omega arith)

-- the root bucket is opened as number 0
pub root_notes : (wanted : Wanted) (page_size : ℕ) → Notes wanted page_size 0 (leaf_pages page_size (items_of wanted.which page_size wanted.tree))
unfolding root_of
root_notes wanted page_size = grind (arith, leaves_few, root_from_ends)
