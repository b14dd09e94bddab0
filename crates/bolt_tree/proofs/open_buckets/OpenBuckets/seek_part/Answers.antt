use Rattle.std.proofs.Common.{◌∙◌, inl, inr, ◌++◌, ◌∷◌, [], None, refl, sym, ap}
use Rattle.bolt_tree.proofs.Words.{Key, Path, beyond, cursor_view, cursors_of, fresh_view, is_lt, path_of, props, seek_move, start_of, waiting_of}
use Rattle.bolt_tree.proofs.Words.{∥∥₁_elim}
use Rattle.bolt_tree.proofs.{Climbing.listed_in, Coming.at, Coming.beyond_there, Coming.from_none, Coming.inside_there, Coming.leads_there}
use Rattle.bolt_tree.proofs.{Coming.placed_there, Coming.rest_there, Coming.same_there}
use Rattle.bolt_tree.proofs.{Entering.lies_in, Entering.made, Entering.named_by, Entering.placed_in, OpenSteps.opens}
use Rattle.bolt_tree.proofs.open_buckets.OpenBuckets.seek_part.Goals.{then-is_lt-via-then-is_lt, then-is_lt-via-else-is_lt+then-is_last}
use Rattle.bolt_tree.proofs.open_buckets.OpenBuckets.seek_part.Goals as goal

pub open-requires : goal.open-requires
open-requires c = ∥∥₁_elim c.requires.named (hlevel props) (λ n. n.0)

pub next_step-requires : goal.next_step-requires
next_step-requires c =
    let old = c.args.self.now in
    let opens = opens c.args.self.now c.open.new.self c.args.within c.in-Some.cursor c.seek_element.new.self c.in_ok-open.ensures.cursors c.in-Some.is
    c.in_default-seek_element.ensures.checked c.in_default-seek_element.ensures.start (λ entries place. seek_move c.args.part.now entries) None
    (cursors_of c.close.new.self)
    c.in_default-seek_element.ensures.moves (c.close.ensures.cursors (waiting_of c.open.new.self) (cursor_view c.seek_element.new.self) refl) in
    placed_in old.checked c.close.new.self.checked (cursors_of old) (cursors_of c.close.new.self) (path_of old.path.items) (path_of c.close.new.self.path.items)
    (c.close.ensures.checked ∙ c.in_ok-open.ensures.checked) opens.is (ap path_of (c.close.ensures.path ∙ c.in_ok-open.ensures.path)) c.requires.placed

pub returns-in_default-seek_element-clause-sought : goal.returns-in_default-seek_element-clause-sought
returns-in_default-seek_element-clause-sought c =
    let old = c.args.self.now in
    let fresh = fresh_view c.args.within in
    let opens = opens c.args.self.now c.open.new.self c.args.within c.in-Some.cursor c.seek_element.new.self c.in_ok-open.ensures.cursors c.in-Some.is
    c.in_default-seek_element.ensures.checked c.in_default-seek_element.ensures.start (λ entries place. seek_move c.args.part.now entries) None
    (cursors_of c.close.new.self)
    c.in_default-seek_element.ensures.moves (c.close.ensures.cursors (waiting_of c.open.new.self) (cursor_view c.seek_element.new.self) refl) in
    let known = made old.checked (cursors_of old) (path_of old.path.items) c.args.within fresh c.requires.placed c.requires.named refl refl in (
      c.in_ok-next_step.ensures.ahead,
      c.in_ok-next_step.ensures.unreported,
      λ rest end listing lists.
          c.in_ok-next_step.ensures.left listing
          (listed_in c.close.new.self.checked old.checked listing (c.close.ensures.checked ∙ c.in_ok-open.ensures.checked) lists)
          ∙ (ap (λ (keys : Path). beyond keys listing) (ap path_of (c.close.ensures.path ∙ c.in_ok-open.ensures.path))
          ∙ from_none old.checked (cursors_of old) (path_of old.path.items) fresh opens.moved c.args.part.now known rest opens.moves listing lists),
    )

pub returns-then-is_lt-clause-placed : goal.returns-then-is_lt-clause-placed
returns-then-is_lt-clause-placed c =
    placed_there c.args.self.now c.open.new.self c.args.within c.in-Some.cursor c.seek_element.new.self c.requires.placed c.requires.named
    c.in_ok-open.ensures.checked c.in_ok-open.ensures.cursors c.in-Some.is
    c.in-Some-seek_element.ensures.checked c.in-Some-seek_element.ensures.start c.args.part.now c.in-Some-seek_element.leaf
    c.in-Some-seek_element.ensures.moves c.push_reserved.new.self.items c.in_ok-open.ensures.path c.push_reserved.ensures.items

pub returns-then-is_lt-clause-sought : goal.returns-then-is_lt-clause-sought
returns-then-is_lt-clause-sought c = (
  (
    c.in-Some-seek_element.ensures.bucket,
    leads_there c.args.self.now c.open.new.self c.args.within c.in-Some.cursor c.seek_element.new.self c.requires.placed c.requires.named
        c.in_ok-open.ensures.checked c.in_ok-open.ensures.cursors c.in-Some.is
        c.in-Some-seek_element.ensures.checked c.in-Some-seek_element.ensures.start c.args.part.now c.in-Some-seek_element.leaf
        c.in-Some-seek_element.ensures.moves c.push_reserved.new.self.items c.in_ok-open.ensures.path c.push_reserved.ensures.items,
  ),
  refl,
  rest_there c.args.self.now c.open.new.self c.args.within c.in-Some.cursor c.seek_element.new.self c.requires.placed c.requires.named
      c.in_ok-open.ensures.checked c.in_ok-open.ensures.cursors c.in-Some.is
      c.in-Some-seek_element.ensures.checked c.in-Some-seek_element.ensures.start c.args.part.now c.in-Some-seek_element.leaf
      c.in-Some-seek_element.ensures.moves c.push_reserved.new.self.items c.in_ok-open.ensures.path c.push_reserved.ensures.items c.args.is_last
      (elim c.then-is_lt.branch [
        | then-is_lt-via-then-is_lt w ↦ inl (ap is_lt (sym c.cmp.ensures) ∙ (sym c.is_lt.ensures ∙ w.if-is_lt.true))
        | then-is_lt-via-else-is_lt+then-is_last w ↦ inr (ap is_lt (sym c.cmp.ensures) ∙ (sym c.is_lt.ensures ∙ w.if-is_lt.false), w.if-is_last.true)
      ]),
)

pub returns-then-leaf-clause-placed : goal.returns-then-leaf-clause-placed
returns-then-leaf-clause-placed c =
    placed_there c.args.self.now c.open.new.self c.args.within c.in-Some.cursor c.seek_element.new.self c.requires.placed c.requires.named
    c.in_ok-open.ensures.checked c.in_ok-open.ensures.cursors c.in-Some.is
    c.in-Some-seek_element.ensures.checked c.in-Some-seek_element.ensures.start c.args.part.now c.in-Some-seek_element.leaf
    c.in-Some-seek_element.ensures.moves c.push_reserved.new.self.items c.in_ok-open.ensures.path c.push_reserved.ensures.items

pub returns-then-leaf-clause-sought : goal.returns-then-leaf-clause-sought
returns-then-leaf-clause-sought c =
    let same =
    same_there c.args.self.now c.open.new.self c.args.within c.in-Some.cursor c.seek_element.new.self c.requires.placed c.requires.named
    c.in_ok-open.ensures.checked c.in_ok-open.ensures.cursors c.in-Some.is
    c.in-Some-seek_element.ensures.checked c.in-Some-seek_element.ensures.start c.args.part.now c.in-Some-seek_element.leaf
    c.in-Some-seek_element.ensures.moves c.push_reserved.new.self.items c.in_ok-open.ensures.path c.push_reserved.ensures.items
    (ap is_lt (sym c.cmp.ensures) ∙ (sym c.is_lt.ensures ∙ c.if-is_lt.false)) in (
      at c.args.self.now c.open.new.self c.args.within c.in-Some.cursor c.seek_element.new.self c.requires.placed c.requires.named
          c.in_ok-open.ensures.checked c.in_ok-open.ensures.cursors c.in-Some.is
          c.in-Some-seek_element.ensures.checked c.in-Some-seek_element.ensures.start c.args.part.now c.in-Some-seek_element.leaf
          c.in-Some-seek_element.ensures.moves c.push_reserved.new.self.items c.in_ok-open.ensures.path c.push_reserved.ensures.items
          ∙ ap (λ (k : Key). path_of c.args.self.now.path.items ++ k ∷ []) (sym same),
      named_by c.open.new.self.checked (path_of c.push_reserved.new.self.items) (start_of c.in-Some-seek_element.leaf.value.now) c.of.result
          (inside_there c.args.self.now c.open.new.self c.args.within c.in-Some.cursor c.seek_element.new.self c.requires.placed c.requires.named
          c.in_ok-open.ensures.checked c.in_ok-open.ensures.cursors c.in-Some.is
          c.in-Some-seek_element.ensures.checked c.in-Some-seek_element.ensures.start c.args.part.now c.in-Some-seek_element.leaf
          c.in-Some-seek_element.ensures.moves c.push_reserved.new.self.items c.in_ok-open.ensures.path c.push_reserved.ensures.items c.if-leaf.true)
          c.of.ensures.checked c.of.ensures.start,
      c.if-is_last.false,
    )

pub of-requires-clause-begins : goal.of-requires-clause-begins
of-requires-clause-begins c =
    lies_in c.open.new.self.checked (path_of c.push_reserved.new.self.items) (start_of c.in-Some-seek_element.leaf.value.now)
    (inside_there c.args.self.now c.open.new.self c.args.within c.in-Some.cursor c.seek_element.new.self c.requires.placed c.requires.named
    c.in_ok-open.ensures.checked c.in_ok-open.ensures.cursors c.in-Some.is
    c.in-Some-seek_element.ensures.checked c.in-Some-seek_element.ensures.start c.args.part.now c.in-Some-seek_element.leaf
    c.in-Some-seek_element.ensures.moves c.push_reserved.new.self.items c.in_ok-open.ensures.path c.push_reserved.ensures.items c.if-leaf.true)

pub next_step-requires-2 : goal.next_step-requires-2
next_step-requires-2 c =
    placed_there c.args.self.now c.open.new.self c.args.within c.in-Some.cursor c.seek_element.new.self c.requires.placed c.requires.named
    c.in_ok-open.ensures.checked c.in_ok-open.ensures.cursors c.in-Some.is
    c.in-Some-seek_element.ensures.checked c.in-Some-seek_element.ensures.start c.args.part.now c.in-Some-seek_element.leaf
    c.in-Some-seek_element.ensures.moves c.push_reserved.new.self.items c.in_ok-open.ensures.path c.push_reserved.ensures.items

pub returns-clause-sought : goal.returns-clause-sought
returns-clause-sought c = (
  c.in_ok-next_step-2.ensures.ahead,
  c.in_ok-next_step-2.ensures.unreported,
  λ rest end listing lists.
      c.in_ok-next_step-2.ensures.left listing (listed_in c.open.new.self.checked c.args.self.now.checked listing c.in_ok-open.ensures.checked lists)
      ∙ beyond_there c.args.self.now c.open.new.self c.args.within c.in-Some.cursor c.seek_element.new.self c.requires.placed c.requires.named
      c.in_ok-open.ensures.checked c.in_ok-open.ensures.cursors c.in-Some.is
      c.in-Some-seek_element.ensures.checked c.in-Some-seek_element.ensures.start c.args.part.now c.in-Some-seek_element.leaf
      c.in-Some-seek_element.ensures.moves c.push_reserved.new.self.items c.in_ok-open.ensures.path c.push_reserved.ensures.items
      (ap is_lt (sym c.cmp.ensures) ∙ (sym c.is_lt.ensures ∙ c.if-is_lt.false)) c.if-leaf.false rest (end ∙ c.if-is_last.false) listing lists,
)
