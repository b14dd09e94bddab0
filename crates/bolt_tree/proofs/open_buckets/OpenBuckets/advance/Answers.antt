use Rattle.std.proofs.Common.{◌≡◌, ◌∙◌, ◌++◌, ◌∷◌, [], ap, arith, refl, sym, vec_len}
use Rattle.bolt_tree.proofs.Words.{IsNamed, Path, beyond, cursor_view, cursors_of, leaf_view, left_by, open_path, path_of, rest_after, root_start}
use Rattle.bolt_tree.proofs.Words.{same_Some, start_of, waiting_of}
use Rattle.bolt_tree.proofs.Climbing.{all_closed, ends, gives, leads_on, listed_in, none_beyond, opens, popped, popped_len, stays}
use Rattle.bolt_tree.proofs.{Entering.itself, Entering.lies_in, Entering.named_by, Entering.placed_in, Entering.root_inside, OpenSteps.path_push}
use Rattle.bolt_tree.proofs.open_buckets.OpenBuckets.advance.Goals as goal
use Rattle.bolt_tree.proofs.open_buckets.OpenBuckets.advance.Goals.{in-Begin, in-Enter, in-Leave, in-Some+in_ok-leaf+in_default-2, in_default}

pub returns-in-Give-clause-left : goal.returns-in-Give-clause-left
returns-in-Give-clause-left c = λ listing lists.
    let on = rw c.in-Give.is at c.requires.ahead in
    rw c.in-Give.is
    (itself c.args.self.now.checked (cursors_of c.args.self.now) (path_of c.args.self.now.path.items) (leaf_view c.in-Give.leaf) c.requires.placed on.1
    listing lists)

pub of-requires-clause-begins : goal.of-requires-clause-begins
of-requires-clause-begins c =
    let inside = rw c.in-Enter.is at c.requires.ahead in
    lies_in c.args.self.now.checked (path_of c.args.self.now.path.items) (start_of c.in-Enter.value.now) inside.1

pub enter-requires-clause-named : goal.enter-requires-clause-named
enter-requires-clause-named c =
    let checked = c.args.self.now.checked in
    let path : Path = open_path c.args.self.now in
    elim c.match-ahead.branch as (λ _. IsNamed c.args.self.now c.in-Some.bucket) [
      | in-Begin w ↦
          let same = same_Some _ _ (sym c.in-Some.is ∙ w.inner-is) in
          let none = rw w.in-Begin.is at c.requires.ahead in
          rw same (named_by checked path (root_start checked) w.root.result (root_inside checked path none) w.root.ensures.checked w.root.ensures.start)
      | in-Enter w ↦
          let same = same_Some _ _ (sym c.in-Some.is ∙ w.inner-is) in
          let inside = rw w.in-Enter.is at c.requires.ahead in
          rw same (named_by checked path (start_of w.in-Enter.value.now) w.of.result inside.1 w.of.ensures.checked w.of.ensures.start)
      | in-Leave w ↦ absurd (let same = sym c.in-Some.is ∙ w.inner-is in cc)
    ]

pub loop-self-init : goal.loop-self-init
loop-self-init c =
    let old = c.args.self.now in
    let path : Path = open_path c.args.self.now in
    elim c.match-inner.branch [
      | in-Some+in_ok-leaf+in_default-2 w ↦ rw w.self-is (record {
        checked = w.in_ok-leaf.ensures.checked;
        placed = w.in_ok-leaf.ensures.placed;
        left = λ listing lists.
            let inside : left_by c.args.ahead path listing ≡ rest_after path listing =
            elim c.match-ahead.branch as (λ _. left_by c.args.ahead path listing ≡ rest_after path listing) [
              | in-Begin v ↦ rw v.in-Begin.is refl
              | in-Enter v ↦ rw v.in-Enter.is refl
              | in-Leave v ↦ absurd (let same = sym w.in-Some.is ∙ v.inner-is in cc)
            ] in
            let entered = rw w.in_default-2.is at w.in_ok-leaf.ensures.left in
            let same = rw w.in_default-2.is at w.in_ok-leaf.ensures.none in
            inside ∙ entered listing (listed_in old.checked w.enter.new.self.checked listing (sym w.in_ok-leaf.ensures.checked) lists)
            ∙ ap (λ (p : Path). beyond p listing) (sym same);
      })
      | in_default w ↦ rw w.self-is (record {
        checked = refl;
        placed = c.requires.placed;
        left = λ listing lists. elim c.match-ahead.branch as (λ _. left_by c.args.ahead path listing ≡ beyond path listing) [
          | in-Begin v ↦ absurd (let same = sym w.in_default.is ∙ v.inner-is in cc)
          | in-Enter v ↦ absurd (let same = sym w.in_default.is ∙ v.inner-is in cc)
          | in-Leave v ↦ rw v.in-Leave.is refl
        ];
      })
    ]

pub push_reserved-requires : goal.push_reserved-requires
push_reserved-requires c =
    let buckets = c.loop-self.self in
    let len =
    popped_len buckets c.in-Some-innermost.cursor c.in-Some-innermost.is c.loop-self.invariant.placed c.pop.new.self.items (vec_len c.pop.new.self)
    c.pop.result c.pop.ensures.items c.pop.ensures.rest c.pop.ensures.cases in
    omega (arith, len, c.pop.ensures.capacity)

pub returns-in-Some-found-clause-placed : goal.returns-in-Some-found-clause-placed
returns-in-Some-found-clause-placed c =
    let buckets = c.loop-self.self in
    let known =
    popped buckets c.in-Some-innermost.cursor c.in-Some-innermost.is c.loop-self.invariant.placed c.pop.new.self.items (vec_len c.pop.new.self) c.pop.result
    c.pop.ensures.items c.pop.ensures.rest c.pop.ensures.cases in
    opens buckets.checked (waiting_of buckets) (cursor_view c.in-Some-innermost.cursor) (cursor_view c.next_element-found.new.self)
    (path_of buckets.path.items) (path_of c.pop.new.self.items) known
    (leaf_view c.in-Some-found.leaf) (waiting_of buckets ++ cursor_view c.next_element-found.new.self ∷ []) (path_of c.push_reserved.new.self.items)
    c.in-Some-found.ensures.checked c.in-Some-found.ensures.start c.in-Some-found.ensures.moves refl
    (ap path_of c.push_reserved.ensures.items ∙ path_push c.pop.new.self.items c.in-Some-found.leaf.key)

pub returns-in-Some-found-clause-on : goal.returns-in-Some-found-clause-on
returns-in-Some-found-clause-on c =
    let buckets = c.loop-self.self in
    let known =
    popped buckets c.in-Some-innermost.cursor c.in-Some-innermost.is c.loop-self.invariant.placed c.pop.new.self.items (vec_len c.pop.new.self) c.pop.result
    c.pop.ensures.items c.pop.ensures.rest c.pop.ensures.cases in (
      c.in-Some-found.ensures.bucket,
      leads_on buckets.checked (waiting_of buckets) (cursor_view c.in-Some-innermost.cursor) (cursor_view c.next_element-found.new.self)
          (path_of buckets.path.items) (path_of c.pop.new.self.items) known
          (leaf_view c.in-Some-found.leaf) (path_of c.push_reserved.new.self.items) c.in-Some-found.ensures.moves
          (ap path_of c.push_reserved.ensures.items ∙ path_push c.pop.new.self.items c.in-Some-found.leaf.key),
    )

pub returns-in-Some-found-clause-left : goal.returns-in-Some-found-clause-left
returns-in-Some-found-clause-left c = λ listing lists.
    let buckets = c.loop-self.self in
    let known =
    popped buckets c.in-Some-innermost.cursor c.in-Some-innermost.is c.loop-self.invariant.placed c.pop.new.self.items (vec_len c.pop.new.self) c.pop.result
    c.pop.ensures.items c.pop.ensures.rest c.pop.ensures.cases in
    let here = listed_in buckets.checked c.args.self.now.checked listing c.loop-self.invariant.checked lists in
    c.loop-self.invariant.left listing here
    ∙ gives buckets.checked (waiting_of buckets) (cursor_view c.in-Some-innermost.cursor) (cursor_view c.next_element-found.new.self)
    (path_of buckets.path.items) (path_of c.pop.new.self.items) known
    (leaf_view c.in-Some-found.leaf) (path_of c.push_reserved.new.self.items) c.in-Some-found.ensures.moves
    (ap path_of c.push_reserved.ensures.items ∙ path_push c.pop.new.self.items c.in-Some-found.leaf.key) listing here

pub loop-self-preserved : goal.loop-self-preserved
loop-self-preserved c =
    let buckets = c.loop-self.self in
    let known =
    popped buckets c.in-Some-innermost.cursor c.in-Some-innermost.is c.loop-self.invariant.placed c.pop.new.self.items (vec_len c.pop.new.self) c.pop.result
    c.pop.ensures.items c.pop.ensures.rest c.pop.ensures.cases in
    let after = c.close.new.self in
    let path = ap path_of c.close.ensures.path in
    record {
      checked = c.close.ensures.checked ∙ c.loop-self.invariant.checked;
      placed =
          placed_in buckets.checked after.checked (cursors_of after) (cursors_of after) (path_of c.pop.new.self.items) (path_of after.path.items)
          c.close.ensures.checked refl path
          (stays buckets.checked (waiting_of buckets) (cursor_view c.in-Some-innermost.cursor) (cursor_view c.next_element-found.new.self)
          (path_of buckets.path.items) (path_of c.pop.new.self.items) known
          (cursors_of after) (c.close.ensures.cursors (waiting_of buckets) (cursor_view c.next_element-found.new.self) refl));
      left = λ listing lists.
          let here = listed_in buckets.checked after.checked listing (sym c.close.ensures.checked) lists in
          c.loop-self.invariant.left listing here
          ∙ ends buckets.checked (waiting_of buckets) (cursor_view c.in-Some-innermost.cursor) (cursor_view c.next_element-found.new.self)
          (path_of buckets.path.items) (path_of c.pop.new.self.items) known c.in_default-found.ensures.moves listing here
          ∙ ap (λ (p : Path). beyond p listing) (sym path);
    }

pub returns-clause-ended : goal.returns-clause-ended
returns-clause-ended c = all_closed c.loop-self.self c.loop-self.invariant.placed c.in_default-innermost.is

pub returns-clause-left : goal.returns-clause-left
returns-clause-left c = λ listing lists.
    let here = listed_in c.loop-self.self.checked c.args.self.now.checked listing c.loop-self.invariant.checked lists in
    c.loop-self.invariant.left listing here ∙ none_beyond (path_of c.loop-self.self.path.items) listing (returns-clause-ended c)
