use Rattle.std.proofs.Common.{◌∙◌, ◌++◌, ◌∷◌, [], None, Some, ap, refl}
use Rattle.bolt_tree.proofs.Words.{Opens, cursor_view, cursors_of, first_move, fresh_view, leaf_view, next_move, path_of, props, waiting_of, ∥∥₁_elim}
use Rattle.bolt_tree.proofs.{CursorMoves.by_first, Entering.first_gives, Entering.first_none, Entering.leads_by, Entering.leads_in, Entering.made}
use Rattle.bolt_tree.proofs.{Entering.opens_by, Entering.placed_in}
use Rattle.bolt_tree.proofs.{OpenSteps.enters, OpenSteps.opens, OpenSteps.path_put, open_buckets.OpenBuckets.enter.Goals.After-close}
use Rattle.bolt_tree.proofs.open_buckets.OpenBuckets.enter.Goals as goal

pub open-requires : goal.open-requires
open-requires c = ∥∥₁_elim c.requires.named (hlevel props) (λ n. n.0)

pub returns-in_err-open-clause-placed : goal.returns-in_err-open-clause-placed
returns-in_err-open-clause-placed c =
    let old = c.args.self.now in
    placed_in old.checked c.open.new.self.checked (cursors_of old) (cursors_of c.open.new.self) (path_of old.path.items) (path_of c.open.new.self.path.items)
    c.in_err-open.ensures.checked c.in_err-open.ensures.same (ap path_of c.in_err-open.ensures.path) c.requires.placed

-- the bucket has no entry, and is closed again
emptied : (c : After-close)
    → Opens c.args.bucket (λ entries place. first_move entries) (cursors_of c.args.self.now) (cursors_of c.close.new.self) None
emptied c =
    enters c.args.bucket _ _ _
    (opens c.args.self.now c.open.new.self c.args.bucket c.in-Some.cursor c.next_element.new.self c.in_ok-open.ensures.cursors c.in-Some.is
    c.in_default-next_element.ensures.checked c.in_default-next_element.ensures.start next_move None (cursors_of c.close.new.self)
    c.in_default-next_element.ensures.moves
    (c.close.ensures.cursors (waiting_of c.open.new.self) (cursor_view c.next_element.new.self) refl))

pub returns-in_default-next_element-clause-placed : goal.returns-in_default-next_element-clause-placed
returns-in_default-next_element-clause-placed c =
    let old = c.args.self.now in
    let opens = emptied c in
    placed_in old.checked c.close.new.self.checked (cursors_of old) (cursors_of c.close.new.self) (path_of old.path.items) (path_of c.close.new.self.path.items)
    (c.close.ensures.checked ∙ c.in_ok-open.ensures.checked) opens.is (ap path_of (c.close.ensures.path ∙ c.in_ok-open.ensures.path)) c.requires.placed

pub returns-in_default-next_element-clause-left : goal.returns-in_default-next_element-clause-left
returns-in_default-next_element-clause-left c = λ listing lists.
    let old = c.args.self.now in
    let opens = emptied c in
    let known =
    made old.checked (cursors_of old) (path_of old.path.items) c.args.bucket (fresh_view c.args.bucket) c.requires.placed c.requires.named refl refl in
    first_none old.checked (cursors_of old) (path_of old.path.items) (fresh_view c.args.bucket) opens.moved known opens.moves listing lists

-- or its cursor is on its first entry
pub returns : goal.returns
returns c =
    let old = c.args.self.now in
    let leaf = c.in-Some-next_element.leaf in
    let keys = c.push_reserved.new.self.items in
    let given =
    enters c.args.bucket _ _ _ (opens old c.open.new.self c.args.bucket c.in-Some.cursor c.next_element.new.self c.in_ok-open.ensures.cursors c.in-Some.is
    c.in-Some-next_element.ensures.checked c.in-Some-next_element.ensures.start next_move (Some (leaf_view leaf))
    (waiting_of c.open.new.self ++ cursor_view c.next_element.new.self ∷ []) c.in-Some-next_element.ensures.moves refl) in
    let known =
    made old.checked (cursors_of old) (path_of old.path.items) c.args.bucket (fresh_view c.args.bucket) c.requires.placed c.requires.named refl refl in
    let path = path_put old.path.items c.open.new.self.path.items keys leaf.key c.open.ensures.path c.push_reserved.ensures.items in
    let after = waiting_of c.open.new.self ++ cursor_view c.next_element.new.self ∷ [] in
    let fresh = fresh_view c.args.bucket in
    record {
      checked = c.in_ok-open.ensures.checked;
      placed = placed_in old.checked c.open.new.self.checked after after (path_of keys) (path_of keys) c.in_ok-open.ensures.checked refl refl
          (opens_by by_first old.checked (cursors_of old) (path_of old.path.items) fresh given.moved known (leaf_view leaf) after (path_of keys) given.file
          given.start given.moves given.is path);
      on = (
        c.in-Some-next_element.ensures.bucket,
        leads_in old.checked c.open.new.self.checked (path_of keys) (leaf_view leaf) c.in_ok-open.ensures.checked
            (leads_by by_first old.checked (cursors_of old) (path_of old.path.items) fresh given.moved known (leaf_view leaf) (path_of keys) given.moves path),
      );
      none = tt;
      same = tt;
      left = first_gives old.checked (cursors_of old) (path_of old.path.items) fresh given.moved known (leaf_view leaf) (path_of keys) given.moves path;
    }
