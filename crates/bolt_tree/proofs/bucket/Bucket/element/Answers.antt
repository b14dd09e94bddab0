use Rattle.std.proofs.Common.{◌∙◌, sym, ap}
use Rattle.bolt_tree.proofs.{Words.bucket_checked, Words.bucket_start, Words.is_lt, Words.leaf_view, Words.start_at, Looking.look_found}
use Rattle.bolt_tree.proofs.{Looking.look_greater, Looking.look_none, Looking.own_entries}
use Rattle.bolt_tree.proofs.bucket.Bucket.element.Goals as goal

pub returns-in_err-leaf-clause-element : goal.returns-in_err-leaf-clause-element
unfolding bucket_checked bucket_start
returns-in_err-leaf-clause-element c =
    rw c.from_residual.ensures
    (look_none c.args.self.now.checked (start_at c.args.self.now.at) c.cursor-cursor.result c.seek_element.new.self c.args.key.now
    (own_entries c.args.self.now.checked (start_at c.args.self.now.at) c.args.self.now.begins) c.cursor-cursor.ensures.checked c.cursor-cursor.ensures.start
    c.in_err-leaf.ensures.moves)

pub returns-then-is_lt-clause-element : goal.returns-then-is_lt-clause-element
unfolding bucket_checked bucket_start
returns-then-is_lt-clause-element c =
    look_greater c.args.self.now.checked (start_at c.args.self.now.at) c.cursor-cursor.result c.seek_element.new.self c.args.key.now
    (own_entries c.args.self.now.checked (start_at c.args.self.now.at) c.args.self.now.begins) c.cursor-cursor.ensures.checked c.cursor-cursor.ensures.start
    (leaf_view c.in_ok-leaf.leaf) c.in_ok-leaf.ensures.moves (ap is_lt (sym c.cmp.ensures) ∙ (sym c.is_lt.ensures ∙ c.if-is_lt.true))

pub returns-clause-element : goal.returns-clause-element
unfolding bucket_checked bucket_start
returns-clause-element c =
    look_found c.args.self.now.checked (start_at c.args.self.now.at) c.cursor-cursor.result c.seek_element.new.self c.args.key.now
    (own_entries c.args.self.now.checked (start_at c.args.self.now.at) c.args.self.now.begins) c.cursor-cursor.ensures.checked c.cursor-cursor.ensures.start
    (leaf_view c.in_ok-leaf.leaf) c.in_ok-leaf.ensures.moves (ap is_lt (sym c.cmp.ensures) ∙ (sym c.is_lt.ensures ∙ c.if-is_lt.false))
