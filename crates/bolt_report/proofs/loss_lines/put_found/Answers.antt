-- The pieces are those of the line.
use Rattle.std.proofs.Common.{◌≡◌, ◌∙◌, ◌-◌, List, [], ℕ, Option, Some, ap, arith, length, option_map, slice_get, sym, unwrap_or}
use Rattle.bolt_lemmas.proofs.Exports.{length_some}
use Rattle.bolt_report.proofs.{Words.bucket_count, Words.found_line, Words.leaf_view, Words.LeafElement}
use Rattle.bolt_format.specs.TreePages.{leaves_on}
use Rattle.bolt_report.specs.FoundLines.{key_at}
use Rattle.bolt_report.proofs.loss_lines.put_found.Goals as goal

-- the key of an element by its place
key_of : (elements : List LeafElement) (i : ℕ) (e : LeafElement) → slice_get elements i ≡ Some e → e.key ≡ key_at elements i
key_of elements i e found = sym (ap (λ (o : Option LeafElement). unwrap_or (option_map (λ (x : LeafElement). x.key) o) []) found)

pub overflow_sub-count : goal.overflow_sub-count
overflow_sub-count g c = let some = length_some (leaves_on c.args.found.now.page) c.requires.some in omega (arith, some, c.count-count.ensures)

pub returns : goal.returns
unfolding found_line
returns g c =
    let elements = leaves_on c.args.found.now.page in
    let first = key_of elements 0 (leaf_view c.element.result) c.element.ensures.element in
    let entries : c.from.result ≡ length elements = c.from.ensures ∙ c.count-count.ensures in
    let buckets : c.from-2.result ≡ bucket_count elements = c.from-2.ensures ∙ c.count_buckets.ensures in
    let last = key_of elements (length elements - 1) (leaf_view c.element-2.result) (rw c.count-count.ensures at c.element-2.ensures.element) in
    rw (entries, buckets, first, last) at c.put_pieces.ensures
