use Rattle.std.proofs.Common.{◌≡◌, ◌∙◌, ◌<◌, ℕ, List, Some, ap, get_or, length, map, option_map, slice_get}
use Rattle.std.proofs.lemmas.Option.{slice_get-get_or, slice_get-map}
use Rattle.bolt_etcd.specs.{Wire.UnreadEntries.shown_unread, declared.wire.unread_entry.UnreadEntry.UnreadEntry}
use Rattle.bolt_report.specs.UnreadLines.{unread_line}
use Rattle.bolt_report.proofs.Words.{Wrote-element, Wrote-element_return}
use Rattle.bolt_report.proofs.unread_lines.put_unread.Goals as goal

view_at : (entries : List UnreadEntry) (i : ℕ) (d : UnreadEntry) → i < length entries
    → slice_get (map shown_unread entries) i ≡ Some (shown_unread (get_or entries i d))
view_at entries i d within = slice_get-map shown_unread entries i ∙ ap (option_map shown_unread) (slice_get-get_or entries i d within)

pub returns-in_err-put_unread_entry : goal.returns-in_err-put_unread_entry
returns-in_err-put_unread_entry g c =
    Wrote-element_return unread_line (map shown_unread c.args.entries.now) c.loop-entry.entry-index _ _
    (view_at c.args.entries.now c.loop-entry.entry-index _ c.loop-entry-test.true) c.loop-entry.invariant
    c.in_err-put_unread_entry.ensures c.from_residual.ensures.0

pub loop-entry-preserved : goal.loop-entry-preserved
loop-entry-preserved g c =
    Wrote-element unread_line (map shown_unread c.args.entries.now) c.loop-entry.entry-index _
    (view_at c.args.entries.now c.loop-entry.entry-index _ c.loop-entry-test.true) c.loop-entry.invariant
    c.in_ok-put_unread_entry.ensures
