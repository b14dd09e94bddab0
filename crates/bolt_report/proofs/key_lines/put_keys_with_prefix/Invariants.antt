use Rattle.std.proofs.Common.{◌≡◌, ◌+◌, ℕ, drop, length}
use Rattle.std.specs.Option.{option_map}
use Rattle.bolt_report.proofs.Words.{cursor_bucket, cursor_checked, cursor_opened, cursor_place, cursor_start, entries_left, ForEntries, keys_text}
use Rattle.bolt_report.proofs.Words.{shown_entry, with_prefix, WroteFront}
use Rattle.bolt_report.proofs.PrefixSteps.{Stage, cursor_entries, number_of}
use Rattle.bolt_report.proofs.key_lines.put_keys_with_prefix.Given as goal

-- of the text of the entries that begin so, the text of those from the one on where the cursor stands is still to be written
abbrev pub invariant-rest : goal.invariant-rest
invariant-rest g l = record {
  checked : cursor_checked l.cursor ≡ cursor_checked l.fn.cursor;
  start : cursor_start l.cursor ≡ cursor_start l.fn.cursor;
  form : l.items.form ≡ l.fn.form;
  put : ForEntries (cursor_checked l.fn.cursor) (cursor_start l.fn.cursor) (λ entries. (n : ℕ) × (done : ℕ)
      × Stage (cursor_bucket l.fn.cursor) (cursor_opened l.fn.cursor) l.prefix entries (cursor_opened l.cursor) (cursor_place l.cursor)
      (option_map shown_entry l.found) n done
      × WroteFront g.S.Sink l.fn.sink l.sink (keys_text l.fn.form (with_prefix l.prefix entries))
      (keys_text l.fn.form (with_prefix l.prefix (drop n entries))));
}

abbrev pub decreases-rest : goal.decreases-rest
decreases-rest g l = length (entries_left (cursor_entries l.fn.cursor).0 (cursor_place l.cursor)) + number_of (option_map shown_entry l.found)
