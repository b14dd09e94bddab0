use Rattle.std.proofs.Common.{◌∙◌, ap, map}
use Rattle.std.specs.Option.{option_map}
use Rattle.bolt_etcd.specs.{Check.CheckLines.unread_entry_line, Wire.UnreadEntries.GivesUnread, Store.RevisionsLeft.ahead_of, Wire.UnreadEntries.shown_unread}
use Rattle.bolt_etcd.proofs.{ListedTexts.listed_fault, ListedTexts.listed_one, RevisionSteps.moved_to}
use Rattle.bolt_etcd.proofs.check.check_texts.put_all_unread.Goals as goal

pub rest-preserved : goal.rest-preserved
rest-preserved g c =
    let given =
    moved_to _ _ _ _ (λ entries.
    GivesUnread (ahead_of c.rest.pass entries) (ahead_of c.next_unread.new.self entries) (option_map shown_unread c.next_unread.result))
    c.rest.invariant.checked c.rest.invariant.start c.next_unread.ensures.given in
    record {
      checked = c.next_unread.ensures.checked ∙ c.rest.invariant.checked;
      start = c.next_unread.ensures.start ∙ c.rest.invariant.start;
      listed = λ entries are.
          listed_one (c.rest.invariant.listed entries are) _ _ _ (ap (map unread_entry_line) (rw c.in-Some.is at (given entries are))) c.in_ok-put_unread_entry.ensures
          c.saturating_add-number.ensures;
    }

pub returns-in_err-put_unread_entry-clause-written : goal.returns-in_err-put_unread_entry-clause-written
returns-in_err-put_unread_entry-clause-written g c = λ entries are.
    let given =
    moved_to _ _ _ _ (λ entries.
    GivesUnread (ahead_of c.rest.pass entries) (ahead_of c.next_unread.new.self entries) (option_map shown_unread c.next_unread.result))
    c.rest.invariant.checked c.rest.invariant.start c.next_unread.ensures.given in
    listed_fault (c.rest.invariant.listed entries are) _ _ _ (ap (map unread_entry_line) (rw c.in-Some.is at (given entries are))) c.in_err-put_unread_entry.ensures
    c.from_residual.ensures.0
