use Rattle.std.proofs.Common.{sym, ◌∙◌}
use Rattle.std.specs.Option.{option_map}
use Rattle.bolt_tree.specs.{Cursors.cursor_place, ShownEntries.shown_entry}
use Rattle.bolt_etcd.proofs.Passing.{next_shows, seek_shows}
use Rattle.bolt_etcd.specs.Store.RevisionsLeft.{pass_viewers}
use Rattle.bolt_etcd.proofs.store.revisions.Revisions.advance.Goals as goal
use Rattle.bolt_tree.proofs.Exports.{nothing_shown}

pub returns-in-Some-clause-first : goal.returns-in-Some-clause-first
unfolding pass_viewers
returns-in-Some-clause-first c = λ entries are.
    let from = sym c.take.ensures.value ∙ c.in-Some.is in
    rw (from, c.take.ensures.after)
    (seek_shows c.in-Some.key entries (cursor_place c.seek.new.self) (option_map shown_entry c.seek.result) (c.seek.ensures.moves entries are)
    (λ none. c.seek.ensures.none (nothing_shown c.seek.result none)))

pub returns-in-None-clause-first : goal.returns-in-None-clause-first
unfolding pass_viewers
returns-in-None-clause-first c = λ entries are.
    let from = sym c.take.ensures.value ∙ c.in-None.is in
    rw (from, c.take.ensures.after)
    (next_shows entries (cursor_place c.args.self.now.cursor) (cursor_place c.next.new.self) (option_map shown_entry c.next.result)
    (c.next.ensures.moves entries are)
    (λ none. c.next.ensures.none (nothing_shown c.next.result none)))
