-- Each entry that begins with the prefix has its line written, and the first that doesn't ends the text.
use Rattle.std.proofs.Common.{rules, ◌∙◌, [], Option, None, suc, ap, sym, arith}
use Rattle.bolt_report.proofs.Words.{cursor_bucket, cursor_opened, cursor_place, EntryView, Form, front_more, front_whole, keys_text, props}
use Rattle.bolt_report.proofs.Words.{shown_entry, value_text, Wrote-none, Wrote-same, ∥∥₁_elim}
use Rattle.bolt_report.proofs.PrefixLemmas.{from_least}
use Rattle.bolt_report.proofs.PrefixSteps.{all_opened, cursor_entries, fault_handed_on, fewer_shown, moved, next_first, none_shown, number_of}
use Rattle.bolt_report.proofs.PrefixSteps.{other_shown, sought, stage_next, stage_sought}
use Rattle.bolt_text.proofs.Exports.{front_fault, short_front, short_same}
use Rattle.std.specs.Option.{option_map}
use Rattle.bolt_tree.specs.declared.entry.Entry.{Entry}
use Rattle.bolt_report.proofs.key_lines.put_keys_with_prefix.Goals as goal
use Rattle.bolt_tree.proofs.Exports.{nothing_shown}

pub rest-init : goal.rest-init
rest-init g c = record {
  checked = c.seek-found.ensures.checked;
  start = c.seek-found.ensures.start;
  form = c.new-items.ensures;
  put = λ entries are.
      let prefix = c.args.prefix.now in
      let place = cursor_place c.seek-found.new.self in
      let x = option_map shown_entry c.seek-found.result in
      let stands = sought prefix entries place x (c.seek-found.ensures.moves entries are) in (
        _,
        0,
        stage_sought (cursor_bucket c.args.cursor.now) (cursor_opened c.args.cursor.now) prefix entries (cursor_opened c.seek-found.new.self) place x are
            stands c.seek-found.ensures.opens,
        record { front = []; parts = ap (keys_text c.args.form) (from_least prefix entries); wrote = Wrote-none c.args.sink.now },
      );
}

pub returns-then-not-starts_with-clause-written : goal.returns-then-not-starts_with-clause-written
returns-then-not-starts_with-clause-written g c = λ entries are.
    let (n, done, shows, before) = c.rest.invariant.put entries are in
    let none =
    other_shown _ _ _ _ _ _ n done (shown_entry c.in-Some.entry) (rw c.in-Some.is at shows) (sym c.starts_with.ensures.value ∙ c.if-not-starts_with.true) in
    front_whole before (ap (keys_text c.args.form) none)

pub returns-then-not-starts_with-clause-opens : goal.returns-then-not-starts_with-clause-opens
returns-then-not-starts_with-clause-opens g c = λ entries seek gap are is gaps.
    let (n, done, shows, before) = c.rest.invariant.put entries are in
    let stage = rw c.in-Some.is at shows in
    all_opened _ _ _ _ _ _ n done _ stage
    (other_shown _ _ _ _ _ _ n done (shown_entry c.in-Some.entry) stage (sym c.starts_with.ensures.value ∙ c.if-not-starts_with.true)) seek gap is gaps

pub returns-in_err-put_line-clause-written : goal.returns-in_err-put_line-clause-written
returns-in_err-put_line-clause-written g c = λ entries are.
    let (n, done, shows, before) = c.rest.invariant.put entries are in
    let stage = rw c.in-Some.is at shows in
    let (e, shown, _, _) = stage.stands in
    let next = next_first _ _ _ _ _ _ n done (shown_entry c.in-Some.entry) stage (sym c.starts_with.ensures.value ∙ c.if-not-starts_with.false) in
    let line =
    Wrote-same (ap (λ (form : Form). value_text form c.in-Some.entry.key.now) c.rest.invariant.form
    ∙ ap (λ (w : EntryView). value_text c.args.form w.key) shown) c.in_err-put_line.ensures.written in
    front_fault _ _ _ before line (ap (keys_text c.args.form) next) c.from_residual.ensures.1

pub returns-in_err-put_line-clause-short : goal.returns-in_err-put_line-clause-short
returns-in_err-put_line-clause-short g c = λ entries are.
    let (n, done, shows, before) = c.rest.invariant.put entries are in
    let stage = rw c.in-Some.is at shows in
    let (e, shown, _, _) = stage.stands in
    let next = next_first _ _ _ _ _ _ n done (shown_entry c.in-Some.entry) stage (sym c.starts_with.ensures.value ∙ c.if-not-starts_with.false) in
    let line =
    short_same (ap (λ (form : Form). value_text form c.in-Some.entry.key.now) c.rest.invariant.form
    ∙ ap (λ (w : EntryView). value_text c.args.form w.key) shown) c.in_err-put_line.ensures.short in
    short_front _ _ _ before line (ap (keys_text c.args.form) next) c.from_residual.ensures.1

pub returns-in_err-put_line-clause-fault : goal.returns-in_err-put_line-clause-fault
returns-in_err-put_line-clause-fault g c = fault_handed_on _ _ _ _ c.rest.invariant.form c.from_residual.ensures.1 c.in_err-put_line.ensures.fault

pub rest-smaller : goal.rest-smaller
rest-smaller g c =
    let place = cursor_place c.rest.cursor in
    let place2 = cursor_place c.next-found.new.self in
    let x2 = option_map shown_entry c.next-found.result in
    let moves = rw (c.rest.invariant.checked, c.rest.invariant.start) at c.next-found.ensures.moves in
    let entries = (cursor_entries c.args.cursor.now).0 in
    ∥∥₁_elim (cursor_entries c.args.cursor.now).1 (hlevel props) (λ are.
    let (n, done, shows, before) = c.rest.invariant.put entries are in
    let stage = rw c.in-Some.is at shows in
    let (e, shown, on, rest) = stage.stands in
    let less =
    fewer_shown entries n place place2 x2 on (moved entries n place place2 x2 on (moves entries are))
    (λ none. c.next-found.ensures.none (nothing_shown c.next-found.result none)) in
    let one = ap (λ (o : Option Entry). number_of (option_map shown_entry o)) c.in-Some.is in
    omega (arith, less, one))

pub rest-preserved : goal.rest-preserved
rest-preserved g c =
    let v = shown_entry c.in-Some.entry in
    let moves = rw (c.rest.invariant.checked, c.rest.invariant.start) at c.next-found.ensures.moves in
    let opens = rw (c.rest.invariant.checked, c.rest.invariant.start) at c.next-found.ensures.opens in
    let starts = sym c.starts_with.ensures.value ∙ c.if-not-starts_with.false in
    record {
      checked = c.next-found.ensures.checked ∙ c.rest.invariant.checked;
      start = c.next-found.ensures.start ∙ c.rest.invariant.start;
      form = c.put_line.ensures.form ∙ c.rest.invariant.form;
      put = λ entries are.
          let (n, done, shows, before) = c.rest.invariant.put entries are in
          let stage = rw c.in-Some.is at shows in
          let (e, shown, _, _) = stage.stands in
          let line =
          Wrote-same (ap (λ (form : Form). value_text form c.in-Some.entry.key.now) c.rest.invariant.form
          ∙ ap (λ (w : EntryView). value_text c.args.form w.key) shown) c.in_ok-put_line.ensures.written in (
            suc n,
            suc done,
            stage_next _ _ _ _ _ _ n done v stage starts (cursor_opened c.next-found.new.self) (cursor_place c.next-found.new.self)
                (option_map shown_entry c.next-found.result) are (moves entries are) opens,
            front_more before line (ap (keys_text c.args.form) (next_first _ _ _ _ _ _ n done v stage starts)),
          );
    }

pub returns-clause-written : goal.returns-clause-written
returns-clause-written g c = search (rules, front_whole, none_shown)

pub returns-clause-opens : goal.returns-clause-opens
returns-clause-opens g c = λ entries seek gap are is gaps.
    let (n, done, shows, before) = c.rest.invariant.put entries are in
    let stage = rw c.in_default.is at shows in
    all_opened _ _ _ _ _ _ n done None stage (none_shown _ _ _ _ _ _ n done stage) seek gap is gaps
