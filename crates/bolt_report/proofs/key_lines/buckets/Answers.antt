use Rattle.std.proofs.Common.{◌∙◌, [], ap, flat_map, sym, ◌≡◌, ◌++◌, ◌∷◌, List, ℕ, refl, inl, inr}
use Rattle.bolt_report.proofs.Words.{bucket_name, cases_Bool, cursor_place, entries_left, fewer_left, Form, front_more, front_whole, LeafElement}
use Rattle.bolt_report.proofs.Words.{next_shows, Place, value_text, Wrote-none, Wrote-same}
use Rattle.bolt_text.proofs.Exports.{front_fault, short_front, short_same}
use Rattle.bolt_report.specs.KeyLines.{buckets_text}
use Rattle.bolt_report.proofs.key_lines.buckets.Goals as goal

-- the lines of the buckets alone
bucket_lines : (form : Form) (entries : List LeafElement) → flat_map (bucket_name form) entries ≡ buckets_text form entries
bucket_lines form [] = refl
bucket_lines form (e ∷ entries) =
    elim (cases_Bool e.is_bucket) [
      | inl is ↦ rw is (ap (λ (text : List ℕ). value_text form e.key ++ text) (bucket_lines form entries))
      | inr is ↦ rw is (bucket_lines form entries)
    ]

pub rest-init : goal.rest-init
rest-init g c = record {
  checked = c.cursor-cursor.ensures.checked;
  start = c.cursor-cursor.ensures.start;
  form = c.new-items.ensures;
  put = λ entries are. record {
    front = [];
    parts = ap (λ (place : Place). flat_map (bucket_name c.args.form) (entries_left entries place)) (sym c.cursor-cursor.ensures.place);
    wrote = Wrote-none c.args.sink.now;
  };
}

pub rest-smaller : goal.rest-smaller
rest-smaller g c = fewer_left c.args.bucket.now _ _ _ _ _ c.rest.invariant.checked c.rest.invariant.start c.in-Some.ensures.moves

pub rest-preserved : goal.rest-preserved
rest-preserved g c = record {
  checked = c.in-Some.ensures.checked ∙ c.rest.invariant.checked;
  start = c.in-Some.ensures.start ∙ c.rest.invariant.start;
  form = c.put_bucket.ensures.form ∙ c.rest.invariant.form;
  put = λ entries are.
      let (e, shown, first) = next_shows _ _ _ _ _ _ _ c.rest.invariant.checked c.rest.invariant.start c.in-Some.ensures.moves entries are in
      front_more (c.rest.invariant.put entries are)
      (Wrote-same (ap (λ (form : Form). bucket_name form e) c.rest.invariant.form) (c.in_ok-put_bucket.ensures.written e shown))
      (ap (flat_map (bucket_name c.args.form)) first);
}

pub returns-in_err-put_bucket-clause-written : goal.returns-in_err-put_bucket-clause-written
returns-in_err-put_bucket-clause-written g c = λ entries are.
    let (e, shown, first) = next_shows _ _ _ _ _ _ _ c.rest.invariant.checked c.rest.invariant.start c.in-Some.ensures.moves entries are in
    Wrote-same (bucket_lines c.args.form entries)
    (front_fault (flat_map (bucket_name c.args.form) (entries_left entries (cursor_place c.next.new.self))) _ _ (c.rest.invariant.put entries are)
    (Wrote-same (ap (λ (form : Form). bucket_name form e) c.rest.invariant.form) (c.in_err-put_bucket.ensures.written e shown))
    (ap (flat_map (bucket_name c.args.form)) first) c.from_residual.ensures.1)

pub returns-in_err-put_bucket-clause-short : goal.returns-in_err-put_bucket-clause-short
returns-in_err-put_bucket-clause-short g c = λ entries are.
    let (e, shown, first) = next_shows _ _ _ _ _ _ _ c.rest.invariant.checked c.rest.invariant.start c.in-Some.ensures.moves entries are in
    short_same (bucket_lines c.args.form entries)
    (short_front (flat_map (bucket_name c.args.form) (entries_left entries (cursor_place c.next.new.self))) _ _ (c.rest.invariant.put entries are)
    (short_same (ap (λ (form : Form). bucket_name form e) c.rest.invariant.form) (c.in_err-put_bucket.ensures.short e shown))
    (ap (flat_map (bucket_name c.args.form)) first) c.from_residual.ensures.1)

pub returns-clause-written : goal.returns-clause-written
returns-clause-written g c = λ entries are.
    let none = next_shows _ _ _ _ _ _ _ c.rest.invariant.checked c.rest.invariant.start c.in_default.ensures.moves entries are in
    Wrote-same (bucket_lines c.args.form entries) (front_whole (c.rest.invariant.put entries are) (ap (flat_map (bucket_name c.args.form)) none))
