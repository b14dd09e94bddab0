use Rattle.std.proofs.Common.{rules, ◌∙◌, ap, sym}
use Rattle.bolt_report.proofs.Words.{bucket_checked, EntryView, fewer_left, Form, front_more, front_none, front_whole, next_shows, next_stands}
use Rattle.bolt_report.proofs.Words.{sizes_text, Wrote-none, Wrote-same}
use Rattle.bolt_text.proofs.Exports.{front_fault, short_front, short_same}
use Rattle.bolt_report.proofs.SizeLemmas.{bucket_line, cut, cut_text, no_line, value_line}
use Rattle.bolt_tree.proofs.Exports.{stands_on}
use Rattle.bolt_report.proofs.size_lines.put_sizes.Goals as goal

pub rest-init : goal.rest-init
rest-init g c = search (rules, front_none)

pub rest-smaller : goal.rest-smaller
rest-smaller g c = fewer_left c.args.bucket.now _ _ _ _ _ c.rest.invariant.checked c.rest.invariant.start c.in-Some.ensures.moves

pub rest-smaller-in-Continue-1 : goal.rest-smaller-in-Continue-1
rest-smaller-in-Continue-1 g c = fewer_left c.args.bucket.now _ _ _ _ _ c.rest.invariant.checked c.rest.invariant.start c.in-Some.ensures.moves

-- a value has no line
pub rest-preserved : goal.rest-preserved
rest-preserved g c = record {
  checked = c.in-Some.ensures.checked ∙ c.rest.invariant.checked;
  start = c.in-Some.ensures.start ∙ c.rest.invariant.start;
  form = c.rest.invariant.form;
  put = λ entries are sized stats.
      let (e, shown, first, at) = next_stands _ _ _ _ _ _ _ c.rest.invariant.checked c.rest.invariant.start c.in-Some.ensures.moves entries are in
      let (left, left_are, before) = c.rest.invariant.put entries are sized stats in
      let plain =
      stands_on _ _ _ _ _ (c.in-Some.ensures.start ∙ c.rest.invariant.start) (rw c.in_default-bucket_at.is at c.bucket_at.ensures.bucket) entries are e at in
      let k = cut _ _ e _ left (rw first at left_are) in
      let none = Wrote-same (sym (value_line _ _ c.args.form e k.own plain k.first)) (Wrote-none c.rest.sink) in
      (k.rest, k.later, front_more before none (cut_text c.args.form left k.own k.rest k.whole));
}

pub rest-preserved-in-Continue-1 : goal.rest-preserved-in-Continue-1
rest-preserved-in-Continue-1 g c = record {
  checked = c.in-Some.ensures.checked ∙ c.rest.invariant.checked;
  start = c.in-Some.ensures.start ∙ c.rest.invariant.start;
  form = c.put_bucket_size.ensures.form ∙ c.rest.invariant.form;
  put = λ entries are sized stats.
      let (e, shown, first, at) = next_stands _ _ _ _ _ _ _ c.rest.invariant.checked c.rest.invariant.start c.in-Some.ensures.moves entries are in
      let (left, left_are, before) = c.rest.invariant.put entries are sized stats in
      let is = stands_on _ _ _ _ _ (c.in-Some.ensures.start ∙ c.rest.invariant.start) c.in-Some-bucket_at.ensures.bucket entries are e at in
      let k = cut _ _ e _ left (rw first at left_are) in
      let (own, own_are, text) =
      bucket_line c.in-Some-bucket_at.inner (bucket_checked c.args.bucket.now) c.rest.items.form c.in-Some.entry.key.now e k.own
      c.in-Some-bucket_at.ensures.checked is
      (ap (λ (v : EntryView). v.key) shown) k.first in
      let one = Wrote-same (text ∙ ap (λ (form : Form). sizes_text form k.own) c.rest.invariant.form) (c.in_ok-put_bucket_size.ensures.written own own_are) in
      (k.rest, k.later, front_more before one (cut_text c.args.form left k.own k.rest k.whole));
}

pub returns-in_err-put_bucket_size-clause-written : goal.returns-in_err-put_bucket_size-clause-written
returns-in_err-put_bucket_size-clause-written g c = λ entries are sized stats.
    let (e, shown, first, at) = next_stands _ _ _ _ _ _ _ c.rest.invariant.checked c.rest.invariant.start c.in-Some.ensures.moves entries are in
    let (left, left_are, before) = c.rest.invariant.put entries are sized stats in
    let is = stands_on _ _ _ _ _ (c.in-Some.ensures.start ∙ c.rest.invariant.start) c.in-Some-bucket_at.ensures.bucket entries are e at in
    let k = cut _ _ e _ left (rw first at left_are) in
    let (own, own_are, text) =
    bucket_line c.in-Some-bucket_at.inner (bucket_checked c.args.bucket.now) c.rest.items.form c.in-Some.entry.key.now e k.own
    c.in-Some-bucket_at.ensures.checked is
    (ap (λ (v : EntryView). v.key) shown) k.first in
    let one = Wrote-same (text ∙ ap (λ (form : Form). sizes_text form k.own) c.rest.invariant.form) (c.in_err-put_bucket_size.ensures.written own own_are) in
    front_fault (sizes_text c.args.form k.rest) _ _ before one (cut_text c.args.form left k.own k.rest k.whole) c.from_residual.ensures.1

pub returns-in_err-put_bucket_size-clause-short : goal.returns-in_err-put_bucket_size-clause-short
returns-in_err-put_bucket_size-clause-short g c = λ entries are sized stats.
    let (e, shown, first, at) = next_stands _ _ _ _ _ _ _ c.rest.invariant.checked c.rest.invariant.start c.in-Some.ensures.moves entries are in
    let (left, left_are, before) = c.rest.invariant.put entries are sized stats in
    let is = stands_on _ _ _ _ _ (c.in-Some.ensures.start ∙ c.rest.invariant.start) c.in-Some-bucket_at.ensures.bucket entries are e at in
    let k = cut _ _ e _ left (rw first at left_are) in
    let (own, own_are, text) =
    bucket_line c.in-Some-bucket_at.inner (bucket_checked c.args.bucket.now) c.rest.items.form c.in-Some.entry.key.now e k.own
    c.in-Some-bucket_at.ensures.checked is
    (ap (λ (v : EntryView). v.key) shown) k.first in
    let one = short_same (text ∙ ap (λ (form : Form). sizes_text form k.own) c.rest.invariant.form) (c.in_err-put_bucket_size.ensures.short own own_are) in
    short_front (sizes_text c.args.form k.rest) _ _ before one (cut_text c.args.form left k.own k.rest k.whole) c.from_residual.ensures.1

pub returns-clause-written : goal.returns-clause-written
returns-clause-written g c = λ entries are sized stats.
    let none = next_shows _ _ _ _ _ _ _ c.rest.invariant.checked c.rest.invariant.start c.in_default.ensures.moves entries are in
    let (left, left_are, before) = c.rest.invariant.put entries are sized stats in
    front_whole before (no_line _ _ c.args.form _ left none left_are)
