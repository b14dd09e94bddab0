-- The bucket comes before all that lies in it, so nothing is missed before it is found.
use Rattle.std.proofs.Common.{rules, ◌≡◌, ◌∙◌, ◌∷◌, ◌||◌, [], Bool, Bor, List, ap, length, sym, ℕ, ◌==◌}
use Rattle.bolt_lemmas.proofs.Exports.{iff_then}
use Rattle.bolt_report.proofs.Words.{Form, front_more, is_bucket_at, item_view, length-map, list_any, Member, path_of, Wrote-none, Wrote-same}
use Rattle.bolt_report.proofs.{ListPartTexts.has_next, NameTexts.before_names, NameTexts.left_names, NameTexts.with_name}
use Rattle.bolt_report.specs.MemberNames.{is_wanted, member_name}
use Rattle.bolt_text.proofs.Exports.{front_fault}
use Rattle.bolt_format.proofs.Exports.{front_same}
use Rattle.bolt_report.proofs.name_lines.put_member_names.Goals as goal

pub members-init : goal.members-init
members-init g c =
    let bucket = path_of c.args.asked.bucket.now in
    let root : (length bucket == 0) ≡ c.is_empty-found.result =
    ap (λ (n : ℕ). n == 0) (length-map c.args.asked.bucket.now (λ (part : Bor (List ℕ)). part.now)) ∙ sym c.is_empty-found.ensures in
    record {
      form = c.new-items.ensures;
      same = λ whole. (λ is. is, λ is. is);
      end = λ end is. is;
      has = λ whole is. ap (λ (b : Bool). b || list_any (is_bucket_at bucket) (g.M.Members.left c.args.members.now whole)) root;
      rises = λ whole is up. up;
      put = λ whole is up. record {
        front = [];
        parts = ap (λ (b : Bool). left_names c.args.form (is_wanted c.args.asked.names) bucket b (g.M.Members.left c.args.members.now whole)) root;
        wrote = Wrote-none c.args.sink.now;
      };
    }

pub members-preserved-in-Continue-branch-3 : goal.members-preserved-in-Continue-branch-3
members-preserved-in-Continue-branch-3 g c = search (rules, iff_then, has_next, front_more, with_name)

pub members-preserved : goal.members-preserved
members-preserved g c =
    let bucket = path_of c.args.asked.bucket.now in
    let wanted = is_wanted c.args.asked.names in
    let m : Member = (g.M.Members.last_path c.next.new.self, item_view c.in-Some.item) in
    let now = c.members.found || c.is_bucket_at-found.result in
    let is : now ≡ (c.members.found || is_bucket_at bucket m) = ap (λ (b : Bool). c.members.found || b) (rw c.path.ensures at c.is_bucket_at-found.ensures) in
    let first : (whole : g.M.Members.Whole) → g.M.Members.reads c.args.members.now whole
    → g.M.Members.left c.members.members whole ≡ m ∷ g.M.Members.left c.next.new.self whole =
    λ whole lists. (rw c.in-Some.is at c.in_ok-item.ensures.given) whole ((c.members.invariant.same whole).1 lists) in
    record {
      form = c.members.invariant.form;
      same = λ whole. iff_then (c.next.ensures.reads whole) (c.members.invariant.same whole);
      end = λ end is. c.members.invariant.end end (c.next.ensures.same_end end is);
      has = λ whole lists. rw (first whole lists) at (c.members.invariant.has whole lists) ∙ has_next bucket c.members.found now m _ is;
      rises = λ whole lists up. (rw (first whole lists) at (c.members.invariant.rises whole lists up)).1;
      put = λ whole lists up.
          let here = rw (first whole lists) at (c.members.invariant.rises whole lists up) in
          front_same (rw (first whole lists) at (c.members.invariant.put whole lists up))
          (before_names c.args.form wanted bucket c.members.found now m _ is c.if-found.false here);
    }

pub returns-in_err-put_name-clause-written : goal.returns-in_err-put_name-clause-written
returns-in_err-put_name-clause-written g c = λ whole lists up.
    let bucket = path_of c.args.asked.bucket.now in
    let wanted = is_wanted c.args.asked.names in
    let m : Member = (g.M.Members.last_path c.next.new.self, item_view c.in-Some.item) in
    let now = c.members.found || c.is_bucket_at-found.result in
    let is : now ≡ (c.members.found || is_bucket_at bucket m) = ap (λ (b : Bool). c.members.found || b) (rw c.path.ensures at c.is_bucket_at-found.ensures) in
    let first = (rw c.in-Some.is at c.in_ok-item.ensures.given) whole ((c.members.invariant.same whole).1 lists) in
    front_fault _ _ _ (rw first at (c.members.invariant.put whole lists up))
    (Wrote-same (ap (λ (f : Form). member_name f wanted bucket m) c.members.invariant.form) (rw c.path-then-found.ensures at c.in_err-put_name.ensures.written))
    (with_name c.args.form wanted bucket c.members.found now m _ is c.if-found.true) c.from_residual-in_err-put_name.ensures.1
