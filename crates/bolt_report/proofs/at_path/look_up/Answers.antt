use Rattle.std.proofs.Common.{rules, ◌≡◌, ◌∙◌, ◌∷◌, ◌||◌, Bool, ap, sym}
use Rattle.std.proofs.{lemmas.List.length-map, Math.Bool.or-false}
use Rattle.std.proofs.lemmas.Option.{IfSome_then}
use Rattle.bolt_lemmas.proofs.Exports.{contains_none, if_none, none_later, some_later}
use Rattle.bolt_report.proofs.Words.{Member, Value, is_bucket_at, list_any, path_of}
use Rattle.bolt_report.proofs.LookUps.{bucket_next, first_there, later_there, not_first}
use Rattle.bolt_tree.specs.ShownEntries.{item_view}
use Rattle.bolt_report.proofs.at_path.look_up.Goals as goal

pub members-init : goal.members-init
members-init g c = search (rules, length-map, list_any)

pub members-preserved : goal.members-preserved
members-preserved g c =
    let path = path_of c.args.path.now in
    let parents = path_of c.path_above-parents.result.now in
    let m : Member = (g.M.Members.last_path c.next.new.self, item_view c.in-Some.item) in
    let now = c.members.has_bucket || c.is_bucket_at-has_bucket.result in
    let is : now ≡ (c.members.has_bucket || is_bucket_at parents m) =
    ap (λ (b : Bool). c.members.has_bucket || b) (rw c.path.ensures at c.is_bucket_at-has_bucket.ensures) in
    let first : (whole : g.M.Members.Whole) → g.M.Members.reads c.args.members.now whole
    → g.M.Members.left c.members.members whole ≡ m ∷ g.M.Members.left c.next.new.self whole =
    λ whole lists. (rw c.in-Some.is at c.in_ok-item.ensures.given) whole ((c.members.invariant.same whole).1 lists) in
    record {
      same =
          λ whole. (
            λ lists. (c.members.invariant.same whole).0 ((c.next.ensures.reads whole).0 lists),
            λ lists. (c.next.ensures.reads whole).1 ((c.members.invariant.same whole).1 lists),
          );
      end = λ end is. c.members.invariant.end end (c.next.ensures.same_end end is);
      kept = λ whole lists x has. c.members.invariant.kept whole lists x (later_there _ _ m (first whole lists) x has);
      value =
          some_later c.value_at.result c.members.value c.or-value.result c.or-value.ensures (rw c.path-in-Some.ensures at c.value_at.ensures.some)
          c.members.invariant.value
          (λ value here whole lists. c.members.invariant.kept whole lists _ (rw here at (first_there _ _ m (first whole lists))));
      none =
          none_later c.value_at.result c.members.value c.or-value.result c.or-value.ensures (rw c.path-in-Some.ensures at c.value_at.ensures.none)
          c.members.invariant.none
          (λ apart left whole lists value has. not_first _ _ m (first whole lists) (path, Value value) (apart value) (left whole lists value has));
      bucket = λ whole lists. rw (first whole lists) at (c.members.invariant.bucket whole lists) ∙ bucket_next parents c.members.has_bucket now m _ is;
    }

pub returns-clause-held : goal.returns-clause-held
returns-clause-held g c = λ whole lists.
    let none = (rw c.in_default.is at c.in_ok-item.ensures.given) whole ((c.members.invariant.same whole).1 lists) in
    let bucket = rw none.0 at (c.members.invariant.bucket whole lists) in
    record {
      value = IfSome_then c.members.value c.members.invariant.value (λ value held. held whole lists);
      none = if_none c.members.value (λ left value has. contains_none _ (rw none.0 at (left whole lists value has))) c.members.invariant.none;
      bucket = sym (rw c.path_above-parents.ensures at bucket ∙ or-false c.members.has_bucket);
    }
