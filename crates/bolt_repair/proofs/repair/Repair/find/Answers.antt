-- What is found, looked at beside the recovered listing.
use Rattle.std.proofs.Common.{◌≡◌, ◌∙◌, ◌-◌, ◌≤◌, ◌&&◌, Bool, not, ap, false, refl, Some, subst, sym, vec_len, List, arith, map, length}
use Rattle.bolt_lemmas.proofs.Exports.{kept, kept_from, passed_on, rises_sorted}
use Rattle.bolt_lemmas.specs.Order.{Rises}
use Rattle.bolt_etcd.specs.{Wire.ShownRevisions.entry_of, declared.wire.revision.Revision.Revision}
use Rattle.bolt_tree.proofs.Exports.{key_total}
use Rattle.bolt_repair.proofs.FoundRepairs.{FindsBack, HasNothing, has_bucket, made_if, none_under, refused, searched_full, searched_least}
use Rattle.bolt_repair.proofs.FoundRepairs.{searched_repair, searched_rise}
use Rattle.bolt_repair.proofs.{WholeRepairs.is_nil, WholeRepairs.value_under}
use Rattle.std.proofs.lemmas.Bool.{and_right}
use Rattle.std.specs.Option.{option_map}
use Rattle.bolt_tree.specs.{Entries.Bucket, Entries.EntryView, Entries.Value, Listing.Member, ShownEntries.item_view}
use Rattle.bolt_recover.specs.ShownLosses.{lost_view}
use Rattle.std.proofs.Math.Logic.{∥∥₁_map}
use Rattle.bolt_repair.specs.{Candidates.whole_cmp, Readable.is_readable, Repaired.IsRepair, RepairRefusals.IsRepairRefusal, Repairs.store_path}
use Rattle.bolt_recover.proofs.Exports.{has_recovered}
use Rattle.bolt_repair.proofs.repair.Repair.find.Goals.{After-has_nothing}
use Rattle.bolt_repair.proofs.repair.Repair.find.Goals as goal

abbrev readables : Member → Bool
readables m = is_readable m.0 m.1

-- what was found
finds : (c : After-has_nothing)
    → FindsBack c.args.searched.now c.args.search c.in_ok-back.back.items c.keep_agreed-keys.new.candidates.items c.keep_what_goes_back.new.agreed.items
    c.in_ok-store.store
finds c =
    let same = c.as_slice.ensures.value in
    let compacted = c.compacted_by-compacted.ensures in
    record {
      candidates = c.in_ok-back.ensures;
      stores = rw same at c.in_ok-store.ensures;
      agree = c.keep_agreed-keys.ensures.agreed;
      put = rw compacted at c.in_ok-keep_what_goes_back.ensures;
    }

-- whether there is nothing to make the bucket for
nothing : (c : After-has_nothing)
    → HasNothing c.has_nothing.result c.in_ok-is_lacking.is_lacking c.keep_what_goes_back.new.agreed.items
nothing c = subst (HasNothing c.has_nothing.result c.in_ok-is_lacking.is_lacking) c.as_slice-2.ensures.value c.has_nothing.ensures

pub overflow_sub-result : goal.overflow_sub-result
overflow_sub-result c =
    let (keys, are, number) = c.keep_agreed-keys.ensures.keys in
    let least : length c.keep_what_goes_back.new.agreed.items ≤ length keys =
    searched_least (finds (goal.at.overflow_sub-result c).After-has_nothing) keys are in
    omega (arith, least, number)

pub of-requires : goal.of-requires
of-requires c =
    subst (λ (rs : List Revision). Rises whole_cmp (map entry_of rs)) (sym c.as_slice.ensures.value)
    (searched_rise c.args.searched.now c.args.search _ c.in_ok-back.ensures)

pub keep_agreed-keys-requires-clause-rises : goal.keep_agreed-keys-requires-clause-rises
keep_agreed-keys-requires-clause-rises c = searched_rise c.args.searched.now c.args.search _ c.in_ok-back.ensures

pub keep_agreed-keys-requires-clause-sorted : goal.keep_agreed-keys-requires-clause-sorted
keep_agreed-keys-requires-clause-sorted c =
    let (listing, is) = has_recovered c.args.searched.now.file.now c.args.searched.now.meta in
    rises_sorted key_total _ (c.in_ok-store.ensures listing is).store.rises

pub invariant_of-result : goal.invariant_of-result
invariant_of-result c =
    let here = (goal.at.invariant_of-result c).After-has_nothing in
    let lacks = c.in_ok-is_lacking.is_lacking in
    record {
      goes_back =
          searched_repair (finds here) lacks c.in_ok-is_lacking.ensures.lacks lacks
          (made_if c.keep_what_goes_back.new.agreed.items _ _ (nothing here) c.if-has_nothing.false);
    }

pub returns-clause-found : goal.returns-clause-found
returns-clause-found c =
    let here = (goal.at.returns-clause-found c).After-has_nothing in
    let lacks = c.in_ok-is_lacking.is_lacking in
    let back = c.keep_what_goes_back.new.agreed in
    let long : vec_len back ≡ length back.items = omega arith in
    let (keys, are, number) = c.keep_agreed-keys.ensures.keys in
    record {
      same_file = refl;
      same_meta = refl;
      same_search = refl;
      full =
          searched_full (finds here) lacks c.in_ok-is_lacking.ensures.lacks lacks (made_if back.items _ _ (nothing here) c.if-has_nothing.false) keys are
          (c.keep_agreed-keys.result - c.len.result) (let same = c.len.ensures in omega (arith, number, same, long));
      store = λ none listing is.
          (let (sequence, under) =
          has_bucket back.items _ _ (nothing here) c.if-has_nothing.false none (option_map item_view c.in_ok-store.store.bucket)
          c.in_ok-is_lacking.ensures.lacks in
          let stored = (c.in_ok-store.ensures listing is).store in
          (sequence, (kept_from readables listing (store_path, Bucket sequence) ((stored.bucket (Bucket sequence)).1 under)).0));
      leaves = λ listing is. (c.in_ok-store.ensures listing is).unread;
    }

pub returns-then-has_nothing-clause-refused : goal.returns-then-has_nothing-clause-refused
returns-then-has_nothing-clause-refused c =
    let searched = c.args.searched.now in
    let back = c.keep_what_goes_back.new.agreed in
    let here = (goal.at.returns-then-has_nothing-clause-refused c).After-has_nothing in
    let (lacks, none) = (nothing here).0 c.if-has_nothing.true in
    let empty = ap (λ (es : List Revision). map entry_of es) none in
    let made : false ≡ (c.in_ok-is_lacking.is_lacking && not (is_nil (map entry_of back.items))) =
    sym (and_right c.in_ok-is_lacking.is_lacking _ (ap not (ap is_nil empty))) in
    let under = c.in_ok-is_lacking.ensures.lacks in
    let repair = searched_repair (finds here) c.in_ok-is_lacking.is_lacking under false made in
    subst (IsRepairRefusal searched.file.now searched.meta c.args.search) (sym c.of-then-has_nothing.ensures)
    (refused searched c.args.search
    (∥∥₁_map repair (λ is. (
      record { store = false; meta = not c.in_ok-store.store.has_meta },
      subst (λ (es : List EntryView).
          IsRepair searched.file.now searched.meta c.args.search es (record { store = false; meta = not c.in_ok-store.store.has_meta })) empty is,
    )))
    (λ listing is item has.
    none_under _ (under ∙ ap Some lacks) item
    (((c.in_ok-store.ensures listing is).store.bucket item).0 (kept readables listing (store_path, item) has refl))) (lost_view c.lost.result)
    (sym c.lost.ensures))

pub returns-in_err-is_lacking-clause-refused : goal.returns-in_err-is_lacking-clause-refused
returns-in_err-is_lacking-clause-refused c =
    let searched = c.args.searched.now in
    let (is, none) = c.in_err-is_lacking.ensures.value in
    let (value, at) = value_under (option_map item_view c.in_ok-store.store.bucket) none in
    passed_on c.from_residual-in_err-is_lacking.result c.in_err-is_lacking.field-0.0 (IsRepairRefusal searched.file.now searched.meta c.args.search)
    (subst (IsRepairRefusal searched.file.now searched.meta c.args.search) (sym is)
    (value, λ listing is. (kept_from readables listing (store_path, Value value) (((c.in_ok-store.ensures listing is).store.bucket (Value value)).1 at)).0))
    c.from_residual-in_err-is_lacking.ensures.1
