use Rattle.std.proofs.Common.{◌≡◌, ◌∙◌, ℕ, [], List, None, ap, length, map, sym}
use Rattle.std.proofs.lemmas.Result.{IfOk-weaker}
use Rattle.std.specs.List.{concat}
use Rattle.bolt_check.specs.Counts.{counted}
use Rattle.bolt_format.proofs.Exports.{Wrote-none, Wrote-same}
use Rattle.bolt_format.specs.{Endings.ending, Wrote.Wrote}
use Rattle.bolt_etcd.specs.{Check.NameFaults.AreByName, Check.NameFaults.name_faults, Wire.Revisions.RevisionView, Wire.ShownRevisions.shown_revision}
use Rattle.bolt_etcd.specs.{Check.StoreFaults.name_lines, declared.wire.revision.Revision.Revision}
use Rattle.bolt_etcd.proofs.{NoFaults.by_name_after, NoFaults.none_lines, StoreLemmas.for_names, StoreLemmas.granted_map}
use Rattle.bolt_etcd.proofs.check.store_faults.put_faults_by_name.Goals as goal

pub returns-then-lacks_nothing-clause-written : goal.returns-then-lacks_nothing-clause-written
returns-then-lacks_nothing-clause-written g c = λ rises.
    granted_map c.args.leases
    (λ granted. (by_name : List RevisionView) → AreByName (map shown_revision c.args.found.revisions.items) by_name
    → name_lines c.args.compacted granted by_name ≡ []) _
    (λ granted none by_name is. Wrote-same (ap concat (sym (none by_name is))) (Wrote-none c.args.sink.now))
    (none_lines (map shown_revision c.args.found.revisions.items) c.deref.result.now c.sort_by_sum.new.revisions.items c.args.compacted c.args.leases
    c.lacks_nothing.result rises
    c.sort_by_sum.ensures c.deref.ensures.value c.if-lacks_nothing.true c.lacks_nothing.ensures)

pub returns-then-lacks_nothing-clause-number : goal.returns-then-lacks_nothing-clause-number
returns-then-lacks_nothing-clause-number g c = λ rises.
    granted_map c.args.leases
    (λ granted. (by_name : List RevisionView) → AreByName (map shown_revision c.args.found.revisions.items) by_name
    → name_lines c.args.compacted granted by_name ≡ []) _
    (λ granted none by_name is. ap (λ (ls : List (List ℕ)). counted 0 (length ls)) (sym (none by_name is)))
    (none_lines (map shown_revision c.args.found.revisions.items) c.deref.result.now c.sort_by_sum.new.revisions.items c.args.compacted c.args.leases
    c.lacks_nothing.result rises
    c.sort_by_sum.ensures c.deref.ensures.value c.if-lacks_nothing.true c.lacks_nothing.ensures)

pub returns-clause-written : goal.returns-clause-written
returns-clause-written g c = λ rises.
    for_names _ c.args.compacted c.args.leases c.of.result (map shown_revision c.sort_by_name.new.self.revisions.items)
    (λ lines. Wrote g.S.Sink c.args.sink.now c.put_name_faults.new.sink (concat lines) (ending c.put_name_faults.result)) rises
    c.of.ensures.leases
    (λ granted. c.of.ensures.all granted
    ∙ ap (λ (rs : List Revision). name_faults c.args.compacted granted None (map shown_revision rs)) c.deref-2.ensures.value)
    (by_name_after _ _ _ _ c.sort_by_sum.ensures c.sort_roughly.ensures c.sort_by_name.ensures.sorted) c.put_name_faults.ensures.written

pub returns-clause-number : goal.returns-clause-number
returns-clause-number g c = IfOk-weaker c.put_name_faults.result _ _
    (λ n counts rises.
    for_names _ c.args.compacted c.args.leases c.of.result (map shown_revision c.sort_by_name.new.self.revisions.items)
    (λ lines. n ≡ counted 0 (length lines)) rises
    c.of.ensures.leases
    (λ granted. c.of.ensures.all granted
    ∙ ap (λ (rs : List Revision). name_faults c.args.compacted granted None (map shown_revision rs)) c.deref-2.ensures.value)
    (by_name_after _ _ _ _ c.sort_by_sum.ensures c.sort_roughly.ensures c.sort_by_name.ensures.sorted) counts) c.put_name_faults.ensures.number
