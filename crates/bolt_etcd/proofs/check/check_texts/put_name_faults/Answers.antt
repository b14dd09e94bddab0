use Rattle.std.proofs.Common.{◌≡◌, ◌∙◌, ◌∷◌, ap, flat_map, Option, subst}
use Rattle.std.specs.List.{concat}
use Rattle.bolt_format.specs.{Endings.ending, Wrote.Wrote}
use Rattle.bolt_check.specs.Counts.{counted}
use Rattle.bolt_tree.specs.declared.bucket.Bucket.{Bucket}
use Rattle.bolt_etcd.specs.{Check.CheckLines.name_fault_lines, Check.ForNames.ForGranted, Private.FaultsLeft.faults_leases}
use Rattle.bolt_etcd.specs.{Private.FaultsLeft.faults_left, Private.FaultsLeft.shown_name_fault}
use Rattle.bolt_etcd.proofs.{Leases.granted_with, ListedTexts.Listed, ListedTexts.listed_faults, ListedTexts.listed_more}
use Rattle.bolt_etcd.proofs.check.check_texts.put_name_faults.Goals as goal

pub returns-in_err-put_name_fault-clause-written : goal.returns-in_err-put_name_fault-clause-written
returns-in_err-put_name_fault-clause-written g c =
    let given =
    subst (λ (o : Option Bucket).
    ForGranted o (λ granted. faults_left c.rest.pass granted ≡ shown_name_fault c.in-Some.fault ∷ faults_left c.next.new.self granted))
    c.rest.invariant.leases (rw c.in-Some.is at c.next.ensures.given) in
    granted_with (faults_leases c.args.pass)
    (λ granted.
    Listed g.S.Sink c.args.sink.now c.rest.sink (flat_map name_fault_lines (faults_left c.args.pass granted))
    (flat_map name_fault_lines (faults_left c.rest.pass granted)) c.rest.number)
    (λ granted. faults_left c.rest.pass granted ≡ shown_name_fault c.in-Some.fault ∷ faults_left c.next.new.self granted)
    (λ granted.
    Wrote g.S.Sink c.args.sink.now c.put_name_fault.new.sink (concat (flat_map name_fault_lines (faults_left c.args.pass granted)))
    (ending c.from_residual.result))
    c.rest.invariant.listed given
    (λ granted listed first.
    listed_faults listed (name_fault_lines (shown_name_fault c.in-Some.fault)) (flat_map name_fault_lines (faults_left c.next.new.self granted)) _
    (ap (flat_map name_fault_lines) first) c.in_err-put_name_fault.ensures c.from_residual.ensures.0)

pub rest-preserved : goal.rest-preserved
rest-preserved g c =
    let given =
    subst (λ (o : Option Bucket).
    ForGranted o (λ granted. faults_left c.rest.pass granted ≡ shown_name_fault c.in-Some.fault ∷ faults_left c.next.new.self granted))
    c.rest.invariant.leases (rw c.in-Some.is at c.next.ensures.given) in
    record {
      leases = c.next.ensures.leases ∙ c.rest.invariant.leases;
      listed = granted_with (faults_leases c.args.pass)
          (λ granted.
          Listed g.S.Sink c.args.sink.now c.rest.sink (flat_map name_fault_lines (faults_left c.args.pass granted))
          (flat_map name_fault_lines (faults_left c.rest.pass granted)) c.rest.number)
          (λ granted. faults_left c.rest.pass granted ≡ shown_name_fault c.in-Some.fault ∷ faults_left c.next.new.self granted)
          (λ granted.
          Listed g.S.Sink c.args.sink.now c.put_name_fault.new.sink (flat_map name_fault_lines (faults_left c.args.pass granted))
          (flat_map name_fault_lines (faults_left c.next.new.self granted)) c.saturating_add-number.result)
          c.rest.invariant.listed given (λ granted listed first.
          listed_more listed (name_fault_lines (shown_name_fault c.in-Some.fault)) (flat_map name_fault_lines (faults_left c.next.new.self granted)) _
          (ap (flat_map name_fault_lines) first) c.in_ok-put_name_fault.ensures
          (c.saturating_add-number.ensures ∙ ap (counted c.rest.number) c.number_of_lines.ensures));
    }
