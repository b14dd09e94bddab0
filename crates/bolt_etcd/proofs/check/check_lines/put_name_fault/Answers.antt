use Rattle.std.proofs.Common.{◌≡◌, ◌∙◌, ◌++◌, ◌∷◌, ℕ, Bool, true, false, List, [], ap, append-nil, if◌then◌else◌, refl, sym}
use Rattle.std.specs.List.{concat}
use Rattle.bolt_format.proofs.Exports.{Wrote-return, Wrote-same, Wrote-then}
use Rattle.bolt_etcd.specs.{Check.CheckLines.lease_line, Check.CheckLines.one_before_line, Wire.Revisions.RevisionView}
use Rattle.bolt_etcd.specs.{Wire.ShownRevisions.shown_revision}
use Rattle.bolt_etcd.proofs.check.check_lines.put_name_fault.Goals as goal

-- at most two lines, one after another
lines : (a b : Bool) (x y : List ℕ)
    → (if a then x else []) ++ (if b then y else []) ≡ concat ((if a then x ∷ [] else []) ++ (if b then y ∷ [] else []))
lines true true x y = ap (λ (l : List ℕ). x ++ l) (sym (append-nil y))
lines true false x y = refl
lines false true x y = sym (append-nil y)
lines false false x y = refl

both : (a b : Bool) (r s : RevisionView) → r ≡ s → (if a then one_before_line r else []) ++ (if b then lease_line r else [])
    ≡ concat ((if a then one_before_line s ∷ [] else []) ++ (if b then lease_line s ∷ [] else []))
both a b r s same =
    ap (λ (v : RevisionView). (if a then one_before_line v else []) ++ (if b then lease_line v else [])) same ∙ lines a b (one_before_line s) (lease_line s)

pub returns-in_err-put_one_before : goal.returns-in_err-put_one_before
returns-in_err-put_one_before g c =
    Wrote-same (both c.args.fault.now.one_before c.args.fault.now.lease _ _ c.decode-decoded.ensures)
    (Wrote-return _ _ (c.in_err-put_one_before.ensures (shown_revision c.args.fault.now.revision).stored_key) c.from_residual.ensures.0)

pub returns : goal.returns
returns g c =
    Wrote-same (both c.args.fault.now.one_before c.args.fault.now.lease _ _ c.decode-decoded.ensures)
    (Wrote-then (c.in_ok-put_one_before.ensures (shown_revision c.args.fault.now.revision).stored_key)
    (c.put_lease.ensures (shown_revision c.args.fault.now.revision).stored_key))
