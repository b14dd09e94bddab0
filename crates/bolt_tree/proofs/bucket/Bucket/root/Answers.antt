use Rattle.std.proofs.Common.{[], refl}
use Rattle.bolt_tree.proofs.Words.{IsOnWay, bytes_of, meta_of, root_spot}
use Rattle.bolt_tree.proofs.bucket.Bucket.root.Goals as goal

pub invariant_of-result : goal.invariant_of-result
invariant_of-result c =
    let root : IsOnWay (bytes_of c.args.checked) (meta_of c.args.checked) (meta_of c.args.checked).root 1 =
    record { way = []; spot = root_spot (meta_of c.args.checked).root; led = refl; is = refl; deep = refl } in
    record { begins = rw c.meta-meta.ensures (∣ root ∣₁) }
