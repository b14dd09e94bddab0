-- What bbolt fails on in a copy is what it fails on in its layout: no page has the hash.
use Rattle.std.proofs.Common.{◌≡◌, ◌*◌, ◌++◌, ℕ, true, false, arith, length, subst}
use Rattle.std.specs.List.{AllByRecursion}
use Rattle.bolt_commands.proofs.Vocabulary.{IsPageSize, Layout, Meta, sha256}
use Rattle.bolt_check.proofs.Exports.{same_nodes}
use Rattle.bolt_check.specs.{BboltFindings.AreBboltFindings, Nodes.Nodes}
use Rattle.bolt_etcd.proofs.Exports.{agree_more}
use Rattle.bolt_etcd.specs.Check.WholeFiles.{HasAllPages}
use Rattle.bolt_layout.specs.{ForBbolt.ForLayoutFindings, ForBbolt.IsOfLayout, Layout.layout_high_water, Layout.layout_meta, Layout.layout_of}
use Rattle.bolt_layout.specs.{Layout.layout_root, Storable.IsStorable}
use Rattle.bolt_tree.specs.Tree.{Tree, tree_of}
use Rattle.bolt_commands.specs.GoodCopies.{ForCopyFindings}

pub copies_brought : ForLayoutFindings (λ which listing findings. AllByRecursion (IsOfLayout which) findings)
    → ((which : Layout) (page_size : ℕ) (tree : Tree) (sequence : ℕ) → IsPageSize page_size → IsStorable tree
    → length (layout_of which page_size tree sequence) ≡ layout_high_water which page_size tree * page_size)
    → ForCopyFindings (λ which findings. AllByRecursion (IsOfLayout which) findings)
copies_brought brought long which false listing page_size sequence one asked small findings are =
    brought which listing page_size sequence one asked small findings are
copies_brought brought long which true listing page_size sequence one asked small findings are =
    let tree = tree_of listing in
    let layout = layout_of which page_size tree sequence in
    let meta : Meta = layout_meta which page_size tree sequence 1 in
    let exact = long which page_size tree sequence asked.size asked.storable in
    let all : HasAllPages layout meta = record { size = asked.size; long = omega (arith, exact) } in
    let same = same_nodes layout (layout ++ sha256 layout) meta (agree_more layout (sha256 layout) meta all) in
    brought which listing page_size sequence one asked small findings
    (subst (λ (nodes : Nodes). AreBboltFindings nodes (layout_root which page_size tree) findings) same are)
