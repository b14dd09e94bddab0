-- There is one listing: it rises by the order of paths, which is total.
use Rattle.std.proofs.Common.{◌≡◌, List}
use Rattle.bolt_lemmas.proofs.Exports.{rises_once}
use Rattle.bolt_tree.proofs.{Words.IsTotalOrder, Words.LeafElement, Words.Lists, Words.Member, Words.Start, Words.member_cmp, Words.on_total}
use Rattle.bolt_tree.proofs.PathOrder.{path_total}

pub member_total : IsTotalOrder member_cmp
member_total = on_total (λ (m : Member). m.0) path_total

pub lists_once : (Entry : Start → LeafElement → Type 0) (from : Start) (a b : List Member) → Lists Entry from a → Lists Entry from b → a ≡ b
lists_once Entry from a b h k =
    rises_once member_total a b h.rises k.rises
    (λ m in_a. (k.exact m.0 m.1).1 ((h.exact m.0 m.1).0 in_a))
    (λ m in_b. (h.exact m.0 m.1).1 ((k.exact m.0 m.1).0 in_b))
