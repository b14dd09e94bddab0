-- The order of names by their sums tells names apart.
use Rattle.std.proofs.Common.{◌≡◌, ℕ, List, arith}
use Rattle.std.proofs.{lemmas.Bool.Decides.same_from_decides, lemmas.Cmp.nat_cmp_total, lemmas.Cmp.nat_list_cmp_total, lemmas.Cmp.on_total}
use Rattle.std.proofs.{lemmas.Cmp.then_total, lemmas.Cmp.tied_itself}
use Rattle.std.proofs.lemmas.Slice.Eq.{bytes_eq-Decides}
use Rattle.std.specs.{Cmp.IsTotalOrder, Ordering.is_eq, Str.bytes_eq}
use Rattle.std.specs.declared.cmp.Ordering.TheVariants.{Equal}
use Rattle.bolt_lemmas.proofs.Exports.{second_equal}
use Rattle.bolt_check.specs.Keys.{key_cmp}
use Rattle.bolt_tree.proofs.Exports.{key_exact}
use Rattle.bolt_etcd.specs.Store.Orders.{name_sum, sums_cmp}

pub sums_total : IsTotalOrder sums_cmp
sums_total = then_total (on_total name_sum nat_cmp_total) nat_list_cmp_total

pub sums_exact : (a b : List ℕ) → sums_cmp a b ≡ Equal → a ≡ b
sums_exact a b e = key_exact a b (second_equal _ (key_cmp a b) e)

pub sums_tie : (a b : List ℕ) → bytes_eq a b ≡ is_eq (sums_cmp a b)
sums_tie a b = grind (arith, same_from_decides, bytes_eq-Decides, sums_exact, tied_itself, sums_total)
