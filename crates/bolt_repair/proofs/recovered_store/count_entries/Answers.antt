use Rattle.std.proofs.Common.{◌∙◌, List, ap, arith, length, sym}
use Rattle.bolt_lemmas.proofs.Exports.{drops, keeps}
use Rattle.bolt_check.specs.Counts.{counted}
use Rattle.bolt_recover.specs.{RecoveredMembers.recovered_left}
use Rattle.bolt_tree.proofs.Exports.{counted_more}
use Rattle.bolt_tree.specs.{Listing.Member}
use Rattle.bolt_repair.specs.{RecoveredStores.store_entries, StorePaths.is_in_store}
use Rattle.bolt_repair.proofs.recovered_store.count_entries.Goals as goal

pub members-init : goal.members-init
members-init c = record {
  reads = λ recovered is. rw (c.in_ok-recovered.ensures.file, c.in_ok-recovered.ensures.meta) is;
  fits = omega arith;
  all = λ recovered is. ap (λ (ms : List Member). counted 0 (length (store_entries ms))) (c.in_ok-recovered.ensures.all recovered is);
}

pub members-preserved-then-is_in_store : goal.members-preserved-then-is_in_store
members-preserved-then-is_in_store c = record {
  reads = λ recovered is. (c.in_ok-next.ensures.reads recovered).1 (c.members.invariant.reads recovered is);
  fits = c.saturating_add-count.type_inv;
  all = λ recovered is.
      let given = c.in_ok-next.ensures.given recovered (c.members.invariant.reads recovered is) in
      let first =
      keeps (λ (m : Member). is_in_store m.0) _ _ _ (rw c.in-Some.is at given)
      (ap is_in_store (sym c.path.ensures) ∙ sym c.is_in_store.ensures ∙ c.if-is_in_store.true) in
      let one = ap length first in
      let left = store_entries (recovered_left c.next.new.self recovered) in
      ap (λ k. counted k (length left)) c.saturating_add-count.ensures ∙ counted_more c.members.count 1 (length left)
      ∙ ap (counted c.members.count) (omega (arith, one)) ∙ c.members.invariant.all recovered is;
}

pub members-preserved : goal.members-preserved
members-preserved c = record {
  reads = λ recovered is. (c.in_ok-next.ensures.reads recovered).1 (c.members.invariant.reads recovered is);
  fits = c.members.invariant.fits;
  all = λ recovered is.
      let given = c.in_ok-next.ensures.given recovered (c.members.invariant.reads recovered is) in
      let first =
      drops (λ (m : Member). is_in_store m.0) _ _ _ (rw c.in-Some.is at given)
      (ap is_in_store (sym c.path.ensures) ∙ sym c.is_in_store.ensures ∙ c.if-is_in_store.false) in
      ap (λ (ms : List Member). counted c.members.count (length ms)) (sym first) ∙ c.members.invariant.all recovered is;
}

pub returns : goal.returns
returns c = λ recovered is.
    let given = c.in_ok-next.ensures.given recovered (c.members.invariant.reads recovered is) in
    let none = rw c.in_default.is at given in
    let last = ap (λ (ms : List Member). counted c.members.count (length (store_entries ms))) none.0 in
    let all = c.members.invariant.all recovered is in
    let fits = c.members.invariant.fits in
    omega (arith, last, all, fits)
