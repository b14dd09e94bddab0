-- What is written stands before what is still to be looked at.
use Rattle.std.proofs.Common.{rules, ◌≡◌, ◌∙◌, ◌<◌, ◌+◌, ◌&&◌, Bool, List, false, inl, inr, ap, arith, drop, length, map, subst, sym}
use Rattle.std.proofs.lemmas.Bool.{and_right}
use Rattle.bolt_etcd.specs.{Wire.ShownRevisions.entry_of, declared.wire.revision.Revision.Revision}
use Rattle.bolt_repair.specs.Undisputed.{HaveKeys, is_last_of_key}
use Rattle.bolt_repair.proofs.Alones.{IsNext, all_counted, all_told, are_undisputed, count_keys, counted, have_keys, not_counted, passed, written}
use Rattle.bolt_repair.proofs.undisputed.keep_undisputed.Goals.{else-is_first, else-is_last-2, then-is_first+then-is_last, then-is_last-2}
use Rattle.bolt_repair.proofs.undisputed.keep_undisputed.Goals as goal

pub loop-i-preserved : goal.loop-i-preserved
loop-i-preserved c =
    let xs = c.loop-i.candidates.items in
    let i = c.loop-i.i in
    let whole = map entry_of c.args.candidates.now.items in
    let last = c.is_last_of_key-is_last.result in
    let below : i < length xs = omega arith in
    let is : last ≡ is_last_of_key (map entry_of (drop i xs)) =
    c.is_last_of_key-is_last.ensures ∙ ap (λ (rs : List Revision). is_last_of_key (map entry_of (drop i rs))) c.as_slice.ensures.value in
    let (long, low, left, told) : IsNext xs i last is whole c.loop-i.kept c.loop-i.is_first c.loop-i.invariant.kept below c.loop-i.invariant.told
    c.if-is_first.candidates.items c.if-is_first.kept =
    elim c.if-is_first.branch [
      | then-is_first+then-is_last w ↦
          written xs i last is whole c.loop-i.kept c.loop-i.is_first c.loop-i.invariant.kept below c.loop-i.invariant.told w.index.result.now
          w.index.ensures w.if-is_first.true w.if-is_last.true _ _
          (ap (λ v. v.items) w.candidates-is) w.kept-is
      | else-is_first w ↦
          let none : c.loop-i.is_first && last ≡ false = elim w.else-is_first.either [
            | inl (_, more) ↦ and_right c.loop-i.is_first last more
            | inr later ↦ ap (λ (b : Bool). b && last) later
          ] in
          passed xs i last is whole c.loop-i.kept c.loop-i.is_first c.loop-i.invariant.kept below c.loop-i.invariant.told none _ _
          (ap (λ v. v.items) w.candidates-is) w.kept-is
    ] in
    let number : c.if-is_last-2.keys + count_keys (map entry_of (drop (i + 1) xs)) ≡ count_keys whole = elim c.if-is_last-2.branch [
      | then-is_last-2 w ↦ rw w.keys-is (counted xs i last is whole c.loop-i.keys below c.loop-i.invariant.number w.if-is_last-2.true)
      | else-is_last-2 w ↦ rw w.keys-is (not_counted xs i last is whole c.loop-i.keys below c.loop-i.invariant.number w.if-is_last-2.false)
    ] in
    record {
      long = long ∙ c.loop-i.invariant.long;
      kept = low;
      keys =
          elim c.if-is_last-2.branch [
            | then-is_last-2 w ↦ let is_more = w.keys-is in omega (arith, is_more)
            | else-is_last-2 w ↦ let is_same = w.keys-is in omega (arith, is_same)
          ];
      told = told;
      number = rw left number;
    }

pub returns-clause-undisputed : goal.returns-clause-undisputed
returns-clause-undisputed c = search (rules, all_told, are_undisputed)

pub returns-clause-keys : goal.returns-clause-keys
returns-clause-keys c =
    let whole = map entry_of c.args.candidates.now.items in
    subst (HaveKeys whole) (sym (all_counted whole c.loop-i.candidates.items c.loop-i.i c.loop-i.keys (omega arith) c.loop-i.invariant.number))
    (have_keys whole c.requires)
