use Rattle.std.proofs.Common.{◌∙◌, ◌++◌, [], ◌∷◌, ap, sym}
use Rattle.std.proofs.lemmas.List.{append-nil}
use Rattle.bolt_recover.proofs.Counted.{added, one_on, root_value_there, root_values_more, unwanted, wanted}
use Rattle.bolt_recover.proofs.Words.{item_view, path_of}
use Rattle.bolt_recover.specs.{Recoveries.recovery_path, ShownStates.figures_view}
use Rattle.bolt_recover.proofs.counting.count_recovered.Goals as goal

pub returns-then-is_unwanted-clause-count : goal.returns-then-is_unwanted-clause-count
returns-then-is_unwanted-clause-count c =
    let (alone, value) = unwanted _ _ (rw c.path.ensures at (sym c.is_unwanted.ensures ∙ c.if-is_unwanted.true)) in (
      alone,
      λ listing is.
          let (done, all, figures, none) = c.members.invariant.counted listing is in
          let given = (rw (c.members.invariant.file, c.members.invariant.meta) at (rw c.in-Some.is at c.in_ok-item.ensures.given)) listing is in
          let whole = all ∙ ap (λ rest. done ++ rest) given in
          rw whole (root_value_there done _ _ value),
    )

pub members-preserved : goal.members-preserved
members-preserved c = record {
  file = c.in_ok-item.ensures.file ∙ c.members.invariant.file;
  meta = c.in_ok-item.ensures.meta ∙ c.members.invariant.meta;
  counted = λ listing is.
      let (done, all, figures, none) = c.members.invariant.counted listing is in
      let given = (rw (c.members.invariant.file, c.members.invariant.meta) at (rw c.in-Some.is at c.in_ok-item.ensures.given)) listing is in
      let wants = rw c.path.ensures at (sym c.if-is_unwanted.false ∙ c.is_unwanted.ensures) in (
        done ++ _ ∷ [],
        one_on listing done _ _ _ all given,
        added done (figures_view c.members.figures) (figures_view c.add.new.self) (path_of c.path-in-Some.result.now) (recovery_path c.next.new.self)
            (item_view c.in-Some.item) c.add.ensures c.path-in-Some.ensures figures,
        λ alone. root_values_more done _ (wanted _ _ wants alone) (none alone),
      );
}

pub returns-clause-count : goal.returns-clause-count
returns-clause-count c = λ listing is.
    let (done, all, figures, none) = c.members.invariant.counted listing is in
    let left = (rw (c.members.invariant.file, c.members.invariant.meta) at (rw c.in_default.is at c.in_ok-item.ensures.given)) listing is in
    let whole = all ∙ ap (λ rest. done ++ rest) left.0 ∙ append-nil done in
    rw whole (figures, none)

pub returns-clause-all : goal.returns-clause-all
returns-clause-all c = rw (← c.members.invariant.file, ← c.members.invariant.meta) (rw c.in_default.is at c.in_ok-item.ensures.all)
