-- The eight figures of a store: docs/COMMANDS.md, "etcd-status".
use Rattle.std.specs.Prelude.{ℕ, List, [], ◌∷◌, Some, codes}
use Rattle.bolt_etcd.specs.declared.store.status.StoreStatus.{StoreStatus}
use Rattle.bolt_report.specs.FigureForms.{Named, figures_text}
use Rattle.bolt_text.specs.declared.forms.FigureForm.{FigureForm}

abbrev pub status_figures : StoreStatus → List Named
status_figures status =
    (codes "revision", Some status.revision)
    ∷ (codes "newest", Some status.newest)
    ∷ (codes "compacted", Some status.compacted)
    ∷ (codes "keys", Some status.keys)
    ∷ (codes "revisions", Some status.revisions)
    ∷ (codes "consistent index", status.consistent_index)
    ∷ (codes "term", status.term)
    ∷ (codes "hash", status.hash) ∷ []

unfoldable pub status_text : FigureForm → StoreStatus → List ℕ
status_text form status = figures_text form (status_figures status)
