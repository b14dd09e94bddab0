use Rattle.std.proofs.Common.{◌∙◌, Bor, ap, map, not, rules}
use Rattle.std.proofs.lemmas.Fn.{filter_same}
use Rattle.bolt_lemmas.proofs.Exports.{filter_mapped}
use Rattle.bolt_check.specs.Keys.{Key}
use Rattle.bolt_tree.specs.Entries.{EntryView}
use Rattle.bolt_etcd.specs.{Wire.ShownRevisions.entry_of, declared.wire.revision.Revision.Revision}
use Rattle.bolt_repair.specs.Candidates.{among}
use Rattle.bolt_repair.proofs.repair.remove_keys.Goals as goal

pub returns : goal.returns
returns c =
    let keys = map (λ (key : Bor Key). key.now) c.args.keys.now in
    let goes = λ (e : EntryView). not (among keys e.key) in
    ap (map entry_of) (filter_same _ (λ (e : Revision). goes (entry_of e)) _ (λ x b f h. search rules) _ _ c.retain.ensures.filtered)
    ∙ filter_mapped entry_of goes _
