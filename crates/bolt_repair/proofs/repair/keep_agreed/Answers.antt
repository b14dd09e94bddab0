-- Those that are met go, and then those of one key that differ.
use Rattle.std.proofs.Common.{rules, ◌∙◌, Bor, List, ap, map, subst}
use Rattle.bolt_lemmas.proofs.Exports.{filter_rises}
use Rattle.bolt_check.specs.Keys.{Key}
use Rattle.bolt_tree.specs.{Entries.EntryView}
use Rattle.bolt_etcd.specs.{Wire.ShownRevisions.entry_of}
use Rattle.bolt_repair.specs.Candidates.{without}
use Rattle.bolt_repair.specs.{Undisputed.HaveKeys}
use Rattle.bolt_repair.proofs.repair.keep_agreed.Goals as goal

abbrev now : Bor Key → Key
now key = key.now

pub keep_undisputed-requires : goal.keep_undisputed-requires
keep_undisputed-requires c = search (rules, filter_rises)

pub returns-clause-agreed : goal.returns-clause-agreed
returns-clause-agreed c = search rules

pub returns-clause-keys : goal.returns-clause-keys
returns-clause-keys c =
    let candidates = map entry_of c.args.candidates.now.items in
    let gone = c.remove_keys.ensures ∙ ap (λ (ks : List (Bor Key)). without (map now ks) candidates) c.as_slice.ensures.value in
    subst (λ (es : List EntryView). HaveKeys es c.keep_undisputed.result) gone c.keep_undisputed.ensures.keys
