use Rattle.std.proofs.Common.{◌≡◌, ◌∙◌, List, ap, false, map, rules, subst, sym}
use Rattle.std.proofs.lemmas.Fn.{filter_same}
use Rattle.std.specs.List.{All}
use Rattle.bolt_lemmas.proofs.Exports.{filter_mapped}
use Rattle.bolt_etcd.specs.{Store.Newest.is_until, Wire.ShownRevisions.entry_of, Wire.ShownRevisions.shown_revision}
use Rattle.bolt_etcd.specs.{declared.wire.revision.Revision.Revision}
use Rattle.bolt_etcd.proofs.Exports.{newest_exists}
use Rattle.bolt_repair.specs.WhatGoesBack.{AreTheNewest, goes_back, old_revisions}
use Rattle.bolt_repair.proofs.NewestUntil.{all_go_back}
use Rattle.bolt_repair.proofs.repair.keep_what_goes_back.Goals as goal

pub returns-then-not-has_old : goal.returns-then-not-has_old
returns-then-not-has_old c =
    let compacted = c.args.compacted in
    let kept = map shown_revision c.args.kept.items in
    let agreed = c.args.agreed.now.items in
    let (newest, are) = newest_exists (old_revisions compacted kept (map entry_of agreed)) in
    record {
      newest = newest;
      are = λ own. (are own).exact;
      is = all_go_back compacted newest agreed
          (subst (All (λ (r : Revision). is_until compacted (shown_revision r) ≡ false)) c.as_slice.ensures.value
          (rw c.if-not-has_old.true at c.has_old.ensures));
    }

pub returns : goal.returns
returns c =
    let compacted = c.args.compacted in
    let newest = map shown_revision c.as_slice-newest.result.now in
    let kept = map shown_revision c.args.kept.items in
    record {
      newest = newest;
      are = subst (λ (rs : List Revision). AreTheNewest (old_revisions compacted kept (map entry_of rs)) newest) c.as_slice-2.ensures.value
          (subst (λ (rs : List Revision). AreTheNewest (old_revisions compacted kept (map entry_of c.as_slice-2.result.now)) (map shown_revision rs))
          (sym c.as_slice-newest.ensures.value)
          c.in_ok-newest.ensures.newest);
      is =
          ap (map entry_of) (filter_same _ (λ (r : Revision). goes_back compacted newest (entry_of r)) _ (λ x b f h. search rules) _ _
          c.retain.ensures.filtered)
          ∙ filter_mapped entry_of (goes_back compacted newest) _;
    }
