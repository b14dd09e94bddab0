use Rattle.std.proofs.Common.{refl}
use Rattle.bolt_tree.specs.{BucketViews.entries_of, Entries.AreEntries}
use Rattle.bolt_etcd.specs.{Store.RevisionsLeft.pass_checked, Store.RevisionsLeft.pass_start, Store.Stores.revisions}
use Rattle.bolt_etcd.specs.Store.BucketNames.{key_bucket}
use Rattle.bolt_report.specs.RevisionLines.{named_with, revision_lines}
use Rattle.bolt_commands.specs.EtcdAnswers.{IsRevisionsText, OfKeys, entries_asked}
use Rattle.bolt_commands.proofs.{Doing.answer_nothing, EtcdAnswers.counted_put, EtcdAnswers.keys, EtcdAnswers.keys_answer}
use Rattle.bolt_commands.proofs.{EtcdAnswers.known_of, EtcdAnswers.unread_store}
use Rattle.bolt_commands.proofs.commands.etcd_revisions_command.do_etcd_revisions.Goals as goal

pub returns-in_err-store : goal.returns-in_err-store
returns-in_err-store g c =
    answer_nothing _ _ (unread_store c.args.input.file.now c.args.job.now.meta
    (λ store. OfKeys (store.bucket key_bucket) (IsRevisionsText c.args.job.now)) _ c.in_err-store.ensures.refused (λ store none. rw none refl))
    c.from_residual.ensures.1

pub returns : goal.returns
returns g c =
    let job = c.args.job.now in
    let s = c.in_ok-store.store in
    let of = c.in_ok-store.ensures.found in
    let (entries, at, own) = keys _ _ s of in
    let pass = c.pass_from-pass.ensures in
    let are : AreEntries (entries_of (pass_checked c.pass_from-pass.result)) (pass_start c.pass_from-pass.result) entries = rw (pass.checked, pass.start) own in
    let asked = pass.asked entries are in
    let text = revision_lines job.form job.values (named_with job.prefix.items (revisions (entries_asked job.from entries))) in
    let written = rw (asked, c.new-lines.ensures.form, c.new-lines.ensures.values, c.as_slice.ensures.value) at (c.put_pass.ensures.written entries are) in
    let knows = known_of c.put_pass.result _ c.put_pass.ensures.unread (λ m all. rw (asked, pass.unread) at (all entries are)) in
    let fault = rw c.new-lines.ensures.form at c.put_pass.ensures.fault in
    rw c.end_revisions.ensures
    (keys_answer _ _ s of _ (IsRevisionsText job) (counted_put text (entries_asked job.from entries) c.put_pass.result written knows job.form fault))
