-- The words that the proofs of this crate cite, passed on from the modules that define them.
pub use Rattle.bolt_lemmas.proofs.Exports.{filter_all}
pub use Rattle.bolt_lemmas.specs.Order.{Rises}
pub use Rattle.bolt_bulk.specs.{Compacting.too_many, declared.bulk_fault.BulkFault.BulkFault}
pub use Rattle.bolt_check.specs.{CheckedFiles.bytes_of, CheckedFiles.meta_of, Findings.IsClaimedBefore, Findings.IsMetaPage, Findings.finding}
pub use Rattle.bolt_check.specs.{Nodes.leaf_entry, Nodes.node_at}
pub use Rattle.bolt_check.specs.{Sound.HasRightAccounts, Sound.HasSoundTrees, Sound.IsFirstFinding, Sound.IsRefused, Sound.IsSound, Keys.Key}
pub use Rattle.bolt_check.specs.{declared.checked.Checked.Checked}
pub use Rattle.bolt_check.specs.{declared.check_fault.CheckFault.CheckFault, declared.finding.Finding.Finding}
pub use Rattle.bolt_commands.specs.Answers.{Answer, JobEnding, WritesAnswer, IsPrinted, done, refused}
pub use Rattle.bolt_commands.specs.CheckAnswers.{AnswersLost, IsCheckAnswer, IsCheckAnswerAfter, IsFindingsAnswer, IsLostAnswer}
pub use Rattle.bolt_commands.specs.CheckAnswers.{check_refusal, findings_answer, lost_and_found_answer}
pub use Rattle.bolt_commands.specs.FilesRead.{AreFoundPages, HoldsIn, IsReadAnswer, IsReadUnder, IsReadTo}
pub use Rattle.bolt_commands.specs.FilesRead.{IsRecoveredUnder, IsRefusedUnder, IsJoinedWith, IsUnreadTo, IsUnrecoverableUnder, LeadsTo}
pub use Rattle.bolt_commands.specs.FilesRead.{counts_accounts, found_page, end_listing}
pub use Rattle.bolt_commands.specs.JobAnswers.{DoesJob, Loads, LoadsListing, MakesCopy, WritesLayout}
pub use Rattle.bolt_commands.specs.KeyAnswers.{HoldsNone, IsEntriesAnswer, IsSizesAnswer, value_shown}
pub use Rattle.bolt_commands.specs.StatsAnswers.{AddsEntry, HasStats, IsStatsAnswer, IsTotal, no_stats}
pub use Rattle.bolt_commands.specs.{ListAnswers.IsListPrint, ListAnswers.IsListedAnswer, ListAnswers.listing_part_text, ListAnswers.part_ending}
pub use Rattle.bolt_commands.specs.{PageAnswers.IsInfoAnswer, PageAnswers.page_answer}
pub use Rattle.bolt_commands.specs.CopyAnswers.{StopsShort, copy_page_size, copy_report, hash_refusal}
pub use Rattle.bolt_commands.specs.Failures.{IsFailureOf, copy_failure, report_failure, join_failure}
pub use Rattle.bolt_commands.specs.{FileFaults.AreCopyFaults, FileFaults.IsMetasFault, FileFaults.IsOtherFault, FileFaults.errors_in}
pub use Rattle.bolt_commands.specs.{FileFaults.other_meta_lines, Shortfalls.shortfall}
pub use Rattle.bolt_commands.specs.{declared.shortfall.Shortfall.Shortfall, GoodCopies.HasGoodCopies, GoodCopies.IsGoodCopy, GoodCopies.RefusesFile}
pub use Rattle.bolt_commands.specs.Private.Copying.{CopiesJoined, CopiesListing, CopiesRead, CopiesTo, IsAskedBlueprint, blueprint_layout}
pub use Rattle.bolt_commands.specs.Private.Endings.{MayFail, end_report, end_write, failing}
pub use Rattle.bolt_commands.specs.Private.Contents.{HasNoBucket, IsOpenedBucket, IsJoinedOf, IsOpened, IsRecoveryOf, IsSearchOf, IsSoundOf, IsUnopened}
pub use Rattle.bolt_commands.specs.Private.Contents.{IsUnread, contents_found, contents_lost, contents_meta}
pub use Rattle.bolt_commands.specs.{SnapshotAnswers.bad_hash, SnapshotAnswers.copy_of, SnapshotAnswers.asked_hash_fault, CopyEnds.EndsCopy}
pub use Rattle.bolt_commands.specs.{Hashes.HashesSince, declared.failure.Failure.Failure}
pub use Rattle.bolt_commands.specs.{declared.file_faults.FileFaults.FileFaults, declared.opening.Contents.Contents, declared.other_meta.OtherMeta.OtherMeta}
pub use Rattle.bolt_commands.specs.Private.Printing.{PrintsAnswer, PutsJoined, PutsListing, PutsPart, finds, job_part, sound_part}
pub use Rattle.bolt_commands.specs.CopyLayouts.{layout_for}
pub use Rattle.bolt_format.proofs.Exports.{AppendsProperPrefix-first, AppendsProperPrefix-second, Wrote-ends, Wrote-none, Wrote-return}
pub use Rattle.bolt_format.proofs.Exports.{Wrote-stop, Wrote-then, broken_by}
pub use Rattle.bolt_format.specs.Elements.{LeafElement, head_sequence}
pub use Rattle.bolt_format.specs.Metas.{HasBothMetas, HasMetaFault, HasSlotFault, IsActive, IsInSlot, IsMeta, IsPageSize, page_size_count, page_sizes}
pub use Rattle.bolt_format.specs.{declared.meta.Slot.TheVariants.One, declared.meta.Slot.TheVariants.Zero, Sinks.AppendsProperPrefix, Endings.ending}
pub use Rattle.bolt_format.specs.{Wrote.Wrote, declared.meta.Meta.Meta}
pub use Rattle.bolt_format.specs.{declared.meta.MetaFault.MetaFault, declared.meta.Slot.Slot, declared.sink.Sink.Ghosts}
pub use Rattle.bolt_format.specs.{declared.sink.SinkFault.SinkFault}
pub use Rattle.bolt_job.specs.{CopyKinds.is_snapshot, MetaChoices.IsMetaOf, MetaChoices.assumed_for, declared.choices.Extent.TheVariants.Losses}
pub use Rattle.bolt_job.specs.{declared.choices.Extent.TheVariants.Sound}
pub use Rattle.bolt_job.specs.{declared.choices.MetaChoice.TheVariants.Active, declared.choices.MetaChoice.TheVariants.Assumed}
pub use Rattle.bolt_job.specs.{declared.choices.MetaChoice.TheVariants.InSlot, PlainWords.owned_path}
pub use Rattle.bolt_job.specs.{declared.choices.Extent.Extent, declared.job.Job.Job, declared.choices.MetaChoice.MetaChoice}
pub use Rattle.bolt_job.specs.{declared.bucket_commands.ListJob.ListJob}
pub use Rattle.bolt_job.specs.declared.choices.PageSize.{PageSize}
pub use Rattle.bolt_layout.specs.{Copies.IsAsked, Copies.IsOfOneTree, Copies.IsSoundCopy, Copies.RefusesPrefixes, Copies.layout_of_listing}
pub use Rattle.bolt_layout.specs.{declared.Layout.Layout}
pub use Rattle.bolt_load.specs.LineFaults.{IsListingText, IsLoadFault}
pub use Rattle.bolt_text.specs.{LineMembers.text_members, declared.report_fault.ReportFault.ReportFault, ReportEndings.report_ending}
pub use Rattle.bolt_text.specs.{ListForms.listing_lines, declared.forms.ListForm.ListForm}
pub use Rattle.bolt_text.specs.{declared.forms.Form.TheVariants.Json, declared.forms.FigureForm.FigureForm}
pub use Rattle.bolt_layout.specs.NoGaps.{HasNoGaps}
pub use Rattle.bolt_recover.proofs.Exports.{has_gaps, has_losses, has_recovered}
pub use Rattle.bolt_recover.specs.PageGaps.{AreGaps, ForGaps, PageGapView, gaps_of, page_gap_view}
pub use Rattle.bolt_recover.specs.JoinedMembers.{ForJoined, joined_file, joined_left, joined_meta}
pub use Rattle.bolt_recover.specs.Losses.{AreLosses, LossView, LostView, everything, is_nothing, loss_at, losses_of, parts}
pub use Rattle.bolt_recover.specs.{Sites.Site, Sites.leaves_of, Sites.site_at, Recovered.ForRecovered, Recovered.IsRecovered}
pub use Rattle.bolt_recover.specs.Recoveries.{ForLosses, recovery_file, recovery_gaps, recovery_left, recovery_losses, recovery_meta, recovery_work}
pub use Rattle.bolt_recover.specs.{ShownLosses.loss_view, ShownLosses.lost_view, Joined.IsJoined, LostAndFound.all_lost}
pub use Rattle.bolt_recover.specs.{declared.found_page.FoundPage.FoundPage}
pub use Rattle.bolt_recover.specs.{declared.lost_and_found.LostAndFound.LostAndFound}
pub use Rattle.bolt_report.specs.{FoundLines.FoundView, FoundLines.IsFoundLeaf, FoundLines.counted_lost_text, FoundLines.found_view}
pub use Rattle.bolt_report.specs.{KeyLines.buckets_text, KeyLines.keys_text}
pub use Rattle.bolt_stats.specs.{Figures.add_stats, declared.figures.Stats.Stats}
pub use Rattle.bolt_etcd.specs.Check.SnapshotFaults.{IsSnapshot, cut_hash_fault, hash_fault, snapshot_of}
pub use Rattle.bolt_tree.proofs.Exports.{fewer_left, next_shows, next_stands, the_entries, held_down, held_up, names_push, has_listing}
pub use Rattle.bolt_tree.specs.{Buckets.bucket_checked, Buckets.bucket_start, Cursors.cursor_checked, Cursors.cursor_place, Cursors.cursor_start}
pub use Rattle.bolt_tree.specs.Entries.{AreEntries, EntryView, IsEntry, Item, Root_page, Start, Value, item_of, start_of}
pub use Rattle.bolt_tree.specs.{EntriesLeft.ForEntries, EntriesLeft.entries_left, FileListings.ForListing, FileListings.root_start}
pub use Rattle.bolt_tree.specs.Listing.{IsListing, Member, member_cmp, rest_from}
pub use Rattle.bolt_tree.specs.{ListingParts.has_bucket, ListingParts.is_bucket, ListingParts.is_bucket_at, ListingParts.part_below}
pub use Rattle.bolt_tree.specs.{Lookups.IsBucketAt, Lookups.IsValueAt}
pub use Rattle.bolt_tree.specs.{Paths.Holds, Paths.Names, Paths.Path, Paths.path_above, Paths.path_cmp, Paths.path_of, BucketViews.entries_of}
pub use Rattle.bolt_tree.specs.{declared.bucket.Bucket.Bucket}
pub use Rattle.sha2.proofs.Facts256.{length-sha256}
pub use Rattle.sha2.specs.{Hashers.Holds256, Sha256.sha256, declared.Sha256.Sha256}
pub use Rattle.std.proofs.{KnownBytes.Appends-kept, KnownBytes.Appends-nil, KnownBytes.Appends-trans, Math.Logic.∥∥₁_elim, Math.Logic.∥∥₁_map}
pub use Rattle.std.proofs.{Math.Seq.drop-append_seam, Math.Seq.take-append_seam}
pub use Rattle.std.proofs.lemmas.Bool.{and_parts, both_ways, cases_Bool, cases_lt, eq-eqb, eqb-true, false≢true, or_cases, or_left, or_right}
pub use Rattle.std.proofs.lemmas.List.{drop_more, length-append, map-append, take-append-drop, take-append-le}
pub use Rattle.std.proofs.{lemmas.Slice.Eq.bytes_eq-Decides, lemmas.Slice.Eq.slice_eq-Decides, Props.props}
pub use Rattle.std.specs.{Io.KnownBytes.Appends, Io.KnownBytes.Keeps, List.All, List.AllByRecursion, List.Contains, List.list_any}
pub use Rattle.std.specs.{List.range_with_len, Cmp.Lexicographic.pointwise, Result.IsErrAnd}
pub use Rattle.std.specs.Str.{bytes_eq}
pub use Rattle.std.specs.Prelude.{IsOk, OnErr, OnOk, not, ⊤}
