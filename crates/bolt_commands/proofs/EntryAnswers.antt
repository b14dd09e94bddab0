-- What is answered of the entries of the bucket at a path, or of their sizes.
use Rattle.std.proofs.Common.{ℕ, IfErr, List, Ok, Result, inl, refl}
use Rattle.bolt_commands.proofs.Vocabulary.{AreEntries, Bucket, ForEntries, Ghosts, IsOpenedBucket, IsEntriesAnswer, IsEntry, IsReadAnswer}
use Rattle.bolt_commands.proofs.Vocabulary.{IsSizesAnswer, LeadsTo, LeafElement, Meta, MetaChoice, Path, PrintsAnswer, ReportFault, Start}
use Rattle.bolt_commands.proofs.Vocabulary.{Wrote, bucket_checked, bucket_start, bytes_of, end_report, meta_of, report_ending}
use Rattle.bolt_commands.proofs.{AtPaths.at_path, CutTexts.short_json_put, CutTexts.short_put, Doing.answer_as, ReadFiles.own_trees, ReadFiles.read_trees}
use Rattle.bolt_report.specs.SizeLines.{AreSized, Sized, sizes_text}
use Rattle.bolt_text.specs.{ReportEndings.FailsByWriting, ReportEndings.FailsByWritingJson, ReportEndings.HaltsShort, declared.forms.Form.Form}
use Rattle.bolt_report.proofs.Exports.{named_sizes}

module _ {file : List ℕ} {choice : MetaChoice} {path : Path} {bucket : Bucket} (of : IsOpenedBucket file choice path bucket) where
  abbrev meta : Meta
  meta = meta_of (bucket_checked bucket)

  -- what is promised of the entries of the bucket
  promised : (P : List LeafElement → Type 0) → ForEntries (bucket_checked bucket) (bucket_start bucket) P
      → (start : Start) × (entries : List LeafElement) × LeadsTo file meta path start × AreEntries (IsEntry file meta) start entries × P entries
  promised P all =
      let trees = own_trees file choice (bucket_checked bucket) of.bytes of.under in
      rw of.bytes at (at_path (bucket_checked bucket) path bucket P trees refl (rw of.bytes of.led) all)

  -- the text was written, or a part of it
  record Puts {S A : Type 0} (sink : Ghosts S) (old new : S) (put : Result A ReportFault) (text : List ℕ) : Type 0 where
    wrote : Wrote sink old new text (report_ending put)
    halts : HaltsShort sink old new text (report_ending put)

  -- this holds of the text of the sizes of the buckets among entries
  abbrev OfSizes : Form → (List ℕ → Type 0) → List LeafElement → Type 0
  OfSizes form P entries = (sized : List Sized) → AreSized (bytes_of (bucket_checked bucket)) meta entries sized → P (sizes_text form sized)

  module _ {S A : Type 0} {sink : Ghosts S} {old new : S} (put : Result A ReportFault) (form : Form) where
    pub entries_put : (text : List LeafElement → List ℕ)
        → ForEntries (bucket_checked bucket) (bucket_start bucket) (λ entries. Wrote sink old new (text entries) (report_ending put))
        → ForEntries (bucket_checked bucket) (bucket_start bucket) (λ entries. HaltsShort sink old new (text entries) (report_ending put))
        → IfErr put (FailsByWritingJson form)
        → PrintsAnswer sink old new (IsReadAnswer file choice (IsEntriesAnswer file path form text)) (end_report put (Ok 0))
    entries_put text written short fault =
        let (start, entries, names, are, here) =
        promised (λ entries. Puts sink old new put (text entries)) (λ entries are. record { wrote = written entries are; halts = short entries are }) in
        answer_as (short_json_put (text entries) (Ok 0) put here.wrote form here.halts fault)
        (λ answer shown. inl (meta, of.under, inl (start, entries, names, are, shown)))

    pub sizes_put : ForEntries (bucket_checked bucket) (bucket_start bucket) (OfSizes form (λ text. Wrote sink old new text (report_ending put)))
        → ForEntries (bucket_checked bucket) (bucket_start bucket) (OfSizes form (λ text. HaltsShort sink old new text (report_ending put)))
        → IfErr put FailsByWriting
        → PrintsAnswer sink old new (IsReadAnswer file choice (IsSizesAnswer file path form)) (end_report put (Ok 0))
    sizes_put written short fault =
        let (start, entries, names, are, here) =
        promised (OfSizes form (Puts sink old new put))
        (λ entries are sized sizes. record { wrote = written entries are sized sizes; halts = short entries are sized sizes }) in
        let (sized, sizes) = named_sizes file meta (read_trees file choice meta of.under) path start entries names are in
        let puts = here sized (rw of.bytes sizes) in
        answer_as (short_put (sizes_text form sized) (Ok 0) put puts.wrote puts.halts fault)
        (λ answer is. inl (meta, of.under, inl (start, entries, sized, names, are, sizes, is)))
