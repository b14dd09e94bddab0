-- The repaired listing as the merge of what is recovered and what goes back.
use Rattle.std.specs.Prelude.{List, [], map}
use Rattle.bolt_tree.specs.{Entries.EntryView, InBuckets.members_in, Listing.Member, Merging.merged_reads, declared.merged.Merged.Merged}
use Rattle.bolt_recover.specs.{Recovered.IsRecovered, TheRecovered.the_recovered}
use Rattle.bolt_repair.specs.{PutBackMembers.IsPutBack, Repaired.Made, Repairs.meta_path, Repairs.store_path, ReadableLeft.readable_file}
use Rattle.bolt_repair.specs.{ReadableLeft.readable_meta}
use Rattle.bolt_repair.specs.declared.{put_back.PutBack.PutBack, readable_members.ReadableMembers.ReadableMembers, repair.Repair.Repair}
use Rattle.bolt_etcd.specs.{Wire.UnreadEntries.UnreadView, Wire.UnreadEntries.shown_unread, Wire.ShownRevisions.entry_of}

-- the entries that go back
abbrev pub repair_back : Repair → List EntryView
repair_back repair = map entry_of repair.back.items

-- which buckets are made
abbrev pub repair_made : Repair → Made
repair_made repair = record { store = repair.is_made; meta = repair.makes_meta }

-- the entries that can't be read
abbrev pub repair_unread : Repair → List UnreadView
repair_unread repair = map shown_unread repair.unread.items

-- the recovered listing, that of what goes back, and that of the bucket `meta` if it is made
abbrev pub all_listings : Repair → (List Member × List Member) × List Member
all_listings repair = (
  (the_recovered repair.searched.now.file.now repair.searched.now.meta, members_in repair.is_made store_path (repair_back repair)),
  members_in repair.makes_meta meta_path [],
)

-- the listings of a repair are merged
abbrev pub ReadsRepaired : Merged (Merged ReadableMembers PutBack) PutBack → Repair → Type 0
ReadsRepaired members repair = merged_reads (λ (both : Merged ReadableMembers PutBack) (listings : List Member × List Member).
    merged_reads (λ (readable : ReadableMembers) (listing : List Member). IsRecovered (readable_file readable) (readable_meta readable) listing) IsPutBack
    both listings) IsPutBack members
    (all_listings repair)
