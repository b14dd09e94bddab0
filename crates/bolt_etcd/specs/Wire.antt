-- How etcd writes an entry: the wire format, records, the keys of revisions, and what the code shows of them.
pub mod Fields
pub mod Numbered
pub mod UnreadEntries
pub mod Records
pub mod RevisionKeys
pub mod Revisions
pub mod ShownNumbered
pub mod ShownRecords
pub mod ShownRevisions
