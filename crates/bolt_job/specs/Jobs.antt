-- A job: what it asks for, by that of its command; its files, and how much of FILE it needs (docs/COMMANDS.md).
use Rattle.std.specs.Prelude.{Bool, true, false, Option, Some, None, string_bytes}
use Rattle.bolt_text.specs.Lines.{Text}
use Rattle.bolt_job.specs.PlainWords.{Asked, buckets_of, check_of, compact_of, etcd_check_of, etcd_get_of, etcd_keys_of, etcd_repair_of}
use Rattle.bolt_job.specs.PlainWords.{etcd_revisions_of, etcd_status_of, get_of, info_of, keys_asked, list_of, load_of, page_of, pages_asked}
use Rattle.bolt_job.specs.PlainWords.{states_of, stats_of}
use Rattle.bolt_job.specs.declared.job.Job.{Job}
use Rattle.bolt_job.specs.declared.job.Job.TheVariants as job

abbrev pub asked_of : Job → Asked
asked_of (job.Info j) = info_of j
asked_of (job.Page j) = page_of j
asked_of (job.Pages j) = pages_asked j
asked_of (job.Check j) = check_of j
asked_of (job.States j) = states_of j
asked_of (job.Buckets j) = buckets_of j
asked_of (job.Keys j) = keys_asked j
asked_of (job.Get j) = get_of j
asked_of (job.Stats j) = stats_of j
asked_of (job.List j) = list_of j
asked_of (job.Compact j) = compact_of j
asked_of (job.Load j) = load_of j
asked_of (job.EtcdRevisions j) = etcd_revisions_of j
asked_of (job.EtcdKeys j) = etcd_keys_of j
asked_of (job.EtcdGet j) = etcd_get_of j
asked_of (job.EtcdCheck j) = etcd_check_of j
asked_of (job.EtcdStatus j) = etcd_status_of j
asked_of (job.EtcdRepair j) = etcd_repair_of j

-- the FILE that is asked for
abbrev pub file_name : Job → Text
file_name (job.Info j) = string_bytes j.file
file_name (job.Page j) = string_bytes j.file
file_name (job.Pages j) = string_bytes j.file
file_name (job.Check j) = string_bytes j.file
file_name (job.States j) = string_bytes j.file
file_name (job.Buckets j) = string_bytes j.file
file_name (job.Keys j) = string_bytes j.file
file_name (job.Get j) = string_bytes j.file
file_name (job.Stats j) = string_bytes j.file
file_name (job.List j) = string_bytes j.file
file_name (job.Compact j) = string_bytes j.file
file_name (job.Load j) = string_bytes j.file
file_name (job.EtcdRevisions j) = string_bytes j.file
file_name (job.EtcdKeys j) = string_bytes j.file
file_name (job.EtcdGet j) = string_bytes j.file
file_name (job.EtcdCheck j) = string_bytes j.file
file_name (job.EtcdStatus j) = string_bytes j.file
file_name (job.EtcdRepair j) = string_bytes j.file

-- the OUT, if one is asked for
abbrev pub target_name : Job → Option Text
target_name (job.Compact j) = Some (string_bytes j.target)
target_name (job.Load j) = Some (string_bytes j.target)
target_name (job.EtcdRepair j) = Some (string_bytes j.target)
target_name _ = None

-- the metas are all that a job needs
abbrev pub needs_metas_alone : Job → Bool
needs_metas_alone (job.Info j) = true
needs_metas_alone _ = false
