-- What the words of a command line ask for: docs/COMMANDS.md, "Arguments".
use Rattle.std.specs.Prelude.{◌==◌, ◌&&◌, ◌^◌, ℕ, Bool, true, false, List, [], ◌∷◌, ◌++◌, Option, Some, None, Result, Ok, Err, Vec, codes, map}
use Rattle.std.specs.Prelude.{option_map, string_bytes, if◌then◌else◌, nat_lt}
use Rattle.std.specs.{List.after_first, List.before_first, List.list_any, Str.bytes_eq}
use Rattle.bolt_tree.specs.Paths.{Key, Path}
use Rattle.bolt_format.specs.{Metas.page_sizes, declared.meta.Slot.Slot, declared.meta.Slot.TheVariants.One, declared.meta.Slot.TheVariants.Zero}
use Rattle.bolt_text.specs.{Numbers.decimal_value, Numbers.is_number, Numbers.number_in, declared.forms.FigureForm.FigureForm}
use Rattle.bolt_text.specs.{declared.forms.Form.Form, declared.forms.ListForm.ListForm, Lines.Text}
use Rattle.bolt_job.specs.FormWords.{figure_form_by, form_by, list_form_by}
use Rattle.bolt_job.specs.WordRules.{alone, by_letter, by_name, needed, several, valued}
use Rattle.bolt_job.specs.{PathWords.◌>>=◌, PathWords.each_part, PathWords.hex_path_by, PathWords.part_of, PathWords.parts_by, PathWords.prefix_of}
use Rattle.bolt_job.specs.{declared.choices.BucketsShown.BucketsShown}
use Rattle.bolt_job.specs.{declared.choices.BucketsShown.TheVariants.Names, declared.choices.BucketsShown.TheVariants.Sizes}
use Rattle.bolt_job.specs.{declared.choices.CopyKind.CopyKind, declared.choices.Extent.Extent}
use Rattle.bolt_job.specs.{declared.choices.MetaChoice.MetaChoice, declared.choices.PageSize.PageSize}
use Rattle.bolt_job.specs.{declared.etcd_commands.EtcdCheckJob.EtcdCheckJob, declared.etcd_commands.EtcdGetJob.EtcdGetJob}
use Rattle.bolt_job.specs.{declared.etcd_commands.EtcdKeysJob.EtcdKeysJob, declared.etcd_commands.EtcdRepairJob.EtcdRepairJob}
use Rattle.bolt_job.specs.{declared.etcd_commands.EtcdRevisionsJob.EtcdRevisionsJob}
use Rattle.bolt_job.specs.declared.etcd_commands.EtcdStatusJob.{EtcdStatusJob}
use Rattle.bolt_job.specs.{declared.page_commands.CheckJob.CheckJob, declared.page_commands.InfoJob.InfoJob, declared.page_commands.PageJob.PageJob}
use Rattle.bolt_job.specs.{declared.page_commands.PagesJob.PagesJob, declared.page_commands.StatesJob.StatesJob}
use Rattle.bolt_job.specs.{declared.bucket_commands.BucketsJob.BucketsJob, declared.bucket_commands.GetJob.GetJob}
use Rattle.bolt_job.specs.{declared.bucket_commands.KeysJob.KeysJob, declared.bucket_commands.ListJob.ListJob}
use Rattle.bolt_job.specs.{declared.bucket_commands.StatsJob.StatsJob, declared.writing_commands.CompactJob.CompactJob}
use Rattle.bolt_job.specs.{declared.writing_commands.LoadJob.LoadJob}
use Rattle.clap.specs.Words.{Rule, new_rule}
use Rattle.bolt_job.specs.declared.choices.CopyKind.TheVariants as kind
use Rattle.bolt_job.specs.declared.choices.Extent.TheVariants as extent
use Rattle.bolt_job.specs.declared.choices.MetaChoice.TheVariants as choice

-- ---- the arguments of the commands

abbrev operand : Text → Rule
operand name = valued (new_rule name)

-- an option with a value, and one without
abbrev option : Text → Rule
option name = by_name (valued (new_rule name))

abbrev switch : Text → Rule
switch name = by_name (alone (new_rule name))

-- the words of a path
abbrev parts : Rule
parts = several (operand (codes "PART"))

-- OUT, by `-o` (111)
abbrev output : Rule
output = needed (by_letter 111 (valued (new_rule (codes "output"))))

abbrev metas : List Rule
metas = option (codes "meta") ∷ option (codes "assume-meta") ∷ []

-- ---- what a line asks for

-- the active meta, that of a slot, or an assumed one by its page size and root page
pub data AskedMeta : Type 0 where
  active : AskedMeta
  in_slot : Slot → AskedMeta
  assumed : (page_size root : ℕ) → AskedMeta

-- a job by its texts, numbers and paths
pub data Asked : Type 0 where
  info : Text → Option Slot → FigureForm → Asked
  page : Text → AskedMeta → ℕ → Asked
  pages : Text → (map : Bool) → Asked
  check : Text → AskedMeta → Extent → (snapshot for_bbolt : Bool) → Asked
  states : Text → (page_size : Option ℕ) → Asked
  buckets : Text → AskedMeta → Path → Form → BucketsShown → Asked
  keys : Text → AskedMeta → Path → (prefix : Key) → Form → (recover : Bool) → Asked
  get : Text → AskedMeta → Path → Form → (no_newline recover : Bool) → Asked
  stats : Text → AskedMeta → FigureForm → Path → Asked
  list : Text → AskedMeta → ListForm → (path from : Path) → Extent → Asked
  compact : (file : Text) → AskedMeta → (target : Text) → (page_size : Option ℕ) → CopyKind → Extent → Asked
  load : (file target : Text) → (sequence page_size : ℕ) → CopyKind → Asked
  etcd_revisions : Text → AskedMeta → (prefix : Key) → (from : Option ℕ) → Form → (values : Bool) → Asked
  etcd_keys : Text → AskedMeta → (prefix : Key) → (revision : Option ℕ) → Form → (values : Bool) → Asked
  etcd_get : Text → AskedMeta → (name : Key) → (revision : Option ℕ) → Form → (no_newline : Bool) → Asked
  etcd_check : Text → AskedMeta → Asked
  etcd_status : Text → AskedMeta → (revision : Option ℕ) → FigureForm → Asked
  etcd_repair : (file : Text) → AskedMeta → (target : Text) → (page_size : Option ℕ) → CopyKind → (search : Bool) → Asked

-- the path that the code owns
abbrev pub owned_path : {Z : Type 0} → List (Vec ℕ Z) → Path
owned_path {Z} parts = map (λ (part : Vec ℕ Z). part.items) parts

-- the page size that the code has
abbrev pub size_in : Option PageSize → Option ℕ
size_in size = option_map (λ (s : PageSize). s.bytes) size

-- the meta that the code has
abbrev pub meta_in : MetaChoice → AskedMeta
meta_in choice.Active = active
meta_in (choice.InSlot slot) = in_slot slot
meta_in (choice.Assumed meta) = assumed meta.page_size.bytes meta.root

-- what is asked by the job of each command
abbrev pub info_of : InfoJob → Asked
info_of j = info (string_bytes j.file) j.slot j.form

abbrev pub page_of : PageJob → Asked
page_of j = page (string_bytes j.file) (meta_in j.meta) j.id

abbrev pub pages_asked : PagesJob → Asked
pages_asked j = pages (string_bytes j.file) j.map

abbrev pub check_of : CheckJob → Asked
check_of j = check (string_bytes j.file) (meta_in j.meta) j.extent j.snapshot j.for_bbolt

abbrev pub states_of : StatesJob → Asked
states_of j = states (string_bytes j.file) (size_in j.page_size)

abbrev pub buckets_of : BucketsJob → Asked
buckets_of j = buckets (string_bytes j.file) (meta_in j.meta) (owned_path j.path.items) j.form j.shown

abbrev pub keys_asked : KeysJob → Asked
keys_asked j = keys (string_bytes j.file) (meta_in j.meta) (owned_path j.path.items) j.prefix.items j.form j.recover

abbrev pub get_of : GetJob → Asked
get_of j = get (string_bytes j.file) (meta_in j.meta) (owned_path j.path.items) j.form j.no_newline j.recover

abbrev pub stats_of : StatsJob → Asked
stats_of j = stats (string_bytes j.file) (meta_in j.meta) j.form (owned_path j.path.items)

abbrev pub list_of : ListJob → Asked
list_of j = list (string_bytes j.file) (meta_in j.meta) j.form (owned_path j.path.items) (owned_path j.from.items) j.extent

abbrev pub compact_of : CompactJob → Asked
compact_of j = compact (string_bytes j.file) (meta_in j.meta) (string_bytes j.target) (size_in j.page_size) j.kind j.extent

abbrev pub load_of : LoadJob → Asked
load_of j = load (string_bytes j.file) (string_bytes j.target) j.sequence j.page_size.bytes j.kind

abbrev pub etcd_revisions_of : EtcdRevisionsJob → Asked
etcd_revisions_of j = etcd_revisions (string_bytes j.file) (meta_in j.meta) j.prefix.items j.from j.form j.values

abbrev pub etcd_keys_of : EtcdKeysJob → Asked
etcd_keys_of j = etcd_keys (string_bytes j.file) (meta_in j.meta) j.prefix.items j.at j.form j.values

abbrev pub etcd_get_of : EtcdGetJob → Asked
etcd_get_of j = etcd_get (string_bytes j.file) (meta_in j.meta) j.name.items j.at j.form j.no_newline

abbrev pub etcd_check_of : EtcdCheckJob → Asked
etcd_check_of j = etcd_check (string_bytes j.file) (meta_in j.meta)

abbrev pub etcd_status_of : EtcdStatusJob → Asked
etcd_status_of j = etcd_status (string_bytes j.file) (meta_in j.meta) j.at j.form

abbrev pub etcd_repair_of : EtcdRepairJob → Asked
etcd_repair_of j = etcd_repair (string_bytes j.file) (meta_in j.meta) (string_bytes j.target) (size_in j.page_size) j.kind j.search

-- the words that a line gives by each name
abbrev pub Values : Type 0
Values = Text → List Text

abbrev pub first_word_of : List Text → Option Text
first_word_of [] = None
first_word_of (word ∷ words) = Some word

abbrev pub or_missing : Option Text → Result Text Text
or_missing (Some word) = Ok word
or_missing None = Err (codes "value missing")

abbrev pub given : Values → (name : Text) → Option Text
given values name = first_word_of (values name)

abbrev pub text_by : Text → Values → Result Text Text
text_by name values = or_missing (given values name)

abbrev file_by : Values → Result Text Text
file_by values = text_by (codes "FILE") values

-- a number by its word, or what is wrong with it
abbrev pub number_or_why : (why word : Text) → Result ℕ Text
number_or_why why word = if is_number word then Ok (decimal_value word) else Err why

abbrev pub id_by : Values → Result ℕ Text
id_by values = text_by (codes "ID") values >>= λ word. number_or_why (codes "bad page id") word

-- a word is a number, and one of the page sizes
abbrev pub is_page_size : Text → Bool
is_page_size word = is_number word && list_any (λ size. size == decimal_value word) page_sizes

abbrev pub page_size_asked : Text → Result ℕ Text
page_size_asked word = if is_page_size word then Ok (decimal_value word) else Err (codes "bad page size")

-- the page size of a copy by its word; without one it is that of the file
abbrev pub page_size_by : Option Text → Result (Option ℕ) Text
page_size_by (Some word) = page_size_asked word >>= λ size. Ok (Some size)
page_size_by None = Ok None

-- the page size of a database that is made of a listing, and the sequence of its root bucket
abbrev pub load_size_by : Option Text → Result ℕ Text
load_size_by (Some word) = page_size_asked word
load_size_by None = Ok 4096

abbrev pub sequence_by : Option Text → Result ℕ Text
sequence_by (Some word) = number_or_why (codes "bad sequence") word
sequence_by None = Ok 0

-- a revision of etcd's by its word: a number below 2 ^ 63; without a word there is none
abbrev pub is_revision : Text → Bool
is_revision word = is_number word && nat_lt (decimal_value word) (2 ^ 63)

abbrev pub revision_of : Text → Result ℕ Text
revision_of word = if is_revision word then Ok (decimal_value word) else Err (codes "bad revision")

abbrev pub revision_asked : Option Text → Result (Option ℕ) Text
revision_asked (Some word) = revision_of word >>= λ revision. Ok (Some revision)
revision_asked None = Ok None

-- the kind of a copy, by the words of `--for-bbolt` and `--etcd-snapshot` if they are given; a snapshot is for bbolt too
abbrev pub copy_kind_by : (for_bbolt snapshot : Option Text) → CopyKind
copy_kind_by for_bbolt (Some word) = kind.EtcdSnapshot
copy_kind_by (Some word) None = kind.ForBbolt
copy_kind_by None None = kind.Plain

abbrev kind_in : Values → CopyKind
kind_in values = copy_kind_by (given values (codes "for-bbolt")) (given values (codes "etcd-snapshot"))

-- the kind of a repaired copy, by the word of `--etcd-snapshot` if it is given; it is never plain
abbrev pub repair_kind_by : (snapshot : Option Text) → CopyKind
repair_kind_by (Some word) = kind.EtcdSnapshot
repair_kind_by None = kind.ForBbolt

-- how much is read of a damaged file, by the words of `--all` or `--recover` and of `--lost-and-found` if they are given
abbrev pub extent_by : (losses lost_and_found : Option Text) → Extent
extent_by losses (Some word) = extent.FoundPages
extent_by (Some word) None = extent.Losses
extent_by None None = extent.Sound

abbrev extent_in : (losses : Text) → Values → Extent
extent_in losses values = extent_by (given values losses) (given values (codes "lost-and-found"))

-- whether an option without a value is given
abbrev pub is_given : Option Text → Bool
is_given (Some word) = true
is_given None = false

-- the slot of a meta by its word; without one it is that of the active meta
abbrev pub slot_of : Text → Result Slot Text
slot_of word =
    if bytes_eq word (codes "0") then Ok Zero
    else if bytes_eq word (codes "1") then Ok One
    else Err (codes "bad meta: use 0 or 1")

abbrev pub slot_by : Option Text → Result (Option Slot) Text
slot_by (Some word) = slot_of word >>= λ slot. Ok (Some slot)
slot_by None = Ok None

-- an assumed meta by its page size, and its root page after a colon (58)
abbrev bad_assumed : Text
bad_assumed = codes "bad meta: use PAGE_SIZE:ROOT, and no --meta"

abbrev pub assumed_when : Result ℕ Text → Option ℕ → Result AskedMeta Text
assumed_when (Ok page_size) (Some root) = Ok (assumed page_size root)
assumed_when _ _ = Err bad_assumed

abbrev pub assumed_of : Text → Result AskedMeta Text
assumed_of word = assumed_when (page_size_asked (before_first (λ byte. byte == 58) word)) (number_in (after_first (λ byte. byte == 58) word))

-- the meta by the words of `--meta` and `--assume-meta`, of which only one may be given
abbrev pub meta_asked : (named assumed : Option Text) → Result AskedMeta Text
meta_asked None None = Ok active
meta_asked (Some word) None = slot_of word >>= λ slot. Ok (in_slot slot)
meta_asked None (Some word) = assumed_of word
meta_asked (Some word) (Some other) = Err bad_assumed

abbrev pub meta_by : Values → Result AskedMeta Text
meta_by values = meta_asked (given values (codes "meta")) (given values (codes "assume-meta"))

-- a path by its words, and the bytes that keys are to begin with, written as these are
abbrev pub path_by : Values → Result Path Text
path_by values = parts_by (given values (codes "parts")) >>= λ how. each_part (part_of how) (values (codes "PART"))

abbrev pub prefix_by : Values → Result Key Text
prefix_by values = parts_by (given values (codes "parts")) >>= λ how. prefix_of how (given values (codes "prefix"))

-- the name of a key in etcd, written as a part of a path is
abbrev pub name_by : Values → Result Key Text
name_by values = parts_by (given values (codes "parts")) >>= λ how. text_by (codes "NAME") values >>= λ word. part_of how word

-- what is printed of buckets, by whether `--sizes` and `--recover` are given, of which only one may be
abbrev pub shown_by : (sizes recover : Bool) → Result BucketsShown Text
shown_by false recover = Ok (Names recover)
shown_by true false = Ok Sizes
shown_by true true = Err (codes "bad sizes: not with --recover")

abbrev recover_in : Values → Bool
recover_in values = is_given (given values (codes "recover"))

abbrev asks_at : Values → (AskedMeta → Form → Path → Result Asked Text) → Result Asked Text
asks_at values wanted = meta_by values >>= λ meta. form_by (given values (codes "form")) >>= λ form. path_by values >>= λ path. wanted meta form path

-- of several words that can't be read the first one that is read here is wrong
unfoldable pub asks_info : Values → Result Asked Text
asks_info values =
    slot_by (given values (codes "meta")) >>= λ slot. figure_form_by (given values (codes "form")) >>= λ form. file_by values >>= λ file.
    Ok (info file slot form)

unfoldable pub asks_page : Values → Result Asked Text
asks_page values = meta_by values >>= λ meta. id_by values >>= λ id. file_by values >>= λ file. Ok (page file meta id)

unfoldable pub asks_pages : Values → Result Asked Text
asks_pages values = file_by values >>= λ file. Ok (pages file (is_given (given values (codes "map"))))

unfoldable pub asks_check : Values → Result Asked Text
asks_check values =
    meta_by values >>= λ meta. file_by values >>= λ file.
    Ok (check file meta (extent_in (codes "all") values) (is_given (given values (codes "etcd-snapshot"))) (is_given (given values (codes "for-bbolt"))))

unfoldable pub asks_states : Values → Result Asked Text
asks_states values = page_size_by (given values (codes "page-size")) >>= λ size. file_by values >>= λ file. Ok (states file size)

unfoldable pub asks_buckets : Values → Result Asked Text
asks_buckets values =
    meta_by values >>= λ meta. form_by (given values (codes "form")) >>= λ form.
    shown_by (is_given (given values (codes "sizes"))) (recover_in values) >>= λ shown.
    path_by values >>= λ path. file_by values >>= λ file. Ok (buckets file meta path form shown)

unfoldable pub asks_keys : Values → Result Asked Text
asks_keys values =
    asks_at values (λ meta form path. prefix_by values >>= λ prefix. file_by values >>= λ file. Ok (keys file meta path prefix form (recover_in values)))

unfoldable pub asks_get : Values → Result Asked Text
asks_get values =
    asks_at values (λ meta form path. file_by values >>= λ file.
    Ok (get file meta path form (is_given (given values (codes "no-newline"))) (recover_in values)))

unfoldable pub asks_stats : Values → Result Asked Text
asks_stats values =
    meta_by values >>= λ meta. figure_form_by (given values (codes "form")) >>= λ form. path_by values >>= λ path. file_by values >>= λ file.
    Ok (stats file meta form path)

unfoldable pub asks_list : Values → Result Asked Text
asks_list values =
    meta_by values >>= λ meta. list_form_by (given values (codes "form")) >>= λ form. path_by values >>= λ path.
    hex_path_by (given values (codes "from")) >>= λ from.
    file_by values >>= λ file. Ok (list file meta form path from (extent_in (codes "recover") values))

unfoldable pub asks_compact : Values → Result Asked Text
asks_compact values =
    meta_by values >>= λ meta. page_size_by (given values (codes "page-size")) >>= λ size. text_by (codes "output") values >>= λ target.
    file_by values >>= λ file.
    Ok (compact file meta target size (kind_in values) (extent_in (codes "recover") values))

unfoldable pub asks_load : Values → Result Asked Text
asks_load values =
    sequence_by (given values (codes "sequence")) >>= λ sequence. load_size_by (given values (codes "page-size")) >>= λ size.
    text_by (codes "output") values >>= λ target.
    file_by values >>= λ file. Ok (load file target sequence size (kind_in values))

unfoldable pub asks_etcd_revisions : Values → Result Asked Text
asks_etcd_revisions values =
    meta_by values >>= λ meta. form_by (given values (codes "form")) >>= λ form. prefix_by values >>= λ prefix.
    revision_asked (given values (codes "from")) >>= λ from.
    file_by values >>= λ file. Ok (etcd_revisions file meta prefix from form (is_given (given values (codes "values"))))

unfoldable pub asks_etcd_keys : Values → Result Asked Text
asks_etcd_keys values =
    meta_by values >>= λ meta. form_by (given values (codes "form")) >>= λ form. prefix_by values >>= λ prefix.
    revision_asked (given values (codes "at")) >>= λ revision.
    file_by values >>= λ file. Ok (etcd_keys file meta prefix revision form (is_given (given values (codes "values"))))

unfoldable pub asks_etcd_get : Values → Result Asked Text
asks_etcd_get values =
    meta_by values >>= λ meta. form_by (given values (codes "form")) >>= λ form. name_by values >>= λ name.
    revision_asked (given values (codes "at")) >>= λ revision.
    file_by values >>= λ file. Ok (etcd_get file meta name revision form (is_given (given values (codes "no-newline"))))

unfoldable pub asks_etcd_check : Values → Result Asked Text
asks_etcd_check values = meta_by values >>= λ meta. file_by values >>= λ file. Ok (etcd_check file meta)

unfoldable pub asks_etcd_status : Values → Result Asked Text
asks_etcd_status values =
    meta_by values >>= λ meta. figure_form_by (given values (codes "form")) >>= λ form. revision_asked (given values (codes "at")) >>= λ revision.
    file_by values >>= λ file.
    Ok (etcd_status file meta revision form)

unfoldable pub asks_etcd_repair : Values → Result Asked Text
asks_etcd_repair values =
    meta_by values >>= λ meta. page_size_by (given values (codes "page-size")) >>= λ size. text_by (codes "output") values >>= λ target.
    file_by values >>= λ file.
    Ok (etcd_repair file meta target size (repair_kind_by (given values (codes "etcd-snapshot"))) (is_given (given values (codes "search"))))

-- ---- the commands

-- a command by its name and its arguments, and what the words of its line ask for, or which of them can't be read and why
pub record Command : Type 0 where
  pub name : Text
  pub rules : List Rule
  pub asks : Values → Result Asked Text

-- FILE is the first operand of each
abbrev command : Text → List Rule → (Values → Result Asked Text) → Command
command name others asks = record { name = name; rules = needed (operand (codes "FILE")) ∷ others; asks = asks }

-- the commands that print pages and what is wrong with a file
abbrev page_commands : List Command
page_commands =
    command (codes "info") (option (codes "form") ∷ option (codes "meta") ∷ []) asks_info
    ∷ command (codes "page") (needed (operand (codes "ID")) ∷ option (codes "assume-meta") ∷ []) asks_page
    ∷ command (codes "pages") (switch (codes "map") ∷ []) asks_pages
    ∷ command (codes "check")
    (switch (codes "all") ∷ switch (codes "lost-and-found") ∷ switch (codes "for-bbolt") ∷ switch (codes "etcd-snapshot") ∷ metas) asks_check
    ∷ command (codes "states") (option (codes "page-size") ∷ []) asks_states
    ∷ []

-- the commands that print what is in a bucket; `-n` (110) is also written by its name
abbrev bucket_commands : List Command
bucket_commands =
    command (codes "buckets") (parts ∷ switch (codes "sizes") ∷ option (codes "form") ∷ option (codes "parts") ∷ switch (codes "recover") ∷ metas) asks_buckets
    ∷ command (codes "keys")
    (needed parts ∷ option (codes "prefix") ∷ option (codes "form") ∷ option (codes "parts") ∷ switch (codes "recover") ∷ metas) asks_keys
    ∷ command (codes "get")
    (needed parts ∷ by_letter 110 (switch (codes "no-newline")) ∷ option (codes "form") ∷ option (codes "parts") ∷ switch (codes "recover") ∷ metas) asks_get
    ∷ command (codes "stats") (parts ∷ option (codes "form") ∷ option (codes "parts") ∷ metas) asks_stats
    ∷ command (codes "list")
    (parts ∷ option (codes "from") ∷ option (codes "form") ∷ option (codes "parts") ∷ switch (codes "recover") ∷ switch (codes "lost-and-found")
    ∷ metas) asks_list
    ∷ []

-- the commands that write a file
abbrev writing_commands : List Command
writing_commands =
    command (codes "compact")
    (output ∷ option (codes "page-size") ∷ switch (codes "for-bbolt") ∷ switch (codes "etcd-snapshot") ∷ switch (codes "recover")
    ∷ switch (codes "lost-and-found") ∷ metas) asks_compact
    ∷ command (codes "load")
    (output ∷ option (codes "page-size") ∷ switch (codes "for-bbolt") ∷ switch (codes "etcd-snapshot") ∷ option (codes "sequence") ∷ []) asks_load
    ∷ []

-- the commands for etcd's file
abbrev pub etcd_commands : List Command
etcd_commands =
    command (codes "etcd-revisions")
    (option (codes "from") ∷ option (codes "prefix") ∷ switch (codes "values") ∷ option (codes "parts") ∷ option (codes "form") ∷ metas) asks_etcd_revisions
    ∷ command (codes "etcd-keys")
    (option (codes "at") ∷ option (codes "prefix") ∷ switch (codes "values") ∷ option (codes "parts") ∷ option (codes "form") ∷ metas) asks_etcd_keys
    ∷ command (codes "etcd-get")
    (needed (operand (codes "NAME")) ∷ option (codes "at") ∷ by_letter 110 (switch (codes "no-newline")) ∷ option (codes "parts") ∷ option (codes "form")
    ∷ metas) asks_etcd_get
    ∷ command (codes "etcd-check") metas asks_etcd_check
    ∷ command (codes "etcd-status") (option (codes "at") ∷ option (codes "form") ∷ metas) asks_etcd_status
    ∷ command (codes "etcd-repair") (output ∷ option (codes "page-size") ∷ switch (codes "etcd-snapshot") ∷ switch (codes "search") ∷ metas) asks_etcd_repair
    ∷ []

-- all but the commands of pages, and all
abbrev pub later_commands : List Command
later_commands = bucket_commands ++ writing_commands ++ etcd_commands

abbrev pub commands : List Command
commands = page_commands ++ later_commands

abbrev pub lines : List (Text × List Rule)
lines = map (λ (c : Command). (c.name, c.rules)) commands

abbrev pub asked_among : List Command → Text → Values → Result Asked Text
asked_among [] name values = Err (codes "command missing")
asked_among (c ∷ later) name values = if bytes_eq name c.name then c.asks values else asked_among later name values

-- what is asked by the name of a command and its values
abbrev pub asked : Text → Values → Result Asked Text
asked name values = asked_among commands name values
