-- The words of faults: docs/COMMANDS.md, "Errors".
use Rattle.std.specs.Prelude.{◌==◌, ℕ, List, [], ◌∷◌, ◌++◌, codes, decimal, if◌then◌else◌}
use Rattle.bolt_format.specs.declared.page_fault.PageFault.{PageFault}
use Rattle.bolt_format.specs.declared.page_fault.TheConstants.PageFault.{RANGE, CUT, ID, PAGE_KIND, ELEMENT_CUT, DATA_ORDER, KEY_LENGTH, VALUE_LENGTH}
use Rattle.bolt_format.specs.declared.page_fault.TheConstants.PageFault.{LEAF_FLAGS, BUCKET_SHORT, INLINE_PAGE, INLINE_NESTED}
use Rattle.bolt_format.specs.declared.meta.MetaFault.{MetaFault}
use Rattle.bolt_format.specs.declared.meta.MetaFault.TheVariants.{Cut, Magic, Version, Sum, PageSize}
use Rattle.bolt_check.specs.declared.finding.Finding.{Finding}
use Rattle.bolt_check.specs.declared.finding.TheConstants.Finding.{TWICE, ORDER, BELOW_PARENT, ABOVE_NEXT, EMPTY_BRANCH, TOO_DEEP, FREED_TWICE}
use Rattle.bolt_check.specs.declared.finding.TheConstants.Finding.{REACHED_FREED, UNREACHABLE, FREE_RANGE, ONE_CHILD, ROOT_VALUE, LARGE_KEY}
use Rattle.bolt_check.specs.declared.finding.TheConstants.Finding.{FIRST_KEY, LEAF_DEPTH, INLINE_NUMBER}
use Rattle.bolt_etcd.specs.declared.check.snapshot.SnapshotFault.{SnapshotFault}
use Rattle.bolt_etcd.specs.declared.check.snapshot.SnapshotFault.TheVariants.{HashMissing, HashCutOff, HashDiffers}
use Rattle.bolt_text.specs.Lines.{line}

-- why a file without a valid meta is refused
abbrev pub meta_fault_words : MetaFault → List ℕ
meta_fault_words Cut = codes "file too short"
meta_fault_words Magic = codes "invalid database"
meta_fault_words Version = codes "version mismatch"
meta_fault_words Sum = codes "checksum error"
meta_fault_words PageSize = codes "page size refused"

abbrev pub meta_fault_text : MetaFault → List ℕ
meta_fault_text fault = line (meta_fault_words fault)

-- why a file is no snapshot
abbrev pub snapshot_fault_text : SnapshotFault → List ℕ
snapshot_fault_text HashMissing = line (codes "snapshot hash missing")
snapshot_fault_text HashCutOff = line (codes "snapshot hash cut off")
snapshot_fault_text HashDiffers = line (codes "snapshot hash differs")

-- The code of a fault, and its words.
pub record FaultWords : Type 0 where
  pub code : ℕ
  pub words : List ℕ

abbrev pub fault_named : ℕ → List ℕ → FaultWords
fault_named code words = record { code = code; words = words }

-- the words of a code in a table, and none where it isn't there
abbrev pub words_in : List FaultWords → ℕ → List ℕ
words_in [] code = []
words_in (entry ∷ table) code = if code == entry.code then entry.words else words_in table code

-- the faults of one page
abbrev pub page_fault_table : List FaultWords
page_fault_table =
    fault_named RANGE (codes "out of range")
    ∷ fault_named CUT (codes "cut off")
    ∷ fault_named ID (codes "wrong page number")
    ∷ fault_named PAGE_KIND (codes "invalid type")
    ∷ fault_named ELEMENT_CUT (codes "element past the page")
    ∷ fault_named DATA_ORDER (codes "element data out of order")
    ∷ fault_named KEY_LENGTH (codes "key length refused")
    ∷ fault_named VALUE_LENGTH (codes "value length refused")
    ∷ fault_named LEAF_FLAGS (codes "leaf flags refused")
    ∷ fault_named BUCKET_SHORT (codes "bucket value too short")
    ∷ fault_named INLINE_PAGE (codes "inline page refused")
    ∷ fault_named INLINE_NESTED (codes "bucket in an inline bucket")
    ∷ []

unfoldable pub page_fault_words : ℕ → List ℕ
page_fault_words code = words_in page_fault_table code

-- why a page is refused
abbrev pub page_fault_text : PageFault → List ℕ
page_fault_text fault = line (codes "page " ++ decimal fault.page ++ codes ": " ++ page_fault_words fault.number)

-- the findings of the structure, of the accounts, and for bbolt
abbrev pub finding_table : List FaultWords
finding_table =
    fault_named TWICE (codes "referenced twice")
    ∷ fault_named ORDER (codes "keys not rising")
    ∷ fault_named BELOW_PARENT (codes "key below its branch key")
    ∷ fault_named ABOVE_NEXT (codes "key not below the next branch key")
    ∷ fault_named EMPTY_BRANCH (codes "empty branch")
    ∷ fault_named TOO_DEEP (codes "tree too deep")
    ∷ fault_named FREED_TWICE (codes "freed twice")
    ∷ fault_named REACHED_FREED (codes "reachable freed")
    ∷ fault_named UNREACHABLE (codes "unreachable unfreed")
    ∷ fault_named FREE_RANGE (codes "free page out of range")
    ∷ fault_named ONE_CHILD (codes "branch of one child")
    ∷ fault_named ROOT_VALUE (codes "value in the root bucket")
    ∷ fault_named LARGE_KEY (codes "key too large for bbolt")
    ∷ fault_named FIRST_KEY (codes "first key isn't its branch key")
    ∷ fault_named LEAF_DEPTH (codes "leaf at another depth")
    ∷ fault_named INLINE_NUMBER (codes "inline page with a number")
    ∷ page_fault_table

unfoldable pub finding_words : ℕ → List ℕ
finding_words code = words_in finding_table code

-- a finding is of a page, or of several in a row
unfoldable pub pages_words : ℕ → ℕ → List ℕ
pages_words page last = if page == last then codes "page " ++ decimal page else codes "pages " ++ decimal page ++ codes " to " ++ decimal last

abbrev pub pages_sentence : (page last : ℕ) → List ℕ → List ℕ
pages_sentence page last said = pages_words page last ++ codes ": " ++ said

abbrev pub finding_sentence : Finding → List ℕ
finding_sentence finding = pages_sentence finding.page finding.last (finding_words finding.number)

abbrev pub finding_text : Finding → List ℕ
finding_text finding = line (finding_sentence finding)

-- the line with the number of findings
abbrev pub count_line : ℕ → List ℕ
count_line count = decimal count ++ codes " errors found\n"
