-- What is known of a file that is read, under whatever meta.
use Rattle.std.proofs.Common.{◌≡◌, ◌<◌, arith, ℕ, List, Result, Ok, Err, IsTrue, ap, inl, inr, refl, subst, sym, true}
use Rattle.bolt_commands.proofs.Vocabulary.{Active, Assumed, CheckFault, Checked, Failure, HasSoundTrees, InSlot, IsErrAnd, IsFailureOf, IsInSlot}
use Rattle.bolt_commands.proofs.Vocabulary.{IsMeta, IsMetaOf, IsPageSize, IsReadUnder, Meta, MetaChoice, One, Slot, Zero, bytes_of, meta_of}
use Rattle.bolt_commands.proofs.Vocabulary.{HasRightAccounts, IsActive, IsRefused, IsRefusedUnder, IsFirstFinding, IsSound, counts_accounts}
use Rattle.bolt_check.specs.declared.check_fault.CheckFault.TheVariants as check
use Rattle.bolt_format.proofs.Exports.{size_bounds}

pub read_trees : (file : List ℕ) (choice : MetaChoice) (meta : Meta) → IsReadUnder file choice meta → HasSoundTrees file meta
read_trees file choice meta under = under.1

pub read_meta : (file : List ℕ) (choice : MetaChoice) (meta : Meta) → IsReadUnder file choice meta → IsMetaOf file choice meta
read_meta file choice meta under = under.0

-- ---- a file that is sound for its active meta, or refused

pub read_active : (file : List ℕ) (slot : Slot) (meta : Meta) → IsActive file slot meta → IsSound file meta true → IsReadUnder file Active meta
read_active file slot meta chosen sound = ((slot, chosen), sound.trees, sound.right)

active_of : (file : List ℕ) (P : Meta → Type 0) → (slot : Slot) × (meta : Meta) × IsActive file slot meta × P meta
    → (meta : Meta) × IsMetaOf file Active meta × P meta
active_of file P (slot, meta, chosen, rest) = (meta, (slot, chosen), rest)

pub refused_active : (file : List ℕ) (fault : CheckFault) → IsRefused file fault → IsRefusedUnder file Active fault
refused_active file (check.Open fault) is = is
refused_active file (check.Structure x) is = active_of file (λ meta. IsFirstFinding file meta x) is
refused_active file (check.Accounts findings) (another, other, is, (own, wrong, are, some)) = (refl, (other, (another, is), (own, wrong, are, some)))
refused_active file check.Memory is = tt

-- accounts count only under the active meta
pub no_accounts : (file : List ℕ) (choice : MetaChoice) (meta : Meta) → (choice ≡ Active → ⊥) → IsTrue (counts_accounts choice)
    → HasRightAccounts file meta
no_accounts file Active meta named counts = absurd (named refl)
no_accounts file (InSlot slot) meta named counts = absurd (cc)
no_accounts file (Assumed assumed) meta named counts = absurd (cc)

pub own_trees : (file : List ℕ) (choice : MetaChoice) (checked : Checked) → bytes_of checked ≡ file → IsReadUnder file choice (meta_of checked)
    → HasSoundTrees (bytes_of checked) (meta_of checked)
own_trees file choice checked same under = subst (λ (f : List ℕ). HasSoundTrees f (meta_of checked)) (sym same) (read_trees file choice (meta_of checked) under)

-- ---- the page size

meta_page_size : (file : List ℕ) (at : ℕ) (meta : Meta) → IsMeta file at meta → IsPageSize meta.page_size
meta_page_size file at meta is = subst IsPageSize (sym (ap (λ (m : Meta). m.page_size) is.fields)) is.size

slot_page_size : (file : List ℕ) (slot : Slot) (meta : Meta) → IsInSlot file slot meta → IsPageSize meta.page_size
slot_page_size file Zero meta is = meta_page_size file 0 meta is
slot_page_size file One meta (inl is) = meta_page_size file _ meta is.2
slot_page_size file One meta (inr is) = meta_page_size file is.1.at meta is.1.valid

pub choice_page_size : (file : List ℕ) (choice : MetaChoice) (meta : Meta) → IsMetaOf file choice meta → IsPageSize meta.page_size
choice_page_size file Active meta (slot, chosen) = slot_page_size file slot meta chosen.valid
choice_page_size file (InSlot slot) meta is = slot_page_size file slot meta is
choice_page_size file (Assumed assumed) meta same = subst (λ (m : Meta). IsPageSize m.page_size) (sym same) assumed.page_size.accepted

pub some_page_size : (file : List ℕ) (choice : MetaChoice) (meta : Meta) → IsMetaOf file choice meta → 0 < meta.page_size
some_page_size file choice meta is = let (least, most) = size_bounds meta.page_size (choice_page_size file choice meta is) in omega (arith, least)

-- ---- why the file is refused, or nothing of it is recovered

-- only the first finding is reported
pub failure_named : {A : Type 0} (fault : CheckFault) (ending : Result A Failure) → IsErrAnd ending (λ said. IsFailureOf fault said)
    → (failure : Failure) × IsFailureOf fault failure × (ending ≡ Err failure)
failure_named fault (Ok x) names = absurd names
failure_named fault (Err said) names = (said, names, refl)
