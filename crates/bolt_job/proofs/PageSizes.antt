-- Page sizes, alone and in an assumed meta, are read of their words.
use Rattle.std.proofs.Common.{◌≡◌, ◌∙◌, ◌&&◌, ◌==◌, Bool, ℕ, Option, Some, None, Result, Ok, Err, codes, length, sym, refl, ap₂, arith, subst}
use Rattle.bolt_job.proofs.Vocabulary.{IfNone, IfSome, IsPageSize, MatchOption, PageSize, after_first, assumed_of, assumed_when, before_first}
use Rattle.bolt_job.proofs.Vocabulary.{drop_all, false_from_ne_true, if◌then◌else◌, is_page_size, list_any, number_in, page_size_asked, page_sizes}
use Rattle.bolt_job.proofs.Vocabulary.{position_or_len}
use Rattle.clap.specs.Words.{Text}
use Rattle.bolt_text.proofs.Exports.{number_is}

tested : (word : Text) (n : ℕ) → number_in word ≡ Some n → is_page_size word ≡ list_any (λ size. size == n) page_sizes
tested word n is = let parts = number_is word n is in ap₂ (λ (b : Bool) (m : ℕ). b && list_any (λ size. size == m) page_sizes) parts.0 parts.1

abbrev size_when : Bool → ℕ → Result ℕ Text
size_when accepted n = if accepted then Ok n else Err (codes "bad page size")

size_read : (word : Text) (n : ℕ) → number_in word ≡ Some n → IsPageSize n → page_size_asked word ≡ Ok n
size_read word n is accepted = ap₂ size_when (tested word n is ∙ accepted) (number_is word n is).1

size_refused : (word : Text) (n : ℕ) → number_in word ≡ Some n → (IsPageSize n → ⊥) → page_size_asked word ≡ Err (codes "bad page size")
size_refused word n is refused = ap₂ size_when (tested word n is ∙ false_from_ne_true _ refused) (number_is word n is).1

pub size_answered : (word : Text) (n : ℕ) (answer : Option PageSize) → number_in word ≡ Some n
    → IfSome answer (λ size. size.bytes ≡ n) → IfNone answer (IsPageSize n → ⊥)
    → MatchOption answer (page_size_asked word ≡ Err (codes "bad page size")) (λ size. page_size_asked word ≡ Ok size.bytes)
size_answered word n None is same refused = size_refused word n is refused
size_answered word n (Some size) is same refused =
    subst (λ (m : ℕ). page_size_asked word ≡ Ok m) (sym same) (size_read word n is (subst IsPageSize same size.accepted))

-- ---- an assumed meta

no_root : (size : Result ℕ Text) → assumed_when size None ≡ Err (codes "bad meta: use PAGE_SIZE:ROOT, and no --meta")
no_root (Ok size) = refl
no_root (Err why) = refl

-- after the end of a word there is no number
pub no_colon : (word : Text) → position_or_len (λ byte. byte == 58) word ≡ length word → assumed_of word ≡ Err (codes "bad meta: use PAGE_SIZE:ROOT, and no --meta")
no_colon word end = grind (arith, after_first, drop_all, position_or_len, before_first, no_root)
