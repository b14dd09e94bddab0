-- From the search and the test of the accounts to the whole file.
use Rattle.std.proofs.Common.{◌≡◌, ap, arith, ℕ, ◌↔◌, ◌≢◌, List, [], Option, Some, None, MatchOption, true, length, subst}
use Rattle.bolt_check.proofs.Words.{AreAccountFindings, Finding, HasAccounts, HasRightAccounts, IsClaimed, IsSound, IsUsed, Meta, PageUse}
use Rattle.bolt_check.proofs.{AccountsAlong.account_findings_along, AccountsAlong.has_accounts_along, AccountsAlong.own_freelist}
use Rattle.bolt_check.proofs.{Lawful.sound_reports_nothing}
use Rattle.bolt_check.specs.{Private.SearchFaults.is_memory, ShownFindings.findings_in, Sound.IsRefusedFor}
use Rattle.bolt_check.specs.{declared.check_fault.CheckFault.CheckFault, declared.finding_list.Findings.Findings}

pub right_of : (file : List ℕ) (meta : Meta) (table : List PageUse) → ((n : ℕ) → IsClaimed table n ↔ IsUsed file meta n)
    → HasAccounts file meta (IsClaimed table) → HasRightAccounts file meta
right_of file meta table same = has_accounts_along file file meta (own_freelist file meta) (IsClaimed table) (IsUsed file meta) same

pub wrong_of : (file : List ℕ) (meta : Meta) (table : List PageUse) → ((n : ℕ) → IsClaimed table n ↔ IsUsed file meta n)
    → (HasAccounts file meta (IsClaimed table) → ⊥) → HasRightAccounts file meta → ⊥
wrong_of file meta table same wrong right =
    wrong (has_accounts_along file file meta (own_freelist file meta) (IsUsed file meta) (IsClaimed table) (λ n. ((same n).1, (same n).0)) right)

pub findings_of_file : (file : List ℕ) (meta : Meta) (table : List PageUse) (reported : List Finding)
    → ((n : ℕ) → IsClaimed table n ↔ IsUsed file meta n)
    → AreAccountFindings file meta (IsClaimed table) reported → AreAccountFindings file meta (IsUsed file meta) reported
findings_of_file file meta table reported same = account_findings_along file meta (IsClaimed table) (IsUsed file meta) same reported

-- a file that is sound is refused only because memory ran out
pub memory_alone : (file : List ℕ) (meta : Meta) (fault : CheckFault) → IsSound file meta true → IsRefusedFor file meta true fault
    → is_memory fault ≡ true
memory_alone file meta fault sound first = grind (arith, sound_reports_nothing)

pub none_of : (found : Option Findings) (items : List Finding) → found ≡ None
    → MatchOption found (items ≡ []) (λ findings. findings_in findings ≡ items) → items ≡ []
none_of found items none is = grind arith

pub some_of : (found : Option Findings) (items : List Finding) {findings : Findings} → found ≡ Some findings
    → MatchOption found (items ≡ []) (λ findings. findings_in findings ≡ items) → findings_in findings ≡ items
some_of None items {findings} some is = absurd (let f : None ≡ Some findings = some in cc)
some_of (Some found) items {findings} some is =
    let f : Some found ≡ Some findings = some in let same : found ≡ findings = cc in subst (λ (f : Findings). findings_in f ≡ items) same is

pub some_in : (findings : Findings) → findings_in findings ≢ []
unfolding findings_in
some_in findings none = let some = findings.some in let l = ap length none in omega (arith, some, l)
