use Rattle.std.proofs.Common.{◌≡◌, ◌≢◌, ◌∷◌, ℕ, [], List, None, Some, Vec, Global, Result, Ok, Err, IfOk, OnOk, sym}
use Rattle.bolt_check.proofs.Words.{AllocError, AreAccountFindings, AreAllFindings, ClaimsFreelist, ClaimsUses, Finding, free_ids_of}
use Rattle.bolt_check.proofs.Words.{freelist_fault_of, HasAccounts, IfOk-weaker, is_used, IsClaimed, Meta, PageUse, shown_ids, times_in, use_at}
use Rattle.bolt_check.proofs.UsesClaimed.{uses_listed}
use Rattle.bolt_check.proofs.AccountLemmas.{accounts_right, accounts_reported, accounts_wrong, claims_reported, reported_fault, reported_shared}
use Rattle.bolt_check.proofs.accounts.test_accounts.Goals as goal

pub returns-in-Err-clause-reported : goal.returns-in-Err-clause-reported
returns-in-Err-clause-reported c =
    let file = c.args.file.now in
    let meta = c.args.meta.now in
    IfOk-weaker c.one_finding.result (λ reported. reported.items ≡ c.from.result ∷ [])
    (λ reported. reported.items ≢ [] → AreAccountFindings file meta (IsClaimed c.args.table.now) reported.items)
    (λ reported e some.
    rw (e, c.from.ensures, c.in-Err.ensures.fault.1) (reported_fault file meta (IsClaimed c.args.table.now) c.in-Err.fault.number c.in-Err.ensures.fault.0))
    c.one_finding.ensures

pub returns-in-Some-clause-reported : goal.returns-in-Some-clause-reported
returns-in-Some-clause-reported c =
    let file = c.args.file.now in
    let meta = c.args.meta.now in
    let shared = c.in-Some.ensures.shared in
    IfOk-weaker c.one_finding-in-Some.result (λ reported. reported.items ≡ c.of_page.result ∷ [])
    (λ reported. reported.items ≢ [] → AreAccountFindings file meta (IsClaimed c.args.table.now) reported.items)
    (λ reported e some. rw (e, c.of_page.ensures) (reported_shared file meta (IsClaimed c.args.table.now) c.in-Some.page shared.0 shared.1 shared.2))
    c.one_finding-in-Some.ensures

-- what is reported of the ids is reported of the accounts
accounts_of : (file : List ℕ) (meta : Meta) (old mid new : List PageUse) (ids : List ℕ) (r : Result (Vec Finding Global) AllocError)
    → freelist_fault_of file meta ≡ None → free_ids_of file meta ≡ Some ids → ClaimsFreelist file meta old mid
    → IfOk r (λ reported. AreAllFindings meta.high_water (IsClaimed mid) (times_in ids) reported.items)
    → OnOk r ((n : ℕ) → is_used (use_at new n) ≡ is_used (use_at mid n)) → OnOk r ((n : ℕ) → times_in ids n ≡ 0 → use_at new n ≡ use_at mid n)
    → IfOk r (λ reported. reported.items ≡ [] → HasAccounts file meta (IsClaimed old))
    × IfOk r (λ reported. reported.items ≢ [] → HasAccounts file meta (IsClaimed old) → ⊥)
    × IfOk r (λ reported. reported.items ≢ [] → AreAccountFindings file meta (IsClaimed old) reported.items) × IfOk r
    (λ reported. reported.items ≡ [] → ClaimsUses file meta old new)
accounts_of file meta old mid new ids (Err e) good are claims all used kept = (tt, tt, tt, tt)
accounts_of file meta old mid new ids (Ok reported) good are claims all used kept =
    let told = claims_reported file meta old mid ids reported.items claims all in
    let right = accounts_right file meta (IsClaimed old) ids good are claims.apart reported.items told in (
      right,
      accounts_wrong file meta (IsClaimed old) ids good are claims.apart reported.items told,
      λ some. accounts_reported file meta (IsClaimed old) ids good are claims.apart reported.items told,
      λ none. uses_listed file meta old mid claims new ids ((right none).lists ids are) used kept,
    )

pub returns-in-None : goal.returns-in-None
returns-in-None c =
    let (right, wrong, reported, uses) = accounts_of c.args.file.now c.args.meta.now c.args.table.now c.claim_freelist.new.table c.test_ids.new.table
    (shown_ids c.in-Ok-Some.ids) c.test_ids.result
    c.in-Ok-Some.ensures.good (sym
    (rw c.in-Ok-Some.field-0-is at c.in-Ok-Some.ensures.ids)) c.in-None.ensures.claimed c.test_ids.ensures.reported c.test_ids.ensures.used
    c.test_ids.ensures.kept in
    record { right = right; wrong = wrong; reported = reported; uses = uses }
