-- Jobs that need the metas of FILE alone, and how many bytes these take.
use Rattle.std.proofs.Common.{◌≡◌, ◌≤◌, ◌+◌, ◌-◌, ℕ, List, true, None, arith, refl, subst, inl, inr}
use Rattle.bolt_cli.proofs.Vocabulary.{Job, needs_metas_alone, target_name}
use Rattle.bolt_format.specs.Metas.{IsMetasEnd}
use Rattle.bolt_job.specs.declared.job.Job.TheVariants as job

-- they have no OUT
pub metas_have_no_target : (j : Job) → needs_metas_alone j ≡ true → target_name j ≡ None
metas_have_no_target (job.Info j) alone = refl
metas_have_no_target j alone = absurd (cc)

-- they end after the first record
pub metas_end_long : (file : List ℕ) (end : ℕ) → IsMetasEnd file end → 80 ≤ end
metas_end_long file end (inl (zero, is, same)) = omega (arith, same)
metas_end_long file end (inr (none, same)) = omega (arith, same)

-- what is left to be read after the first 80 bytes
pub metas_rest : (file : List ℕ) (end : ℕ) → IsMetasEnd file end → IsMetasEnd file (80 + (end - 80))
metas_rest file end is =
    let long = metas_end_long file end is in
    let same : end ≡ 80 + (end - 80) = omega (arith, long) in
    subst (IsMetasEnd file) same is
