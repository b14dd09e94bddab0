-- The file is read under the same meta.
use Rattle.std.proofs.Common.{◌≡◌, List, subst₂, ℕ}
use Rattle.bolt_recover.proofs.Words.{ForLosses, LossView, Meta, recovery_losses}
use Rattle.bolt_recover.proofs.recovery.RecoveryMembers.next.Goals as goal

pub returns-clause-same_end : goal.returns-clause-same_end
returns-clause-same_end c = λ end h.
    subst₂ (λ (file : List ℕ) (meta : Meta). ForLosses file meta (λ (losses : List LossView). recovery_losses end ≡ losses)) c.next.ensures.file
    c.next.ensures.meta h
