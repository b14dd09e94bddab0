use Rattle.std.proofs.Common.{◌≡◌, ℕ, ap₂, subst}
use Rattle.bolt_check.specs.Keys.{Key}
use Rattle.bolt_tree.specs.{BucketViews.BucketView, BucketViews.bucket_in, CursorBounds.OpensSeek}
use Rattle.bolt_etcd.specs.Store.RevisionsLeft.{pass_viewers}
use Rattle.bolt_etcd.proofs.store.revisions.Revisions.from.Goals as goal

same_seek : (a b : BucketView) (key asked : Key) (opened old new : ℕ) → a ≡ b → key ≡ asked → opened ≡ old → OpensSeek a key opened new
    → OpensSeek b asked old new
same_seek a b key asked opened old new bucket keys none opens =
    subst (λ (m : ℕ). OpensSeek b asked m new) none
    (subst (λ (k : Key). OpensSeek b k opened new) keys (subst (λ (view : BucketView). OpensSeek view key opened new) bucket opens))

pub returns-clause-opens : goal.returns-clause-opens
unfolding pass_viewers
returns-clause-opens c = λ n opens.
    same_seek _ _ _ _ _ _ n (ap₂ bucket_in c.cursor.ensures.checked c.cursor.ensures.start) c.to_be_bytes.ensures c.cursor.ensures.opened opens
