-- A pass and the members of the listing that are left to it.
use Rattle.std.proofs.Common.{◌≡◌, ℕ, suc, ◌≤◌, ◌<◌, List, [], ◌∷◌, length, Ok, refl, arith, subst}
use Rattle.std.proofs.lemmas.List.{length-map, length-reverse}
use Rattle.std.specs.Prelude.{⊤}
use Rattle.bolt_format.specs.{declared.sink.Sink.Ghosts}
use Rattle.bolt_tree.specs.{Listing.Member, Tree.Tree, Tree.end}
use Rattle.bolt_layout.specs.Laid.{Placed}
use Rattle.bolt_bulk.specs.Private.{AreWaiting, pass_depth, BucketFrame, HasLeft, PassIsAt, IsNoDeeper, left_in, Parent, Steps, Wanted}
use Rattle.bolt_bulk.specs.{declared.pass.Pass.Pass, declared.waiting_bucket.WaitingBucket.WaitingBucket}
use Rattle.bolt_bulk.proofs.{Members.none_at_all, Members.none_further, PassAt.steps_none}

-- The depth that the code counts is that of the parents.
waiting_frames : (waiting : List WaitingBucket) (frames : List BucketFrame) → AreWaiting waiting frames → length waiting ≡ length frames
waiting_frames (w ∷ waiting) (frame ∷ frames) (runs, key, sequence, others) = let ih = waiting_frames waiting frames others in omega arith
waiting_frames waiting frames are = grind arith

pub depth_parents : (wanted : Wanted) (pass : Pass) (next : ℕ) (parents : List Parent) (left : Tree) (put : List Placed)
    → PassIsAt wanted pass next parents left put → pass_depth pass ≡ suc (length parents)
depth_parents wanted pass next parents left put is = grind (arith, waiting_frames, length-reverse, length-map)

pub left_same : {wanted : Wanted} {pass : Pass} {next : ℕ} {members others : List Member} {put : List Placed} → members ≡ others
    → HasLeft wanted pass next members put → HasLeft wanted pass next others put
left_same {wanted} {pass} {next} {put = put} same has = subst (λ (ms : List Member). HasLeft wanted pass next ms put) same has

-- nothing was done yet
pub steps_begun : {S : Type 0} {sink : Ghosts S} {wanted : Wanted} {pass : Pass} {next : ℕ} {members : List Member} {put : List Placed} {old : S}
    → HasLeft wanted pass next members put
    → Steps {A = ⊤} wanted sink old old pass.setup put (HasLeft wanted pass next members) (Ok tt)
steps_begun has = steps_none (Ok tt) has.at tt has

-- The next member is further out, or there is none: the innermost bucket has no more.
no_more : (depth : ℕ) (parents : List Parent) (left : Tree) (members : List Member) → left_in parents left ≡ members → IsNoDeeper depth members
    → depth < suc (length parents) → left ≡ end
no_more depth parents left members is shallow deep = grind (arith, none_at_all, none_further)

some_parent : (parents : List Parent) → 1 < suc (length parents) → (parent : Parent) × (others : List Parent) × (parents ≡ parent ∷ others)
some_parent [] deep = absurd (omega arith)
some_parent (parent ∷ others) deep = (parent, others, refl)

pub record HasEnded (wanted : Wanted) (pass : Pass) (next : ℕ) (members : List Member) (put : List Placed) : Type 0 where
  pub parent : Parent
  pub parents : List Parent
  pub at : PassIsAt wanted pass next (parent ∷ parents) end put
  pub members_are : left_in parents parent.after ≡ members

pub has_ended : (depth : ℕ) (wanted : Wanted) (pass : Pass) (next : ℕ) (members : List Member) (put : List Placed) → HasLeft wanted pass next members put
    → IsNoDeeper depth members → 1 ≤ depth → depth < pass_depth pass
    → HasEnded wanted pass next members put
has_ended depth wanted pass next members put has shallow some deep =
    let d = depth_parents wanted pass next has.parents has.left put has.at in
    grind (arith, no_more, some_parent)

-- a bucket was left
pub left_out : (wanted : Wanted) (pass : Pass) (next : ℕ) (parent : Parent) (parents : List Parent) (members : List Member) (put : List Placed)
    → left_in parents parent.after ≡ members → PassIsAt wanted pass next parents parent.after put
    → HasLeft wanted pass next members put
left_out wanted pass next parent parents members put is at = record { parents = parents; left = parent.after; at = at; members_are = is }
