use Rattle.std.proofs.Common.{◌≡◌, List, Ok}
use Rattle.std.specs.Prelude.{⊤}
use Rattle.bolt_tree.specs.Listing.{Member}
use Rattle.bolt_layout.specs.Laid.{Placed}
use Rattle.bolt_bulk.specs.Private.{pass_depth, HasLeft, IsNoDeeper, IsReady, IsSameWriter, Steps, Wanted}
use Rattle.bolt_bulk.proofs.pass.Pass.leave_to.Given as goal

-- the steps so far are one, and the same members are left
abbrev pub invariant-buckets : goal.invariant-buckets
invariant-buckets g l = record {
  setup : l.self.setup ≡ l.initial.self.setup;
  same : IsSameWriter l.initial.writer l.writer;
  ready : IsReady l.self;
  steps : (wanted : Wanted) (members : List Member) (put : List Placed) → HasLeft wanted l.initial.self l.initial.writer.next members put
      → IsNoDeeper l.depth members
      → Steps {A = ⊤} wanted g.S.Sink l.initial.writer.sink.now l.writer.sink.now l.initial.self.setup put (HasLeft wanted l.self l.writer.next members)
      (Ok tt);
}

abbrev pub decreases-buckets : goal.decreases-buckets
decreases-buckets g l = pass_depth l.self
