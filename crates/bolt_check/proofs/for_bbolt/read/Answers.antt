use Rattle.bolt_check.proofs.Words.{props, ∥∥₁_elim, ∥∥₁_map}
use Rattle.bolt_check.proofs.for_bbolt.read.Goals as goal

pub known_page-page-requires : goal.known_page-page-requires
known_page-page-requires c = ∥∥₁_map (rw c.in-Page.is at c.requires) (λ readable. (_, readable.1))

pub page_leaves-leaves-requires : goal.page_leaves-leaves-requires
page_leaves-leaves-requires c = ∥∥₁_map (rw c.in-Page.is at c.requires) (λ readable. (_, readable.1))

pub push_unread-requires : goal.push_unread-requires
push_unread-requires c = ∥∥₁_elim (rw c.in-Page.is at c.requires) (Prim.hlevel props) (λ readable. readable.0)
