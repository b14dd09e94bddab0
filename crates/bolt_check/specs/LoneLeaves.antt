-- Intact leaves that nothing needs to lead to: docs/RECOVERY.md, "Found pages".
use Rattle.std.specs.Prelude.{◌≡◌, ◌≢◌, ◌≤◌, ℕ, List, [], None, Some, IsTrue}
use Rattle.bolt_format.specs.{Freelists.free_ids_of, Freelists.freelist_fault_of, declared.meta.Meta.Meta}
use Rattle.bolt_check.specs.{Accounts.times_in, Findings.PagePasses, Nodes.Nodes, Ways.root_spot}

-- Page n is a good leaf with an element, its keys rise, and its span shares no page with those that were claimed before: the tests of a bucket's
-- root page find nothing at it.
pub record IsLoneLeaf (nodes : Nodes) (before : ℕ → Type 0) (n : ℕ) : Type 0 where
  pub passes : PagePasses nodes before (root_spot n)
  pub leaf : IsTrue passes.node.is_leaf
  pub some : passes.node.entries ≢ []

-- Page n is listed as free. A freelist that wasn't written, or isn't good, lists nothing.
pub record IsListedFree (file : List ℕ) (meta : Meta) (n : ℕ) : Type 0 where
  pub ids : List ℕ
  pub good : freelist_fault_of file meta ≡ None
  pub listed : free_ids_of file meta ≡ Some ids
  pub times : 1 ≤ times_in ids n
