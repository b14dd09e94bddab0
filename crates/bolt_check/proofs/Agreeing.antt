-- Two files that agree under a meta: their pages show the same or fail the same test, and so do their freelists. So the trees and the accounts
-- of both are right, or of neither. For the crates above: where bytes are added that no page has, or left out, only this is to be shown.
use Rattle.std.proofs.Common.{arith, ◌≡◌, ◌↔◌, ℕ, List, Option, refl, subst, sym}
use Rattle.std.proofs.Math.Path.{fun_ext}
use Rattle.bolt_check.proofs.{AccountsAlong.SameFreelist, AccountsAlong.has_accounts_along}
use Rattle.bolt_check.proofs.Words.{HasRightAccounts, HasShape, HasSoundTrees, IsUsed, Meta, Nodes, node_at, page_at, page_fault, PageView}

pub record Agree (file other : List ℕ) (meta : Meta) : Type 0 where
  pub shown : (n : ℕ) → page_at other meta n ≡ page_at file meta n
  pub fault : (n : ℕ) → page_fault other meta n ≡ page_fault file meta n
  pub freelist : SameFreelist file other meta

module _ (file other : List ℕ) (meta : Meta) (agree : Agree file other meta) where
  pub same_pages : ◌≡◌ {A = ℕ → Option PageView} (page_at other meta) (page_at file meta)
  same_pages = fun_ext agree.shown

  node_same : (n : ℕ) → node_at other meta n ≡ node_at file meta n
  unfolding node_at
  node_same n = rw (agree.shown n, agree.fault n) refl

  pub same_nodes : ◌≡◌ {A = Nodes} (node_at other meta) (node_at file meta)
  same_nodes = fun_ext node_same

  pub trees_along : HasSoundTrees file meta → HasSoundTrees other meta
  trees_along trees = subst (λ (nodes : Nodes). HasShape nodes meta.root) (sym same_nodes) trees

  used_along : (n : ℕ) → IsUsed file meta n ↔ IsUsed other meta n
  used_along n = grind (arith, same_nodes)

  pub accounts_along : HasRightAccounts file meta → HasRightAccounts other meta
  accounts_along right = has_accounts_along file other meta agree.freelist (IsUsed file meta) (IsUsed other meta) used_along right
