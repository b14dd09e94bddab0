use Rattle.std.proofs.Common.{ℕ, suc, ◌+◌, ◌≡◌, [], refl, subst, arith}
use Rattle.bolt_check.proofs.{Words.head_root, Words.IsOnWay, Words.ne_eqb, Words.root_spot, TreePages.node_is, TreePages.on_bucket}
use Rattle.bolt_check.proofs.{TreePages.on_child}
use Rattle.bolt_format.specs.declared.header.Kind.TheVariants as kind
use Rattle.bolt_check.proofs.laws.ways_go_on.Goals as goal

pub returns : goal.returns
returns c = record {
  root = λ file meta. record { way = []; spot = root_spot meta.root; led = refl; is = refl; deep = refl };
  child = λ file meta n depth i view e on at is g.
      let next : suc depth ≡ depth + 1 = omega arith in
      subst (λ (d : ℕ). IsOnWay file meta e.child d) next (on_child file meta n depth i view e on (node_is file meta n view kind.Branch at is) g);
  bucket = λ file meta n depth i view e on at is g bucket own.
      on_bucket file meta n depth i view e on (node_is file meta n view kind.Leaf at is) g bucket (ne_eqb (head_root e.value) 0 own);
}
