-- An element that is a bucket has the value of one.
use Rattle.std.specs.Prelude.{IfSome, IsTrue, Option}
use Rattle.bolt_format.specs.{Elements.IsBucketValue, declared.element.Leaf.Leaf}

abbrev pub HasBucketValue : Option Leaf → Type 0
HasBucketValue found = IfSome found (λ leaf. IsTrue leaf.is_bucket → IsBucketValue leaf.value.now)
