-- What the code has in its hands of an entry, if that has a number, and if it has none.
use Rattle.std.proofs.Common.{◌≡◌, true, false, Option, Some, None, refl, sym, subst}
use Rattle.std.specs.Option.{is_some, option_map}
use Rattle.bolt_etcd.specs.{Wire.Revisions.RevisionView, declared.wire.revision_key.RevisionKey.RevisionKey}

abbrev key_of : RevisionView → RevisionKey
key_of r = r.key

pub none_numbered : (o : Option RevisionKey) (v : Option RevisionView) → is_some o ≡ false → o ≡ option_map key_of v → v ≡ None
none_numbered o None none is = refl
none_numbered o (Some r) none is = cc

pub some_numbered : (P : Option RevisionKey → Type 0) (o : Option RevisionKey) (v : Option RevisionView) → is_some o ≡ true → o ≡ option_map key_of v
    → ((r : RevisionView) → v ≡ Some r → P (Some r.key)) → P o
some_numbered P o None some is h = cc
some_numbered P o (Some r) some is h = subst P (sym is) (h r refl)
