use Rattle.std.proofs.Common.{◌≡◌, drop, map, not}
use Rattle.std.specs.List.{list_any}
use Rattle.bolt_etcd.specs.{Store.CurrentKeys.is_nameless, Wire.Revisions.name_of, Wire.ShownRevisions.shown_revision}
use Rattle.bolt_etcd.proofs.store.hash_kv.HashBounds.has_current.Given as goal

-- those so far have names without bytes
abbrev pub invariant-rest : goal.invariant-rest
invariant-rest l =
    list_any (λ r. not (is_nameless (name_of r))) (map shown_revision (drop l.revision-index l.self.current.now))
    ≡ list_any (λ r. not (is_nameless (name_of r))) (map shown_revision l.self.current.now)
