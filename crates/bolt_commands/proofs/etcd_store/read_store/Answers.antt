use Rattle.std.proofs.Common.{inl, refl}
use Rattle.bolt_commands.proofs.etcd_store.read_store.Goals as goal

pub returns-in-None-clause-refused : goal.returns-in-None-clause-refused
returns-in-None-clause-refused c =
    let read = c.in_ok-read.ensures in
    inl (_, read.sound, rw (c.root-root.ensures.checked, c.root-root.ensures.start, read.bytes) at (rw c.in-None.is at c.bucket.ensures.bucket), refl)
