-- What the code has in its hands of an entry that isn't a revision, and of a revision.
use Rattle.std.proofs.Common.{◌≡◌, true, false, Option, Some, None, sym}
use Rattle.std.specs.Option.{is_some, option_map}
use Rattle.bolt_etcd.specs.{Wire.UnreadEntries.UnreadView, Wire.UnreadEntries.shown_unread, declared.wire.unread_entry.UnreadEntry.UnreadEntry}

pub none_other : (o : Option UnreadEntry) (v : Option UnreadView) → is_some o ≡ false → option_map shown_unread o ≡ v → v ≡ None
none_other None v none is = sym is
none_other (Some x) v none is = cc

pub some_other : (P : Option UnreadView → Type 0) (o : Option UnreadEntry) (v : Option UnreadView) → is_some o ≡ true → option_map shown_unread o ≡ v
    → ((x : UnreadView) → v ≡ Some x → P (Some x)) → P (option_map shown_unread o)
some_other P None v some is h = cc
some_other P (Some x) v some is h = h (shown_unread x) (sym is)
