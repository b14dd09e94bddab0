-- Whether FILE was changed while it was read.
use Rattle.std.specs.Prelude.{Bool, not, ◌&&◌, ◌==◌}
use Rattle.std.specs.Ordering.{int_eq}
use Rattle.bolt_cli.specs.{declared.outside.Source.Source, declared.outside.Stamp.Stamp}

abbrev pub is_same : Stamp → Stamp → Bool
is_same a b = (a.length == b.length) && int_eq a.seconds b.seconds && int_eq a.nanoseconds b.nanoseconds

-- only of a regular file this is known
abbrev pub is_changed : Source → Bool
is_changed source = source.is_regular && not (is_same source.before source.after)
