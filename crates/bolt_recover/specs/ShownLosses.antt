-- Losses of the code as they are shown.
use Rattle.std.specs.Prelude.{map}
use Rattle.bolt_check.specs.ShownSpots.{bound_of}
use Rattle.bolt_tree.specs.Paths.{path_of}
use Rattle.bolt_recover.specs.{Losses.LossView, Losses.LostView, Losses.everything, Losses.parts, declared.losses.Loss.Loss}
use Rattle.bolt_recover.specs.{declared.losses.Lost.Lost}
use Rattle.bolt_recover.specs.declared.losses.Lost.TheVariants.{Everything, Parts}

abbrev pub loss_view : Loss → LossView
loss_view loss = record { finding = loss.finding; bucket = path_of loss.bucket.items; lower = bound_of loss.lower; upper = bound_of loss.upper }

abbrev pub lost_view : Lost → LostView
lost_view (Everything x) = everything x
lost_view (Parts losses) = parts (map loss_view losses.now)
