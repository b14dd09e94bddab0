-- Whether two keys are the same, and whether two paths are.
use Rattle.std.proofs.Common.{◌≡◌}
use Rattle.bolt_lemmas.proofs.Exports.{dec_tied}
use Rattle.bolt_check.specs.Keys.{Key}
use Rattle.bolt_tree.proofs.Exports.{key_exact, key_total, path_exact, path_total}
use Rattle.bolt_tree.specs.Paths.{Path}

pub dec_key : (a b : Key) → Dec (a ≡ b)
dec_key = dec_tied key_total key_exact

pub dec_path : (a b : Path) → Dec (a ≡ b)
dec_path = dec_tied path_total path_exact
