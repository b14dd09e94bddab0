-- The text is what stands between the brackets (40 and 41).
use Rattle.std.proofs.Common.{◌∷◌, ◌++◌, [], ap}
use Rattle.std.proofs.lemmas.List.{map-id}
use Rattle.std.specs.List.{join_with_byte}
use Rattle.bolt_text.proofs.{GatherLemmas.Gathers-return, GatherLemmas.Gathers-same, GatherLemmas.Gathers-then, Vocabulary.path_of}
use Rattle.bolt_text.proofs.path_pieces.put_text_after.Goals as goal

pub returns-in_err-put_bytes : goal.returns-in_err-put_bytes
returns-in_err-put_bytes g c =
    rw (← c.if-not-is_readable_path.ensures)
    (Gathers-return (join_with_byte 47 (path_of c.args.parts.now) ++ 41 ∷ []) _ c.in_err-put_bytes.ensures c.from_residual.ensures.0)

pub returns-in_err-put_path : goal.returns-in_err-put_path
returns-in_err-put_path g c =
    rw (← c.if-not-is_readable_path.ensures)
    (Gathers-then c.in_ok-put_bytes.ensures
    (Gathers-return (41 ∷ []) _ (Gathers-same (ap (join_with_byte 47) (map-id (path_of c.args.parts.now))) c.in_err-put_path.ensures)
    c.from_residual-in_err-put_path.ensures.0))

pub returns : goal.returns
returns g c =
    rw (← c.if-not-is_readable_path.ensures)
    (Gathers-then c.in_ok-put_bytes.ensures
    (Gathers-then (Gathers-same (ap (join_with_byte 47) (map-id (path_of c.args.parts.now))) c.in_ok-put_path.ensures) c.put_bytes-2.ensures))
