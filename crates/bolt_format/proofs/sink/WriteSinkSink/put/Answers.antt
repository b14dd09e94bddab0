use Rattle.std.proofs.Common.{rules, ◌≡◌, ℕ, ◌-◌, List, ◌++◌, length, take, drop, append_assoc, take-append-drop}
use Rattle.std.proofs.{KnownBytes.Appends-trans, lemmas.List.take_rest}
use Rattle.bolt_format.proofs.sink.WriteSinkSink.put.Goals as goal

-- n more bytes go from the rest to the front
front_grows : (all front rest : List ℕ) (n : ℕ) → all ≡ front ++ rest → all ≡ (front ++ take n rest) ++ take (length rest - n) (drop n rest)
front_grows all front rest n e = search (rules, take-append-drop, append_assoc, take_rest)

pub loop-rest-preserved : goal.loop-rest-preserved
loop-rest-preserved g c =
    let (none_failed, front, parts, taken) = c.loop-rest.invariant in
    let rest = c.loop-rest.rest.now in
    let n = c.in-Ok.n in
    (none_failed, front ++ take n rest, front_grows _ front rest n parts, Appends-trans _ _ _ _ _ taken c.in-Ok.ensures.bytes)
