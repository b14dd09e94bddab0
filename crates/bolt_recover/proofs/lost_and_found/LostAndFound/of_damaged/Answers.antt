-- A recovery searches the file, or the root page is lost.
use Rattle.std.proofs.Common.{arith}
use Rattle.bolt_recover.proofs.Words.{merely}
use Rattle.bolt_recover.proofs.lost_and_found.LostAndFound.of_damaged.Goals as goal

pub invariant_of-result-clause-bytes : goal.invariant_of-result-clause-bytes
invariant_of-result-clause-bytes c = λ i. (c.type_inv.file i).fits

pub invariant_of-result-clause-searched : goal.invariant_of-result-clause-searched
invariant_of-result-clause-searched c = grind (arith, merely, c.in-Ok.ensures.file, c.in-Ok.ensures.meta)

pub found_without_root-requires-clause-lost : goal.found_without_root-requires-clause-lost
found_without_root-requires-clause-lost c = (c.in-Err-Lost.finding, rw c.in-Err-Lost.field-0-is at c.in-Err-Lost.ensures.refused)

pub invariant_of-result-in-Err-Lost-clause-bytes : goal.invariant_of-result-in-Err-Lost-clause-bytes
invariant_of-result-in-Err-Lost-clause-bytes c = λ i. (c.type_inv.file i).fits

pub invariant_of-result-in-Err-Lost-clause-searched : goal.invariant_of-result-in-Err-Lost-clause-searched
invariant_of-result-in-Err-Lost-clause-searched c =
    let loses = rw c.in-Err-Lost.field-0-is at c.in-Err-Lost.ensures.refused in
    let part = c.in_ok-found-in-Err-Lost.ensures in
    merely (record { left = tt; lost = loses; are_found = part.found; views = part.views })

pub returns-in_ok-found-in-Err-Lost-clause-searched : goal.returns-in_ok-found-in-Err-Lost-clause-searched
returns-in_ok-found-in-Err-Lost-clause-searched c =
    let loses = rw c.in-Err-Lost.field-0-is at c.in-Err-Lost.ensures.refused in
    let part = c.in_ok-found-in-Err-Lost.ensures in
    record { left = tt; lost = loses; are_found = part.found; views = part.views }
