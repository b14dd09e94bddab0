use Rattle.std.proofs.Common.{arith, refl}
use Rattle.bolt_check.proofs.{ClaimLemmas.claims_freelist, ClaimLemmas.span_within, FreelistLemmas.freelist_page, HighWaterLemmas.page_overflows}
use Rattle.bolt_check.proofs.accounts.claim_freelist.Goals as goal

pub known-requires : goal.known-requires
known-requires c = rw (freelist_page c.args.file.now c.args.meta.now c.requires.written c.requires.good) refl

pub overflow_add-last : goal.overflow_add-last
overflow_add-last c = grind (arith, page_overflows, span_within)

pub first_claimed-requires-clause-within : goal.first_claimed-requires-clause-within
first_claimed-requires-clause-within c = grind (arith, page_overflows, span_within)

pub returns-in-Some-clause-shared : goal.returns-in-Some-clause-shared
returns-in-Some-clause-shared c = grind (arith, page_overflows)

pub claim-requires-clause-within : goal.claim-requires-clause-within
claim-requires-clause-within c = grind (arith, page_overflows, span_within)

pub returns-clause-claimed : goal.returns-clause-claimed
returns-clause-claimed c = grind (arith, page_overflows, claims_freelist)
