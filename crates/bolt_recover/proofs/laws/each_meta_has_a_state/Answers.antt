use Rattle.std.proofs.Common.{inl, refl}
use Rattle.bolt_recover.proofs.laws.each_meta_has_a_state.Goals as goal

pub returns : goal.returns
returns c = λ file page_size kept lost slot meta are is. c.each_state_is_found.ensures file page_size kept lost _ are (inl (slot, meta, is, refl))
