use Rattle.bolt_check.proofs.{SoundLemmas.memory_alone, RoleFacts.sound_accounts, RoleLemmas.page_positive, Words.bytes_of, Words.meta_of}
use Rattle.bolt_check.proofs.{Words.props, Words.∥∥₁_elim}
use Rattle.bolt_check.proofs.sound_roles.roles.Goals as goal

pub test_file-requires : goal.test_file-requires
unfolding bytes_of meta_of
test_file-requires c =
    let checked = c.args.checked in
    ∥∥₁_elim (sound_accounts checked c.requires) (Prim.hlevel props) (page_positive (bytes_of checked) (meta_of checked))

pub only_memory-requires : goal.only_memory-requires
unfolding bytes_of meta_of
only_memory-requires c =
    let checked = c.args.checked in
    ∥∥₁_elim (sound_accounts checked c.requires) (Prim.hlevel props)
    (λ sound. memory_alone (bytes_of checked) (meta_of checked) c.in-Err.fault sound c.in-Err.ensures.refused)
