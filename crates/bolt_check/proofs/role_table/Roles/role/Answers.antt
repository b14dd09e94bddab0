use Rattle.std.proofs.Common.{◌∙◌, ap, arith}
use Rattle.bolt_check.proofs.{Words.bytes_of, Words.meta_of, Words.roles_checked, Words.use_at, Words.∥∥₁_map, RoleLemmas.right_role}
use Rattle.bolt_check.proofs.role_table.Roles.role.Goals as goal

pub returns : goal.returns
unfolding roles_checked bytes_of meta_of
returns c =
    let roles = c.args.self.now in
    let meta = roles.checked.meta in
    let same = c.page_use.ensures ∙ ap (λ table. use_at table c.args.id) c.deref.ensures.value in
    rw (c.role_by.ensures, same)
    (∥∥₁_map roles.uses
    (λ are. right_role roles.checked.bytes.now meta roles.table.items are c.args.id c.requires (omega (arith, c.fits.ensures))))
