-- What a table of roles shows.
use Rattle.bolt_check.specs.{declared.checked.Checked.Checked, declared.role_table.Roles.Roles}

-- the file whose pages have these roles
unfoldable pub roles_checked : Roles → Checked
roles_checked roles = roles.checked
