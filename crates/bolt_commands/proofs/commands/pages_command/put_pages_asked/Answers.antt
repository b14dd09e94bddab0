-- The map or the table, as it is asked for.
use Rattle.bolt_commands.proofs.commands.pages_command.put_pages_asked.Goals as goal

pub returns-then-map : goal.returns-then-map
returns-then-map g c = λ own are. rw c.if-map.true (c.put_page_map.ensures own are)

pub returns-else-map : goal.returns-else-map
returns-else-map g c = λ own are. rw c.if-map.false (c.put_page_table.ensures own are)
