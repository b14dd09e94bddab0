-- A name that isn't JSON follows the columns.
use Rattle.std.proofs.Common.{◌≡◌, false}
use Rattle.bolt_text.specs.Forms.{is_json}
use Rattle.bolt_report.proofs.size_lines.put_size.Goals as goal

pub returns-else-is_json-clause-written : goal.returns-else-is_json-clause-written
returns-else-is_json-clause-written g c =
    let plain : is_json c.args.items.now.form ≡ false = cc in rw plain c.put_size_row.ensures.written

pub returns-else-is_json-clause-short : goal.returns-else-is_json-clause-short
returns-else-is_json-clause-short g c =
    let plain : is_json c.args.items.now.form ≡ false = cc in rw plain c.put_size_row.ensures.short
