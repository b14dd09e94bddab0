-- Every key begins with no bytes.
use Rattle.std.proofs.Common.{rules, ap}
use Rattle.bolt_report.proofs.{Words.keys_text, PrefixLemmas.with_none}
use Rattle.bolt_text.proofs.Exports.{short_same}
use Rattle.bolt_report.proofs.key_lines.keys.Goals as goal

pub returns-clause-written : goal.returns-clause-written
returns-clause-written g c = search (rules, with_none)

pub returns-clause-short : goal.returns-clause-short
returns-clause-short g c = λ entries are.
    let own = rw (c.cursor.ensures.checked, c.cursor.ensures.start) at c.put_keys_with_prefix.ensures.short in
    short_same (ap (keys_text c.args.form) (with_none entries)) (own entries are)
