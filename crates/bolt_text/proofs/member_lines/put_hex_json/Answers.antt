use Rattle.std.proofs.Common.{rules, ◌∙◌, ap, sym}
use Rattle.bolt_text.proofs.{Vocabulary.digits_json, Vocabulary.item_view, Vocabulary.json_line, Vocabulary.path_of, Vocabulary.Wrote-same}
use Rattle.bolt_text.proofs.{HexStrings.bucket_line, HexStrings.value_line}
use Rattle.bolt_text.proofs.member_lines.put_hex_json.Goals as goal

pub returns-in-Value : goal.returns-in-Value
returns-in-Value g c = search (rules, value_line)

pub returns-in-Bucket : goal.returns-in-Bucket
returns-in-Bucket g c =
    let path = path_of c.args.path.now in
    Wrote-same (bucket_line path c.in-Bucket.sequence ∙ ap (λ item. json_line digits_json (path, item_view item)) (sym c.in-Bucket.is))
    c.put_pieces-in-Bucket.ensures
