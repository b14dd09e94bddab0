-- The value comes after the others, and none has taken a step in the layout.
use Rattle.bolt_bulk.proofs.{Ontos.onto_push, PassReady.small_of, PassReady.small_push}
use Rattle.std.proofs.lemmas.List.{map-append}
use Rattle.std.proofs.Common.{rules, ◌≡◌, ◌++◌, [], ◌∷◌, false, refl, arith}
use Rattle.bolt_format.specs.declared.element.Leaf.{Leaf}
use Rattle.bolt_bulk.proofs.pass.Pass.keep_value.Goals as goal

pub returns-clause-on : goal.returns-clause-on
returns-clause-on c =
    let entry : Leaf = record { key = c.args.key; value = c.args.value; is_bucket = false } in
    let items : c.push.new.self.items ≡ c.args.self.now.entries.items ++ entry ∷ [] = search rules in
    let small =
    small_of c.args.self.now.setup.page_size c.args.self.now.pending c.args.pending c.args.self.now.entries.items c.requires.pending c.requires.ready.pending in
    let more =
    small_push c.args.self.now.setup.page_size c.args.size c.args.pending c.args.self.now.entries.items c.push.new.self.items entry small c.requires.key
    refl c.requires.size c.requires.small c.requires.few items in
    grind arith

pub returns-clause-keeps : goal.returns-clause-keeps
returns-clause-keeps c = grind (arith, map-append, onto_push)
