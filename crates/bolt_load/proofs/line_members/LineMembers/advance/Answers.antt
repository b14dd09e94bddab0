-- The member of the next line, whose bytes come next.
use Rattle.std.proofs.Common.{arith, ap}
use Rattle.bolt_load.proofs.Words.{hex_path_in, item_view, members_of_lines, members_left, members_path, path_of, word_item}
use Rattle.bolt_load.proofs.NextLines.{item_begins, no_members, no_words, path_begins, pushed_onto_none, rest_decoded}
use Rattle.bolt_load.proofs.line_members.LineMembers.advance.Goals as goal

pub returns-in_default-clause-given : goal.returns-in_default-clause-given
unfolding members_left members_path
returns-in_default-clause-given c =
    let none = no_members c.args.self.now.text_left.now c.in_default.ensures in
    (ap members_of_lines none, ap members_of_lines none, ap path_of c.clear.ensures.items)

pub returns-in_default-clause-lines : goal.returns-in_default-clause-lines
unfolding members_left
returns-in_default-clause-lines c = no_members c.args.self.now.text_left.now c.in_default.ensures

pub unreachable-requires : goal.unreachable-requires
unreachable-requires c =
    no_words c.args.self.now.text_left.now c.in-Some.line.now c.in-Some.text_left.now c.args.self.now.bytes_left.now c.in-Some.ensures c.args.self.now.ahead
    c.in_default-words_of.ensures.member

pub push_parts-requires : goal.push_parts-requires
push_parts-requires c =
    path_begins c.args.self.now.text_left.now c.in-Some.line.now c.in-Some.text_left.now c.args.self.now.bytes_left.now c.in-Some.ensures c.args.self.now.ahead
    (hex_path_in c.in-Some-words_of.words.path.now) (word_item c.in-Some-words_of.words.item) c.in-Some-words_of.ensures.member

pub item_of-requires : goal.item_of-requires
item_of-requires c =
    item_begins c.args.self.now.text_left.now c.in-Some.line.now c.in-Some.text_left.now c.args.self.now.bytes_left.now c.in-Some.ensures c.args.self.now.ahead
    (hex_path_in c.in-Some-words_of.words.path.now) (word_item c.in-Some-words_of.words.item) c.in-Some-words_of.ensures.member
    (path_of c.push_parts.new.path.items) c.in_ok-bytes_left.bytes_left.now
    (pushed_onto_none (hex_path_in c.in-Some-words_of.words.path.now) (path_of c.clear-2.new.self.items) (path_of c.push_parts.new.path.items)
    c.args.self.now.bytes_left.now c.in_ok-bytes_left.bytes_left.now
    (ap path_of c.clear-2.ensures.items) c.in_ok-bytes_left.ensures)

pub invariant_of-self-2 : goal.invariant_of-self-2
invariant_of-self-2 c = record {
  whole = c.args.self.now.whole;
  ahead =
      rest_decoded c.args.self.now.text_left.now c.in-Some.line.now c.in-Some.text_left.now c.args.self.now.bytes_left.now c.in-Some.ensures
      c.args.self.now.ahead
      (hex_path_in c.in-Some-words_of.words.path.now) (word_item c.in-Some-words_of.words.item) c.in-Some-words_of.ensures.member
      (path_of c.push_parts.new.path.items) c.in_ok-bytes_left.bytes_left.now
      (pushed_onto_none (hex_path_in c.in-Some-words_of.words.path.now) (path_of c.clear-2.new.self.items) (path_of c.push_parts.new.path.items)
      c.args.self.now.bytes_left.now c.in_ok-bytes_left.bytes_left.now
      (ap path_of c.clear-2.ensures.items) c.in_ok-bytes_left.ensures)
      (item_view c.item_of.result.0) c.item_of.result.1.now c.item_of.ensures.item c.item_of.ensures.rest;
}

pub returns-clause-given : goal.returns-clause-given
unfolding members_left members_path
returns-clause-given c = grind arith

pub returns-clause-lines : goal.returns-clause-lines
unfolding members_left members_path
returns-clause-lines c = grind arith
