use Rattle.std.proofs.Common.{false}
use Rattle.bolt_commands.proofs.{CopyChecks.fails, CopyChecks.none_looked_for, CopyChecks.passes, Vocabulary.copy_of}
use Rattle.bolt_commands.proofs.laws.good_copies_pass_the_check.Goals as goal

pub returns-clause-whole : goal.returns-clause-whole
returns-clause-whole c = λ snapshot layout listing good extent answer.
    passes (record { one = c.active_meta_is_one.ensures; lose = c.sound_trees_lose_nothing.ensures }) extent snapshot false layout listing answer good
    (λ slot meta chosen. none_looked_for (copy_of snapshot layout) meta)

pub returns-clause-prefixes : goal.returns-clause-prefixes
returns-clause-prefixes c = λ snapshot layout listing good n short extent for_bbolt answer.
    fails (record { one = c.active_meta_is_one.ensures; lose = c.sound_trees_lose_nothing.ensures }) extent snapshot for_bbolt layout listing n
    answer good short
