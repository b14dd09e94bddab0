use Rattle.std.proofs.Common.{lit<}
use Rattle.std.proofs.{lemmas.Iterator.Consumers.map_from_collect, lemmas.Iterator.Splits.YieldsList-from_str_split}
use Rattle.bolt_job.proofs.path_words.cut_at_slashes.Goals as goal

pub returns : goal.returns
returns c =
    map_from_collect _ c.collect.ensures.ran
    (YieldsList-from_str_split 47 c.args.word.now (lit< tt) c.split.ensures.text c.split.ensures.has_more c.split.ensures.pattern)
