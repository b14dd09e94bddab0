use Rattle.bolt_format.proofs.GoodPages.{good_within}
use Rattle.bolt_format.proofs.open_page.known.Goals as goal

pub known_span-span-requires : goal.known_span-span-requires
known_span-span-requires c = good_within c.args.file.now c.args.meta.now c.args.id c.requires
