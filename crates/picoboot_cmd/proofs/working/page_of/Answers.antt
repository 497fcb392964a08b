use Rattle.picoboot_cmd.proofs.FilledPageLemmas.{page-filled}
use Rattle.picoboot_cmd.proofs.working.page_of.Goals as goal

pub returns : goal.returns
returns c = page-filled c.args.bytes.now c.fill.new.page c.min.result c.min.ensures c.fill.ensures
