use Rattle.picoboot_cmd.proofs.PageByPageLemmas.{programs-page, programs-last}
use Rattle.picoboot_cmd.proofs.laws.bytes_are_programmed_page_by_page.Goals as goal

pub returns-clause-more : goal.returns-clause-more
returns-clause-more c = programs-page

pub returns-clause-last : goal.returns-clause-last
returns-clause-last c = programs-last
