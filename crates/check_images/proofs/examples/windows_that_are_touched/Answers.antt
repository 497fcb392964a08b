use Rattle.std.proofs.Common.{refl}
use Rattle.check_images.proofs.examples.windows_that_are_touched.Goals as goal

pub returns-clause-sector : goal.returns-clause-sector
returns-clause-sector c = refl

pub returns-clause-before : goal.returns-clause-before
returns-clause-before c = refl

pub returns-clause-behind : goal.returns-clause-behind
returns-clause-behind c = refl

pub returns-clause-last_sector : goal.returns-clause-last_sector
returns-clause-last_sector c = refl

pub returns-clause-first_page : goal.returns-clause-first_page
returns-clause-first_page c = refl

pub returns-clause-last_page : goal.returns-clause-last_page
returns-clause-last_page c = refl

pub returns-clause-page_before : goal.returns-clause-page_before
returns-clause-page_before c = refl

pub returns-clause-page_behind : goal.returns-clause-page_behind
returns-clause-page_behind c = refl

pub returns-clause-first_byte : goal.returns-clause-first_byte
returns-clause-first_byte c = refl

pub returns-clause-next_byte : goal.returns-clause-next_byte
returns-clause-next_byte c = refl

pub returns-clause-last_byte : goal.returns-clause-last_byte
returns-clause-last_byte c = refl

pub returns-clause-byte_before : goal.returns-clause-byte_before
returns-clause-byte_before c = refl

pub returns-clause-raise : goal.returns-clause-raise
returns-clause-raise c = refl

pub returns-clause-empty : goal.returns-clause-empty
returns-clause-empty c = refl
