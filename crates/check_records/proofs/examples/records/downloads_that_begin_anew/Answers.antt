use Rattle.std.proofs.Common.{refl}
use Rattle.check_records.proofs.examples.records.downloads_that_begin_anew.Goals as goal

pub returns-clause-anew : goal.returns-clause-anew
returns-clause-anew c = refl

pub returns-clause-done_before : goal.returns-clause-done_before
returns-clause-done_before c = refl

pub returns-clause-another_count : goal.returns-clause-another_count
returns-clause-another_count c = refl

pub returns-clause-another_family : goal.returns-clause-another_family
returns-clause-another_family c = refl

pub returns-clause-lone : goal.returns-clause-lone
returns-clause-lone c = refl
