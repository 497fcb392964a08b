use Rattle.cli_check.specs.Reporting.{report_of}
use Rattle.cli_check.proofs.LostLemmas.{none-lost}
use Rattle.cli_check.proofs.laws.reports.lost_images_are_seen.Goals as goal

pub returns : goal.returns
unfolding report_of
returns c = λ f. none-lost f.images.lost
