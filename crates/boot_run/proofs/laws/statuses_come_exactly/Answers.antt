use Rattle.boot_rules.specs.Choosing.{decision_in}
use Rattle.cli_inputs.specs.Forms.{content_of_files}
use Rattle.cli_boot.specs.Works.{boot_work, data_work}
use Rattle.cli_caveats.specs.Works.{caveats_work}
use Rattle.cli_course.specs.Outcomes.{worked}
use Rattle.boot_run.proofs.RuleLemmas.{refused-exactly, falls-exactly}
use Rattle.boot_run.proofs.VerdictLemmas.{no-verdict, verdict-exactly}
use Rattle.cli_boot.proofs.BoardWorkLemmas.{fall-status}
use Rattle.boot_run.proofs.laws.statuses_come_exactly.Goals as goal

pub returns-clause-input : goal.returns-clause-input
returns-clause-input c = refused-exactly

pub returns-clause-boot : goal.returns-clause-boot
returns-clause-boot c = λ flash otp f g cpu kind.
    falls-exactly flash otp f g cpu kind (worked (boot_work (content_of_files f g) cpu kind))
    (fall-status (decision_in (content_of_files f g) cpu kind))

pub returns-clause-data : goal.returns-clause-data
returns-clause-data c = λ flash otp f g cpu kind.
    falls-exactly flash otp f g cpu kind (worked (data_work (content_of_files f g) cpu kind))
    (fall-status (decision_in (content_of_files f g) cpu kind))

pub returns-clause-caveats : goal.returns-clause-caveats
returns-clause-caveats c = λ flash otp f g cpu kind.
    falls-exactly flash otp f g cpu kind (worked (caveats_work (content_of_files f g) cpu kind))
    (fall-status (decision_in (content_of_files f g) cpu kind))

pub returns-clause-judged : goal.returns-clause-judged
returns-clause-judged c = verdict-exactly

pub returns-clause-verdict : goal.returns-clause-verdict
returns-clause-verdict c = no-verdict
