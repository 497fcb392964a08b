use Rattle.std.proofs.Common.{sym}
use Rattle.boot_tape.proofs.NoteLemmas.{boot-cut, note-armed}
use Rattle.boot_tape.proofs.examples.notes.events_of_no_host.Goals as goal

pub returns-clause-boot : goal.returns-clause-boot
returns-clause-boot c = boot-cut

pub returns-clause-cut : goal.returns-clause-cut
returns-clause-cut c = λ m left within pattern. sym (note-armed m left within pattern)
