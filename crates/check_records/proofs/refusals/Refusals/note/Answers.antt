use Rattle.std.proofs.Common.{refl}
use Rattle.check_records.proofs.RefusalLemmas.{note-lost}
use Rattle.check_records.proofs.refusals.Refusals.note.Goals as goal

pub returns-else-note : goal.returns-else-note
returns-else-note c = note-lost c.args.self.now _ c.args.note.now c.args.number c.if-note.false refl refl
