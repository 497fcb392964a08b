use Rattle.std.proofs.Common.{refl, append_assoc}
use Rattle.text_lines.proofs.faults.put_overlap.Goals as goal

pub returns-clause-bytes : goal.returns-clause-bytes
returns-clause-bytes c = rw (c.put_numbered-2.ensures.bytes, c.put_numbered.ensures.bytes, append_assoc) refl
