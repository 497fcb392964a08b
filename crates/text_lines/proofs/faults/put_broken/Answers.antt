use Rattle.std.proofs.Common.{refl, append_assoc}
use Rattle.text_lines.proofs.faults.put_broken.Goals as goal

pub returns-clause-bytes : goal.returns-clause-bytes
returns-clause-bytes c = rw (c.put_word.ensures.bytes, c.put_text.ensures.bytes, append_assoc) refl
