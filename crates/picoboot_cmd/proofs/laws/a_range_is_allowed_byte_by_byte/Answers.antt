use Rattle.picoboot_cmd.proofs.SectorLemmas.{range-bytes, range-from_bytes}
use Rattle.picoboot_cmd.proofs.laws.a_range_is_allowed_byte_by_byte.Goals as goal

pub returns : goal.returns
returns c = λ t right at size. (range-bytes t right at size, range-from_bytes t right at size)
