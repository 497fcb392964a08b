use Rattle.image_pack.proofs.SameStartLaws.{flash-byte, sram-byte}
use Rattle.image_pack.proofs.laws.a_sealed_image_gives_the_bytes_of_its_binary.Goals as goal

pub returns-clause-flash : goal.returns-clause-flash
returns-clause-flash c = λ binary spec sealed f p read offset stays.
    flash-byte binary spec sealed f p read offset stays

pub returns-clause-sram : goal.returns-clause-sram
returns-clause-sram c = λ binary spec sealed f p read own in_space back address high stays.
    sram-byte binary spec sealed f p read own in_space back address high stays
