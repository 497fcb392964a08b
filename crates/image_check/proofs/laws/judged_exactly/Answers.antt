use Rattle.pico_board.specs.Content.{window_bytes}
use Rattle.image_check.specs.Addressing.{in_flash}
use Rattle.image_check.proofs.LawLemmas.{valid-exactly, why-exactly}
use Rattle.image_check.proofs.laws.judged_exactly.Goals as goal

pub returns-clause-valid : goal.returns-clause-valid
returns-clause-valid c = valid-exactly

pub returns-clause-why_not : goal.returns-clause-why_not
returns-clause-why_not c = why-exactly

pub returns-clause-valid_in_flash : goal.returns-clause-valid_in_flash
returns-clause-valid_in_flash c = λ d w cpu trial s. valid-exactly in_flash w cpu trial d.otp (window_bytes d w) s

pub returns-clause-why_not_in_flash : goal.returns-clause-why_not_in_flash
returns-clause-why_not_in_flash c = λ d w cpu trial y. why-exactly in_flash w cpu trial d.otp (window_bytes d w) y
