use Rattle.std.proofs.Common.{◌/◌, ◌%◌, ◌==◌, ap, lit<}
use Rattle.std.proofs.lemmas.List.Elements.{recursion_from_All}
use Rattle.otp_roll.specs.Raises.{raises}
use Rattle.otp_roll.specs.Flags.{slot_size_of}
use Rattle.otp_roll.proofs.RisingLemmas.{raises-raise, raises-elsewhere, flash-left, row-left, low-row}
use Rattle.otp_roll.proofs.laws.raises_leave_the_rest.Goals as goal

pub returns-clause-flash : goal.returns-clause-flash
returns-clause-flash c = λ old rows version d left. flash-left old (raises old.otp rows version) d
    (raises-raise old.otp rows version) left

pub returns-clause-rows : goal.returns-clause-rows
returns-clause-rows c = λ old rows version i d outside left.
    row-left old (raises old.otp rows version) d i
    (raises-elsewhere i old.otp rows version (recursion_from_All _ rows outside)) left

pub returns-clause-required : goal.returns-clause-required
returns-clause-required c = λ old rows version d listed left.
    ap (λ v. v % 2 == 1) (low-row old rows version d 0x048 (lit< tt) (recursion_from_All _ rows listed.in_range) left)

pub returns-clause-flash_off : goal.returns-clause-flash_off
returns-clause-flash_off c = λ old rows version d listed left.
    ap (λ v. v / 2 % 2 == 1) (low-row old rows version d 0x048 (lit< tt)
    (recursion_from_All _ rows listed.in_range) left)

pub returns-clause-slot_size : goal.returns-clause-slot_size
returns-clause-slot_size c = λ old rows version n d listed left.
    ap (λ v. slot_size_of (v % 16) n)
    (low-row old rows version d 0x055 (lit< tt) (recursion_from_All _ rows listed.in_range) left)
