use Rattle.std.proofs.Common.{refl}
use Rattle.check_lines.specs.Counting.{boot_line, buy_line}
use Rattle.check_lines.proofs.examples.counting.lines_of_writes.Goals as goal

pub returns-clause-no_boot : goal.returns-clause-no_boot
unfolding boot_line buy_line
returns-clause-no_boot c = refl

pub returns-clause-boot_kept : goal.returns-clause-boot_kept
unfolding boot_line buy_line
returns-clause-boot_kept c = refl

pub returns-clause-boot_open : goal.returns-clause-boot_open
unfolding boot_line buy_line
returns-clause-boot_open c = refl

pub returns-clause-no_buy : goal.returns-clause-no_buy
unfolding boot_line buy_line
returns-clause-no_buy c = refl

pub returns-clause-buy_kept : goal.returns-clause-buy_kept
unfolding boot_line buy_line
returns-clause-buy_kept c = refl

pub returns-clause-buy_open : goal.returns-clause-buy_open
unfolding boot_line buy_line
returns-clause-buy_open c = refl
