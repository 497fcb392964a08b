use Rattle.picoboot_cmd.proofs.ByCommandLemmas.{at-exclusive, at-erase, at-read, at-write, at-exit_xip, at-enter_xip, at-reboot, at-otp_read, at-otp_write, at-unknown}
use Rattle.picoboot_cmd.proofs.laws.the_checks_of_each_command.Goals as goal

pub returns-clause-exclusive : goal.returns-clause-exclusive
returns-clause-exclusive c = at-exclusive

pub returns-clause-erase : goal.returns-clause-erase
returns-clause-erase c = at-erase

pub returns-clause-read : goal.returns-clause-read
returns-clause-read c = at-read

pub returns-clause-write : goal.returns-clause-write
returns-clause-write c = at-write

pub returns-clause-exit_xip : goal.returns-clause-exit_xip
returns-clause-exit_xip c = at-exit_xip

pub returns-clause-enter_xip : goal.returns-clause-enter_xip
returns-clause-enter_xip c = at-enter_xip

pub returns-clause-reboot : goal.returns-clause-reboot
returns-clause-reboot c = at-reboot

pub returns-clause-otp_read : goal.returns-clause-otp_read
returns-clause-otp_read c = at-otp_read

pub returns-clause-otp_write : goal.returns-clause-otp_write
returns-clause-otp_write c = at-otp_write

pub returns-clause-unknown : goal.returns-clause-unknown
returns-clause-unknown c = at-unknown
