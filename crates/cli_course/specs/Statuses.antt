-- The numbers with which the program ends.
use Rattle.std.specs.Prelude.{ℕ}
use Rattle.cli_course.specs.declared.status.Status.{Status}
use Rattle.cli_course.specs.declared.status.Status.TheVariants.{Done, Words, Input, Bootsel, ReadFault, WriteFault, OutputFault, Memory, Unbootable, Mixed, NoEffect, Refused, Unmet}

-- the exit status of the program
abbrev pub exit_status : Status → ℕ
exit_status Done = 0
exit_status Words = 1
exit_status Input = 2
exit_status Bootsel = 3
exit_status ReadFault = 4
exit_status WriteFault = 5
exit_status OutputFault = 6
exit_status Memory = 7
exit_status Unbootable = 8
exit_status Mixed = 9
exit_status NoEffect = 10
exit_status Refused = 11
exit_status Unmet = 12
