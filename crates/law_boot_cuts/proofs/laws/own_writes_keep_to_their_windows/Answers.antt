use Rattle.law_boot_cuts.proofs.OwnLaws.{own-windows}
use Rattle.law_boot_cuts.proofs.laws.own_writes_keep_to_their_windows.Goals as goal

pub returns-clause-windows : goal.returns-clause-windows
returns-clause-windows c = λ content cpu kind choice steps k step right h are at.
    own-windows content cpu kind choice right h steps are k step at

pub returns-clause-raises : goal.returns-clause-raises
returns-clause-raises c = λ before z d cpu choice row bits v is confined. absurd confined
