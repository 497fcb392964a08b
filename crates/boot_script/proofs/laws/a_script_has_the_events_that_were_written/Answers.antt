use Rattle.std.proofs.Common.{length, suc, ◌-◌}
use Rattle.boot_script.proofs.SpelledLemmas.{are-bytes}
use Rattle.boot_script.proofs.FollowingLemmas.{whole-script, script-spelled}
use Rattle.boot_script.proofs.laws.a_script_has_the_events_that_were_written.Goals as goal

pub returns-clause-read : goal.returns-clause-read
returns-clause-read c = whole-script

pub returns-clause-written : goal.returns-clause-written
returns-clause-written c = λ bytes es small read.
    let script = script-spelled (suc (length bytes - 0)) 0 bytes es (are-bytes bytes small) read in
    (script.all, (script.rest, script.bytes))
