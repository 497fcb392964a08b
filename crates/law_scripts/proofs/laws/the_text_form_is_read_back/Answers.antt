use Rattle.std.proofs.Common.{suc, ◌-◌, length, subst}
use Rattle.hex.specs.Hex.{IsBytes}
use Rattle.boot_script.proofs.FollowingLemmas.{script-spelled}
use Rattle.boot_script.proofs.SpelledLemmas.{are-bytes}
use Rattle.law_scripts.proofs.BackLemmas.{read-back}
use Rattle.law_scripts.proofs.BytesLemmas.{script-bytes}
use Rattle.law_scripts.proofs.LimitLemmas.{script-within}
use Rattle.law_scripts.proofs.laws.the_text_form_is_read_back.Goals as goal

pub returns-clause-events : goal.returns-clause-events
returns-clause-events c = read-back

pub returns-clause-script : goal.returns-clause-script
returns-clause-script c = λ image bytes es small is read.
    let script = script-spelled (suc (length bytes - 0)) 0 bytes es (are-bytes bytes small) read in
    read-back image es script.all
    (script-bytes es _ (subst IsBytes script.bytes (are-bytes bytes small)))
    (script-within bytes es small is read)
