use Rattle.std.proofs.Common.{suc, ◌-◌, length, subst}
use Rattle.hex.specs.Hex.{IsBytes}
use Rattle.boot_script.proofs.FollowingLemmas.{script-spelled}
use Rattle.boot_script.proofs.SpelledLemmas.{are-bytes}
use Rattle.law_scripts.proofs.BytesLemmas.{script-bytes}
use Rattle.law_scripts.proofs.LimitLemmas.{script-within}
use Rattle.law_scripts.proofs.SizeLemmas.{listed-short}
use Rattle.law_scripts.proofs.laws.listed_texts_are_short.Goals as goal

pub returns-clause-events : goal.returns-clause-events
returns-clause-events c = listed-short

pub returns-clause-script : goal.returns-clause-script
returns-clause-script c = λ bytes es small is read.
    let script = script-spelled (suc (length bytes - 0)) 0 bytes es (are-bytes bytes small) read in
    listed-short es script.all
    (script-bytes es _ (subst IsBytes script.bytes (are-bytes bytes small)))
    (script-within bytes es small is read)
