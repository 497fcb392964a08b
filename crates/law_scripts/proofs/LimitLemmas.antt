-- The events of a script are within its limits.
use Rattle.std.proofs.Common.{◌≡◌, ℕ, suc, ◌-◌, ◌<◌, List, ◌++◌, length, sym, ap, ◌∙◌, arith, length-append}
use Rattle.std.specs.Prelude.{All, Ok}
use Rattle.std.specs.List.{flat_map}
use Rattle.boot_script.specs.Events.{EventView, End}
use Rattle.boot_script.specs.Judging.{IsScript}
use Rattle.boot_script.specs.Scripts.{events}
use Rattle.boot_script.specs.Written.{written_event}
use Rattle.boot_script.proofs.FollowingLemmas.{script-spelled}
use Rattle.boot_script.proofs.SpelledLemmas.{are-bytes}
use Rattle.boot_script.proofs.WalkLemmas.{script-read}
use Rattle.script_text.specs.Meaning.{IsWithinLimits}
use Rattle.law_scripts.proofs.BackLemmas.{same-ok}

-- the events of a script are within its limits
pub script-within : (bytes : List ℕ) (es : List EventView) → All (λ b. b < 256) bytes → IsScript bytes
    → events bytes ≡ Ok es → IsWithinLimits es
script-within bytes es small script read =
    let spelled = script-spelled (suc (length bytes - 0)) 0 bytes es (are-bytes bytes small) read in
    let same = same-ok es script.ended.happened (sym read ∙ script-read bytes script) in
    let many = ap (λ (xs : List EventView). length xs) same in
    let few = script.ended.few in
    let short = script.short in
    let whole = ap (λ (bs : List ℕ). length bs) spelled.bytes
    ∙ length-append (flat_map written_event es) (written_event End ++ spelled.rest) in
    let end = length-append (written_event End) spelled.rest in
    let long = length-append (flat_map written_event es) (written_event End) in record {
      few = omega (arith, many, few);
      short = omega (arith, short, whole, end, long);
    }
