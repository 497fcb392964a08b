-- The events of a plan.
use Rattle.std.proofs.Common.{◌≡◌, ℕ, ◌+◌, ◌^◌, ◌<◌, ◌≤◌, List, [], ◌∷◌, ◌++◌, length, take, drop, Result, Ok, refl, sym, ap, subst, ◌∙◌, arith, length-drop, lt-ltb, le-ltb}
use Rattle.std.specs.List.{AllByRecursion}
use Rattle.std.proofs.lemmas.List.{length-take-le, take_all}
use Rattle.pico_board.specs.declared.window.TheConstants.{MOST_FLASH_BYTES}
use Rattle.pico_board.specs.declared.boot.BootKind.TheVariants.{Bootsel}
use Rattle.picoboot_cmd.specs.declared.cmd.Cmd.{Cmd}
use Rattle.picoboot_cmd.specs.Commands as commands
use Rattle.boot_script.specs.declared.event.ScriptFault.{ScriptFault}
use Rattle.boot_script.specs.Events.{Command, EventView, PowerOn, Reset}
use Rattle.boot_script.specs.Scripts.{IsBeforeEnd, events}
use Rattle.boot_script.proofs.FollowingLemmas.{whole-script}
use Rattle.script_plan.specs.Plans.{in_sectors, last_events, plan_events, plan_text, rest_events, write_events}
use Rattle.script_plan.specs.Commands.{erase_cmd, sent, update_cmd, write_cmd}

-- a command as an event
pub sent-is : (cmd : Cmd) (payload : List ℕ) → sent cmd payload ≡ Command (commands.written_command cmd) payload
unfolding sent
sent-is cmd payload = refl

-- a command of 16 argument bytes is an event of its own
pub inside : (cmd : Cmd) (payload : List ℕ) → length cmd.args ≡ 16 → length payload < 2 ^ 32
    → IsBeforeEnd (sent cmd payload)
unfolding sent
inside cmd payload args small =
    let long : length (commands.written_command cmd) ≡ 32 = omega (arith, args) in
    record { well = (long, small); more = refl }

-- what follows the first erase
short-writes : (at : ℕ) (image : List ℕ) → length image ≤ 4096 → write_events at image ≡ last_events 2 at image
short-writes at image few = rw (le-ltb 4096 (length image) few, take_all 4096 image few) refl

long-writes : (at : ℕ) (image : List ℕ) → 4096 < length image
    → write_events at image ≡ rest_events (at + 4096) (drop 4096 image) ++ last_events 4 at (take 4096 image)
long-writes at image more = rw (lt-ltb 4096 (length image) more) refl

-- all of a list of writes are events of their own
abbrev pub Insides : List EventView → Type 0
Insides es = AllByRecursion IsBeforeEnd es

last-inside : (token at : ℕ) (first : List ℕ) → length first ≤ 4096 → Insides (last_events token at first)
last-inside token at first few = (
  inside (write_cmd token at (length first)) first refl (omega (arith, few)),
  (inside (update_cmd (token + 1) at) [] refl (omega arith), tt),
)

rest-inside : (at : ℕ) (rest first : List ℕ) → length rest ≤ MOST_FLASH_BYTES → length first ≤ 4096
    → Insides (rest_events (at + 4096) rest ++ last_events 4 at first)
rest-inside at rest first small few = (
  inside (erase_cmd 2 (at + 4096) (in_sectors (length rest))) [] refl (omega arith),
  (inside (write_cmd 3 (at + 4096) (length rest)) rest refl (omega (arith, small)), last-inside 4 at first few),
)

-- the events of a script of these writes
script : (at : ℕ) (image : List ℕ) → Insides (write_events at image)
    → events (plan_text at image) ≡ Ok (plan_events at image)
script at image all =
    whole-script (plan_events at image) [] (
      record { well = tt; more = refl },
      (
        record { well = (omega arith); more = refl },
        (inside (erase_cmd 1 at 4096) [] refl (omega arith), all),
      ),
    )

-- the events of the script of an image of at most a sector
pub short-events : (at : ℕ) (image : List ℕ) → length image ≤ 4096
    → events (plan_text at image)
    ≡ Ok (PowerOn ∷ Reset Bootsel ∷ sent (erase_cmd 1 at 4096) []
    ∷ sent (write_cmd 2 at (length image)) image ∷ sent (update_cmd 3 at) [] ∷ [])
short-events at image few =
    let writes = short-writes at image few in
    let front : List EventView → Result (List EventView) ScriptFault =
    λ es. Ok (PowerOn ∷ Reset Bootsel ∷ sent (erase_cmd 1 at 4096) [] ∷ es) in
    script at image (subst Insides (sym writes) (last-inside 2 at image few)) ∙ ap front writes

-- the events of the script of an image of more than a sector
pub long-events : (at : ℕ) (image : List ℕ) → length image ≤ MOST_FLASH_BYTES → 4096 < length image
    → events (plan_text at image)
    ≡ Ok (PowerOn ∷ Reset Bootsel ∷ sent (erase_cmd 1 at 4096) []
    ∷ sent (erase_cmd 2 (at + 4096) (in_sectors (length (drop 4096 image)))) []
    ∷ sent (write_cmd 3 (at + 4096) (length (drop 4096 image))) (drop 4096 image)
    ∷ sent (write_cmd 4 at 4096) (take 4096 image) ∷ sent (update_cmd 5 at) [] ∷ [])
long-events at image small more =
    let writes = long-writes at image more in
    let size = length-take-le 4096 image (omega (arith, more)) in
    let left = length-drop 4096 image in
    let front : List EventView → Result (List EventView) ScriptFault =
    λ es. Ok (PowerOn ∷ Reset Bootsel ∷ sent (erase_cmd 1 at 4096) [] ∷ es) in
    let whole : ℕ → Result (List EventView) ScriptFault =
    λ n. front (sent (erase_cmd 2 (at + 4096) (in_sectors (length (drop 4096 image)))) []
    ∷ sent (write_cmd 3 (at + 4096) (length (drop 4096 image))) (drop 4096 image)
    ∷ sent (write_cmd 4 at n) (take 4096 image) ∷ sent (update_cmd 5 at) [] ∷ []) in
    let all = rest-inside at (drop 4096 image) (take 4096 image) (omega (arith, left, small)) (omega (arith, size)) in
    script at image (subst Insides (sym writes) all) ∙ ap front writes ∙ ap whole size
