-- The patterns of the events of a script of bytes are of bytes.
use Rattle.std.proofs.Common.{◌≡◌, ℕ, ◌-◌, ◌<◌, Ok, suc, List, [], ◌∷◌, ◌++◌, length, subst, arith}
use Rattle.std.specs.List.{AllByRecursion, flat_map}
use Rattle.std.proofs.lemmas.List.Elements.{All-cons, All-head, All-tail}
use Rattle.byteorder.specs.Endian.{little_bytes}
use Rattle.boot_script.specs.Events.{EventView, End, Command, Uf2, Cut as ArmsCut, PowerOn, Reset, Buy}
use Rattle.boot_script.specs.Scripts.{events}
use Rattle.boot_script.specs.Written.{written_event, cut_part_byte}
use Rattle.boot_script.proofs.SpelledLemmas.{are-bytes}
use Rattle.boot_script.proofs.FollowingLemmas.{script-spelled}
use Rattle.cli_course.specs.Outcomes.{AreBytes}
use Rattle.boot_machine.specs.Plays.{IsOfBytes}

-- bytes behind others, and in front of others
bytes-behind : (xs ys : List ℕ) → AreBytes (xs ++ ys) → AreBytes ys
bytes-behind [] ys all = all
bytes-behind (x ∷ xs) ys all = bytes-behind xs ys (All-tail (λ b. b < 256) x (xs ++ ys) all)

bytes-front : (xs ys : List ℕ) → AreBytes (xs ++ ys) → AreBytes xs
bytes-front [] ys all = λ k d lt. absurd (omega (arith, lt))
bytes-front (x ∷ xs) ys all =
    All-cons (λ b. b < 256) x xs (All-head (λ b. b < 256) x (xs ++ ys) all)
    (bytes-front xs ys (All-tail (λ b. b < 256) x (xs ++ ys) all))

-- the pattern of an event that was written in bytes
written-bytes : (e : EventView) → AreBytes (written_event e) → IsOfBytes e
written-bytes End all = tt
written-bytes (Command command payload) all = tt
written-bytes (Uf2 block) all = tt
written-bytes (ArmsCut left within pattern) all =
    bytes-behind (little_bytes 2 (length pattern)) pattern
    (bytes-behind (cut_part_byte within ∷ []) (little_bytes 2 (length pattern) ++ pattern)
    (bytes-behind (little_bytes 4 left) (cut_part_byte within ∷ (little_bytes 2 (length pattern) ++ pattern))
    (bytes-behind (_ ∷ []) (little_bytes 4 left
    ++ (cut_part_byte within ∷ (little_bytes 2 (length pattern) ++ pattern)))
    all)))
written-bytes PowerOn all = tt
written-bytes (Reset kind) all = tt
written-bytes Buy all = tt

all-written : (es : List EventView) → AreBytes (flat_map written_event es) → AllByRecursion IsOfBytes es
all-written [] all = tt
all-written (e ∷ es) all = (
  written-bytes e (bytes-front (written_event e) (flat_map written_event es) all),
  all-written es (bytes-behind (written_event e) (flat_map written_event es) all),
)

-- the events of a script of bytes
pub script-bytes : (script : List ℕ) (es : List EventView) → AreBytes script → events script ≡ Ok es
    → AllByRecursion IsOfBytes es
script-bytes script es small read =
    let s = script-spelled (suc (length script - 0)) 0 script es (are-bytes script small) read in
    all-written es (bytes-front (flat_map written_event es) (written_event End ++ s.rest)
    (subst AreBytes s.bytes small))
