-- The bytes of a script's events are bytes.
use Rattle.std.proofs.Common.{ℕ, zero, suc, List, [], ◌∷◌, ◌++◌, length, subst, arith, append_assoc}
use Rattle.std.specs.List.{AllByRecursion, flat_map}
use Rattle.byteorder.specs.Endian.{little_bytes}
use Rattle.hex.specs.Hex.{IsBytes}
use Rattle.boot_script.specs.Events.{EventView, End, Command, Uf2, Cut, PowerOn, Reset, Buy}
use Rattle.boot_script.specs.Written.{cut_part_byte, written_event}
use Rattle.script_words.specs.Saying.{HasEventBytes}

front-bytes : (xs ys : List ℕ) → IsBytes (xs ++ ys) → IsBytes xs
front-bytes [] ys are = λ i. omega arith
front-bytes (x ∷ xs) ys are = first (front-bytes xs ys (λ i. are (suc i)))
  where
    first : IsBytes xs → IsBytes (x ∷ xs)
    first others zero = are 0
    first others (suc i) = others i

back-bytes : (xs ys : List ℕ) → IsBytes (xs ++ ys) → IsBytes ys
back-bytes [] ys are = are
back-bytes (x ∷ xs) ys are = back-bytes xs ys (λ i. are (suc i))

event-bytes : (e : EventView) → IsBytes (written_event e) → HasEventBytes e
event-bytes End are = tt
event-bytes (Command command payload) are =
    let tail : IsBytes (command ++ (little_bytes 4 (length payload) ++ payload)) = λ i. are (suc i) in (
      front-bytes command (little_bytes 4 (length payload) ++ payload) tail,
      back-bytes (little_bytes 4 (length payload)) payload
          (back-bytes command (little_bytes 4 (length payload) ++ payload) tail),
    )
event-bytes (Uf2 block) are = λ i. are (suc i)
event-bytes (Cut left within pattern) are =
    let tail : IsBytes (little_bytes 4 left ++ (cut_part_byte within ∷ (little_bytes 2 (length pattern) ++ pattern))) =
    λ i. are (suc i) in
    let behind : IsBytes (cut_part_byte within ∷ (little_bytes 2 (length pattern) ++ pattern)) =
    back-bytes (little_bytes 4 left) (cut_part_byte within ∷ (little_bytes 2 (length pattern) ++ pattern)) tail in
    back-bytes (little_bytes 2 (length pattern)) pattern (λ i. behind (suc i))
event-bytes PowerOn are = tt
event-bytes (Reset kind) are = tt
event-bytes Buy are = tt

pub script-bytes : (es : List EventView) (rest : List ℕ) → IsBytes (flat_map written_event es ++ rest)
    → AllByRecursion HasEventBytes es
script-bytes [] rest are = tt
script-bytes (e ∷ es) rest are =
    let whole : IsBytes (written_event e ++ (flat_map written_event es ++ rest)) =
    subst IsBytes (append_assoc (written_event e) (flat_map written_event es) rest) are in (
      event-bytes e (front-bytes (written_event e) (flat_map written_event es ++ rest) whole),
      script-bytes es rest (back-bytes (written_event e) (flat_map written_event es ++ rest) whole),
    )
