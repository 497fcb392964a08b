-- How long scripts of some events are, and which are within the limits.
use Rattle.std.proofs.Common.{◌≡◌, ℕ, zero, suc, ◌+◌, ◌<◌, ◌≤◌, List, [], ◌∷◌, ◌++◌, length, replicate, refl, ap, arith, length-append}
use Rattle.std.specs.List.{flat_map}
use Rattle.std.proofs.lemmas.List.{length-replicate}
use Rattle.byteorder.specs.Endian.{little_bytes}
use Rattle.boot_script.specs.Events.{Command, End, PowerOn}
use Rattle.boot_script.specs.Written.{written_event}
use Rattle.script_text.specs.Meaning.{IsWithinLimits}
use Rattle.script_text.specs.Reading.{script_of}

pub command-long : (command payload : List ℕ) → length command ≡ 32
    → length (written_event (Command command payload)) ≡ 37 + length payload
command-long command payload long =
    omega (arith, long, length-append command (little_bytes 4 (length payload) ++ payload))

pub powers-long : (n : ℕ) → length (flat_map written_event (replicate n PowerOn)) ≡ n
powers-long zero = refl
powers-long (suc n) = ap suc (powers-long n)

pub powers-within : (n : ℕ) → n ≤ 524287 → IsWithinLimits (replicate n PowerOn)
powers-within n few =
    let many = length-replicate n PowerOn in
    let size = powers-long n in
    let long = length-append (flat_map written_event (replicate n PowerOn)) (written_event End) in record {
      few = omega (arith, many, few);
      short = omega (arith, size, long, few);
    }

pub powers-past : (n : ℕ) → 524287 < n → IsWithinLimits (replicate n PowerOn) → ⊥
powers-past n past within =
    let many = length-replicate n PowerOn in
    let few = within.few in absurd (omega (arith, many, few, past))

-- the size of a script of one command
command-size : (command payload : List ℕ) → length command ≡ 32
    → length (script_of (Command command payload ∷ [])) ≡ 38 + length payload
command-size command payload whole =
    let event = command-long command payload whole in
    let one = length-append (written_event (Command command payload)) [] in
    let long = length-append (flat_map written_event (Command command payload ∷ [])) (written_event End) in
    omega (arith, event, one, long)

pub command-within : (command : List ℕ) (n : ℕ) → length command ≡ 32 → n ≤ 67108826
    → IsWithinLimits (Command command (replicate n 0) ∷ [])
command-within command n whole few =
    let size = command-size command (replicate n 0) whole in
    let payload = length-replicate {A = ℕ} n 0 in record {
      few = omega arith;
      short = omega (arith, size, payload, few);
    }

pub command-past : (command : List ℕ) (n : ℕ) → length command ≡ 32 → 67108826 < n
    → IsWithinLimits (Command command (replicate n 0) ∷ []) → ⊥
command-past command n whole past within =
    let size = command-size command (replicate n 0) whole in
    let payload = length-replicate {A = ℕ} n 0 in
    let short = within.short in absurd (omega (arith, size, payload, short, past))
