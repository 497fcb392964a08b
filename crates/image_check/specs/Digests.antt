-- What is remembered of the digests of windows. A digest depends on the bytes of its window alone,
-- so what was answered once holds until a step changes one of them. This project's own.
use Rattle.std.specs.Prelude.{◌≡◌, ℕ, ◌+◌, ◌-◌, ◌^◌, ◌≤◌, min, Bool, true, false, ◌&&◌, ◌||◌, if◌then◌else◌, nat_le, nat_lt, List, [], ◌∷◌, ◌++◌, length, filter, Option, Some, None, Result, Ok}
use Rattle.std.specs.List.{AllByRecursion}
use Rattle.std.specs.Option.{is_none}
use Rattle.pico_board.specs.declared.boot.Cpu.{Cpu}
use Rattle.pico_board.specs.declared.boot.Cpu.TheVariants.{Arm, Riscv}
use Rattle.pico_board.specs.declared.window.Window.{Window}
use Rattle.pico_board.specs.Content.{Content, window_bytes}
use Rattle.pico_board.specs.Windows.{is_same_window}
use Rattle.image_check.specs.declared.examining.Candidate.{Candidate}
use Rattle.image_check.specs.declared.digests.Digested.{Digested}
use Rattle.image_check.specs.declared.digests.Digests.{Digests}
use Rattle.image_check.specs.declared.why.Why.{Why}
use Rattle.image_check.specs.declared.why.Why.TheVariants.{Digest}
use Rattle.image_check.specs.Addressing.{in_flash}
use Rattle.image_check.specs.Answers.{and_then}
use Rattle.image_check.specs.Examined.{loaded_in}
use Rattle.image_check.specs.Image.{defined_in}
use Rattle.image_check.specs.Rules.{digest_fault}

-- the image of a window with these bytes whose digest may be asked for. The rules on the loop, the
-- definition, the processor, the items, the map and the entry hold of it
abbrev pub candidate_of : Cpu → List ℕ → Result Candidate Why
candidate_of cpu bytes = and_then (defined_in cpu bytes) (loaded_in in_flash cpu bytes)

-- what the digest rule answers of that image
abbrev pub candidate_fault : List ℕ → Candidate → Option Why
candidate_fault bytes x = digest_fault bytes x.block x.def x.loads.items x.def.digest

-- the answer of the digest rule where the digest is right, and where it is wrong
abbrev pub answer_of : Bool → Option Why
answer_of true = None
answer_of false = Some Digest

-- an entry says what the digest rule answers of the image of its window for its processor
abbrev pub IsTrueOf : Content → Digested → Type 0
IsTrueOf c e = (x : Candidate) → candidate_of e.cpu (window_bytes c e.window) ≡ Ok x
    → candidate_fault (window_bytes c e.window) x ≡ answer_of e.right

-- Knows: each entry is true of the content
abbrev pub Knows : Digests → Content → Type 0
Knows d c = AllByRecursion (IsTrueOf c) d.entries.items

-- the two processors are the same
abbrev pub is_same : Cpu → Cpu → Bool
is_same Arm Arm = true
is_same Riscv Riscv = true
is_same _ _ = false

-- the entry is of this window and for this processor
abbrev pub is_of : Window → Cpu → Digested → Bool
is_of w cpu e = is_same_window e.window w && is_same e.cpu cpu

-- whether the digest of the image of a window is right, where it is remembered
abbrev pub remembered : Window → Cpu → List Digested → Option Bool
remembered w cpu [] = None
remembered w cpu (e ∷ es) = if is_of w cpu e then Some e.right else remembered w cpu es

-- a window ends where the range begins or before, or begins where it ends or behind
abbrev pub is_apart : ℕ → ℕ → Window → Bool
is_apart start len w = nat_le (w.start + w.len) start || nat_le (start + len) w.start

-- the entries whose windows share no byte with the range
abbrev pub entries_apart : ℕ → ℕ → List Digested → List Digested
entries_apart start len es = filter (λ (e : Digested). is_apart start len e.window) es

-- a further entry; where 16 are kept, all of them go for it
abbrev pub with_entry : Digested → List Digested → List Digested
with_entry e es = if nat_lt (length es) 16 then es ++ e ∷ [] else e ∷ []

-- the memory after a digest was made; the count saturates
abbrev pub noted : Digested → Digests → Digests
noted e d = record {
  entries = record { items = with_entry e d.entries.items };
  made = min (d.made + 1) (2 ^ 64 - 1);
}

-- the memory after a digest was asked for: nothing is noted of one that is remembered
abbrev pub noted_unless : Option Bool → Digested → Digests → Digests
noted_unless None e d = noted e d
noted_unless (Some right) e d = d

-- the memory after the digest rule has answered: an image without a HASH_VALUE has no digest
abbrev pub asked : Window → Cpu → Option (List ℕ) → Option Why → Digests → Digests
asked w cpu None answer d = d
asked w cpu (Some value) answer d =
    noted_unless (remembered w cpu d.entries.items)
    (record { window = w; cpu = cpu; right = is_none answer }) d

-- at most so many digests were made between the one memory and the other
abbrev pub MakesAtMost : ℕ → Digests → Digests → Type 0
MakesAtMost n before now = now.made ≤ before.made + n
