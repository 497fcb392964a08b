-- What is written of an event is read again, whatever follows it.
use Rattle.std.proofs.Common.{◌≡◌, ℕ, ◌+◌, ◌^◌, ◌<◌, ◌≤◌, ◌==◌, Bool, true, false, List, ◌∷◌, ◌++◌, length, take, drop, arith, refl, ap, subst, ◌∙◌, append_assoc, length-append}
use Rattle.std.specs.Prelude.{Ok, slice_index}
use Rattle.std.proofs.lemmas.Bool.{le-ltb, le-leb, eq-eqb}
use Rattle.std.proofs.Math.Seq.{take-append_seam, drop-append_seam}
use Rattle.byteorder.specs.Endian.{little_number, little_bytes}
use Rattle.byteorder.specs.Numbers.{little_number-reads_back}
use Rattle.pico_board.specs.Cuts.{IsPattern}
use Rattle.pico_board.specs.declared.boot.BootKind.{BootKind}
use Rattle.pico_board.specs.declared.boot.BootKind.TheVariants.{Normal, Bootsel, Update}
use Rattle.boot_script.specs.Events.{EventView, End, Command, Uf2, Cut, PowerOn, Reset, Buy, IsWellFormed, base_of}
use Rattle.boot_script.specs.Written.{written_event, cut_part_byte, reset_byte}
use Rattle.boot_script.specs.Reading.{with_rest, payload_in, command_event_in, uf2_in, cut_event_in, is_cut, reset_in, reset_of, reset_event, event_in, and_next, event_at}

-- what is read where the bytes are there
pub with_rest-is : (at size : ℕ) (rest : List ℕ) (event : List ℕ → EventView) → size ≤ length rest
    → with_rest at size rest event ≡ Ok (event (take size rest))
with_rest-is at size rest event long = rw (le-ltb (length rest) size long) refl

pub payload_in-is : (at : ℕ) (command bs : List ℕ) → 4 ≤ length bs
    → payload_in at command bs ≡ with_rest at (little_number 4 bs) (drop 4 bs) (Command command)
payload_in-is at command bs long = rw (le-ltb (length bs) 4 long) refl

pub command_in-is : (at : ℕ) (bs : List ℕ) → 32 ≤ length bs
    → command_event_in at bs ≡ payload_in at (take 32 bs) (drop 32 bs)
command_in-is at bs long = rw (le-ltb (length bs) 32 long) refl

pub uf2_in-is : (at : ℕ) (bs : List ℕ) → 512 ≤ length bs → uf2_in at bs ≡ Ok (Uf2 (take 512 bs))
uf2_in-is at bs long = rw (le-ltb (length bs) 512 long) refl

pub cut_in-is : (at : ℕ) (bs : List ℕ) → 7 ≤ length bs
    → is_cut (slice_index bs 4) (little_number 2 (drop 5 bs)) ≡ true
    → cut_event_in at bs ≡ with_rest at (little_number 2 (drop 5 bs)) (drop 7 bs)
    (Cut (little_number 4 bs) (slice_index bs 4 == 1))
cut_in-is at bs long fits = rw (le-ltb (length bs) 7 long, fits) refl

pub reset_in-is : (at : ℕ) (bs : List ℕ) → 5 ≤ length bs
    → reset_in at bs ≡ reset_event at (reset_of (slice_index bs 0) (little_number 4 (drop 1 bs)))
reset_in-is at bs long = rw (le-ltb (length bs) 5 long) refl

-- a payload or a pattern of the given size, and then others
with_rest-front : (at size : ℕ) (xs rest : List ℕ) (event : List ℕ → EventView) → size ≡ length xs
    → with_rest at size (xs ++ rest) event ≡ Ok (event xs)
with_rest-front at size xs rest event is =
    ap (λ n. with_rest at n (xs ++ rest) event) is
    ∙ with_rest-is at (length xs) (xs ++ rest) event (omega (arith, length-append xs rest))
    ∙ ap (λ ys. Ok (event ys)) (take-append_seam xs rest)

payload-back : (at : ℕ) (command payload rest : List ℕ) → length payload < 2 ^ 32
    → payload_in at command (little_bytes 4 (length payload) ++ (payload ++ rest)) ≡ Ok (Command command payload)
payload-back at command payload rest few =
    payload_in-is at command (little_bytes 4 (length payload) ++ (payload ++ rest)) (omega arith)
    ∙ with_rest-front at (little_number 4 (little_bytes 4 (length payload) ++ (payload ++ rest))) payload rest
    (Command command)
    (little_number-reads_back 4 (length payload) (payload ++ rest) few)

pub command-front : (at : ℕ) (command xs : List ℕ) → length command ≡ 32
    → command_event_in at (command ++ xs) ≡ payload_in at command xs
command-front at command xs long =
    let front : take 32 (command ++ xs) ≡ command =
    subst (λ n. take n (command ++ xs) ≡ command) long (take-append_seam command xs) in
    let behind : drop 32 (command ++ xs) ≡ xs =
    subst (λ n. drop n (command ++ xs) ≡ xs) long (drop-append_seam command xs) in
    command_in-is at (command ++ xs) (omega (arith, length-append command xs, long))
    ∙ ap (λ c. payload_in at c (drop 32 (command ++ xs))) front ∙ ap (λ ys. payload_in at command ys) behind

command-back : (at : ℕ) (command payload rest : List ℕ) → length command ≡ 32 → length payload < 2 ^ 32
    → command_event_in at ((command ++ (little_bytes 4 (length payload) ++ payload)) ++ rest)
    ≡ Ok (Command command payload)
command-back at command payload rest long few =
    ap (λ bs. command_event_in at bs) (append_assoc command (little_bytes 4 (length payload) ++ payload) rest)
    ∙ command-front at command ((little_bytes 4 (length payload) ++ payload) ++ rest) long
    ∙ payload-back at command payload rest few

pub uf2-back : (at : ℕ) (block rest : List ℕ) → length block ≡ 512 → uf2_in at (block ++ rest) ≡ Ok (Uf2 block)
uf2-back at block rest long =
    let front : take 512 (block ++ rest) ≡ block =
    subst (λ n. take n (block ++ rest) ≡ block) long (take-append_seam block rest) in
    uf2_in-is at (block ++ rest) (omega (arith, length-append block rest, long)) ∙ ap (λ b. Ok (Uf2 b)) front

fits-cut : (within : Bool) (pattern : List ℕ) → IsPattern within pattern
    → is_cut (cut_part_byte within) (length pattern) ≡ true
fits-cut true pattern fits = rw (le-leb 1 (length pattern) fits.0, le-leb (length pattern) 4096 fits.1) refl
fits-cut false pattern fits = eq-eqb (length pattern) 0 fits

few-cut : (within : Bool) (pattern : List ℕ) → IsPattern within pattern → length pattern < 2 ^ 16
few-cut true pattern fits = omega (arith, fits.1)
few-cut false pattern fits = omega (arith, fits)

part-back : (within : Bool) → (cut_part_byte within == 1) ≡ within
part-back true = refl
part-back false = refl

cut-back : (at left : ℕ) (within : Bool) (pattern rest : List ℕ) → left < 2 ^ 32 → IsPattern within pattern
    → cut_event_in at ((little_bytes 4 left ++ (cut_part_byte within ∷ (little_bytes 2 (length pattern) ++ pattern)))
    ++ rest)
    ≡ Ok (Cut left within pattern)
cut-back at left within pattern rest low fits =
    let size = little_number-reads_back 2 (length pattern) (pattern ++ rest) (few-cut within pattern fits) in
    let steps = little_number-reads_back 4 left
    (cut_part_byte within ∷ (little_bytes 2 (length pattern) ++ (pattern ++ rest))) low in
    cut_in-is at (little_bytes 4 left ++ (cut_part_byte within
    ∷ (little_bytes 2 (length pattern) ++ (pattern ++ rest))))
    (omega arith)
    (ap (λ n. is_cut (cut_part_byte within) n) size ∙ fits-cut within pattern fits)
    ∙ with_rest-front at (little_number 2 (little_bytes 2 (length pattern) ++ (pattern ++ rest))) pattern rest
    (Cut (little_number 4 (little_bytes 4 left
    ++ (cut_part_byte within ∷ (little_bytes 2 (length pattern) ++ (pattern ++ rest)))))
    (cut_part_byte within == 1)) size
    ∙ ap (λ n. Ok (Cut n (cut_part_byte within == 1) pattern)) steps
    ∙ ap (λ w. Ok (Cut left w pattern)) (part-back within)

reset-back : (at : ℕ) (kind : BootKind) (rest : List ℕ) → base_of kind < 2 ^ 32
    → reset_in at (reset_byte kind ∷ (little_bytes 4 (base_of kind) ++ rest)) ≡ Ok (Reset kind)
reset-back at kind rest low =
    reset_in-is at (reset_byte kind ∷ (little_bytes 4 (base_of kind) ++ rest)) (omega arith)
    ∙ ap (λ b. reset_event at (reset_of (reset_byte kind) b)) (little_number-reads_back 4 (base_of kind) rest low)
    ∙ by_kind kind
  where
    by_kind : (k : BootKind) → reset_event at (reset_of (reset_byte k) (base_of k)) ≡ Ok (Reset k)
    by_kind Normal = refl
    by_kind Bootsel = refl
    by_kind (Update base) = refl

-- an event's bytes, and then any others
pub event-back : (at : ℕ) (e : EventView) (rest : List ℕ) → IsWellFormed e
    → event_in at (written_event e ++ rest) ≡ Ok e
event-back at End rest well = refl
event-back at (Command command payload) rest well = command-back at command payload rest well.0 well.1
event-back at (Uf2 block) rest well = uf2-back at block rest well
event-back at (Cut left within pattern) rest well = cut-back at left within pattern rest well.0 well.1
event-back at PowerOn rest well = refl
event-back at (Reset kind) rest well = reset-back at kind rest well
event-back at Buy rest well = refl

-- the same in the middle of other bytes
pub back-at : (front rest : List ℕ) (e : EventView) → IsWellFormed e
    → event_at (front ++ (written_event e ++ rest)) (length front) ≡ Ok (e, length front + length (written_event e))
back-at front rest e well =
    ap (λ bs. and_next (length front) (event_in (length front) bs)) (drop-append_seam front (written_event e ++ rest))
    ∙ ap (λ r. and_next (length front) r) (event-back (length front) e rest well)
