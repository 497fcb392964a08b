-- What is read as an event is what is written of it, and then other bytes.
use Rattle.std.proofs.Common.{◌≡◌, ℕ, zero, suc, ◌+◌, ◌^◌, ◌<◌, ◌≤◌, ◌==◌, Bool, true, false, List, [], ◌∷◌, ◌++◌, length, take, drop, get_or, arith, refl, sym, ap, subst, ◌∙◌, append_assoc, length-append, inl, inr, lit<}
use Rattle.std.specs.Prelude.{◌⊎◌, All, Result, Ok, Err, Option, Some, None, slice_index}
use Rattle.std.proofs.lemmas.Bool.{cases_lt, cases_eq, lt-ltb, le-ltb, ne_eqb}
use Rattle.std.proofs.lemmas.List.{take-append-drop, length-take-le, get_or_past}
use Rattle.std.proofs.lemmas.Grind.{common_steps}
use Rattle.std.proofs.lemmas.Bool.Decides.{nat_tests}
use Rattle.byteorder.specs.Endian.{little_number, little_bytes}
use Rattle.byteorder.specs.Numbers.{little_from-lt}
use Rattle.pico_board.specs.Cuts.{IsPattern}
use Rattle.pico_board.specs.declared.boot.BootKind.{BootKind}
use Rattle.boot_script.specs.declared.event.ScriptFault.{ScriptFault}
use Rattle.boot_script.specs.declared.event.ScriptFault.TheVariants.{Kind, Short, Pattern}
use Rattle.boot_script.specs.Events.{EventView, End, Command, Uf2, Cut, PowerOn, Reset, Buy, IsWellFormed, IsWritableEvent, base_of}
use Rattle.boot_script.specs.Written.{written_event, cut_part_byte, reset_byte}
use Rattle.boot_script.specs.Reading.{with_rest, payload_in, command_event_in, uf2_in, cut_event_in, is_cut, reset_in, reset_of, reset_event, event_in, and_next, event_at}
use Rattle.boot_script.proofs.NumberLemmas.{AreBytes, bytes-drop, word-back, word-cells, half-cells}
use Rattle.boot_script.proofs.ReadBackLemmas.{with_rest-is, payload_in-is, command_in-is, uf2_in-is, cut_in-is, reset_in-is}

-- the bytes are those of the event, and then others
pub record IsSpelled (bs : List ℕ) (e : EventView) : Type 0 where
  pub rest : List ℕ
  pub bytes : bs ≡ written_event e ++ rest
  pub well : IsWellFormed e

-- what is read where the bytes are not there
pub with_rest-short : (at size : ℕ) (rest : List ℕ) (event : List ℕ → EventView) → length rest < size
    → with_rest at size rest event ≡ Err (Short at)
with_rest-short at size rest event short = rw (lt-ltb (length rest) size short) refl

pub payload_in-short : (at : ℕ) (command bs : List ℕ) → length bs < 4 → payload_in at command bs ≡ Err (Short at)
payload_in-short at command bs short = rw (lt-ltb (length bs) 4 short) refl

pub command_in-short : (at : ℕ) (bs : List ℕ) → length bs < 32 → command_event_in at bs ≡ Err (Short at)
command_in-short at bs short = rw (lt-ltb (length bs) 32 short) refl

pub uf2_in-short : (at : ℕ) (bs : List ℕ) → length bs < 512 → uf2_in at bs ≡ Err (Short at)
uf2_in-short at bs short = rw (lt-ltb (length bs) 512 short) refl

pub cut_in-short : (at : ℕ) (bs : List ℕ) → length bs < 7 → cut_event_in at bs ≡ Err (Short at)
cut_in-short at bs short = rw (lt-ltb (length bs) 7 short) refl

pub cut_in-bad : (at : ℕ) (bs : List ℕ) → 7 ≤ length bs
    → is_cut (slice_index bs 4) (little_number 2 (drop 5 bs)) ≡ false
    → cut_event_in at bs ≡ Err (Pattern at)
cut_in-bad at bs long bad = rw (le-ltb (length bs) 7 long, bad) refl

pub reset_in-short : (at : ℕ) (bs : List ℕ) → length bs < 5 → reset_in at bs ≡ Err (Short at)
reset_in-short at bs short = rw (lt-ltb (length bs) 5 short) refl

pub no-kind : (at kind : ℕ) (rest : List ℕ) → 6 < kind → event_in at (kind ∷ rest) ≡ Err (Kind at)
no-kind at kind rest past =
    rw (
      ne_eqb kind 0 (omega arith),
      ne_eqb kind 1 (omega arith),
      ne_eqb kind 2 (omega arith),
      ne_eqb kind 3
          (omega arith),
      ne_eqb kind 4 (omega arith),
      ne_eqb kind 5 (omega arith),
      ne_eqb kind 6 (omega arith),
    ) refl

-- a payload or a pattern that is read is there
with_rest-found : (at size : ℕ) (rest : List ℕ) (event : List ℕ → EventView) (e : EventView)
    → with_rest at size rest event ≡ Ok e
    → (size ≤ length rest) × (e ≡ event (take size rest))
with_rest-found at size rest event e read = by_size (cases_lt (length rest) size)
  where
    by_size : (length rest < size) ⊎ (size ≤ length rest) → (size ≤ length rest) × (e ≡ event (take size rest))
    by_size (inl short) = let none = with_rest-short at size rest event short in cc
    by_size (inr long) = let one = with_rest-is at size rest event long in (long, cc)

-- a list in two parts
parts : (n : ℕ) (xs : List ℕ) → xs ≡ take n xs ++ drop n xs
parts n xs = sym (take-append-drop n xs)

command-spelled : (command bs : List ℕ) (n : ℕ) → length command ≡ 32 → AreBytes bs → 4 ≤ length bs
    → n ≡ little_number 4 bs → n ≤ length (drop 4 bs)
    → IsSpelled (1 ∷ (command ++ bs)) (Command command (take n (drop 4 bs)))
command-spelled command bs n long bytes there is inside =
    let size : length (take n (drop 4 bs)) ≡ n = length-take-le n (drop 4 bs) inside in
    let word : little_bytes 4 (length (take n (drop 4 bs))) ≡ take 4 bs =
    ap (λ m. little_bytes 4 m) (size ∙ is) ∙ word-back bs there bytes in
    let whole : bs ≡ (little_bytes 4 (length (take n (drop 4 bs))) ++ take n (drop 4 bs)) ++ drop n (drop 4 bs) =
    parts 4 bs ∙ ap (λ xs. take 4 bs ++ xs) (parts n (drop 4 bs))
    ∙ sym (append_assoc (take 4 bs) (take n (drop 4 bs)) (drop n (drop 4 bs)))
    ∙ ap (λ w. (w ++ take n (drop 4 bs)) ++ drop n (drop 4 bs)) (sym word) in
    record {
      rest = drop n (drop 4 bs);
      bytes = ap (λ xs. 1 ∷ (command ++ xs)) whole
          ∙ ap (λ xs. 1 ∷ xs) (sym (append_assoc command
          (little_bytes 4 (length (take n (drop 4 bs))) ++ take n (drop 4 bs)) (drop n (drop 4 bs))));
      well = (long, omega (arith, size, is, little_from-lt 0 4 bs bytes));
    }

payload-found : (at : ℕ) (command bs : List ℕ) (e : EventView) → length command ≡ 32 → AreBytes bs
    → payload_in at command bs ≡ Ok e
    → IsSpelled (1 ∷ (command ++ bs)) e
payload-found at command bs e long bytes read = by_size (cases_lt (length bs) 4)
  where
    by_size : (length bs < 4) ⊎ (4 ≤ length bs) → IsSpelled (1 ∷ (command ++ bs)) e
    by_size (inl short) = let none = payload_in-short at command bs short in absurd (cc)
    by_size (inr there) =
        let found = with_rest-found at (little_number 4 bs) (drop 4 bs) (Command command) e
        (sym (payload_in-is at command bs there) ∙ read) in
        subst (λ x. IsSpelled (1 ∷ (command ++ bs)) x) (sym found.1)
        (command-spelled command bs (little_number 4 bs) long bytes there refl found.0)

command-found : (at : ℕ) (bs : List ℕ) (e : EventView) → AreBytes bs → command_event_in at bs ≡ Ok e
    → IsSpelled (1 ∷ bs) e
command-found at bs e bytes read = by_size (cases_lt (length bs) 32)
  where
    by_size : (length bs < 32) ⊎ (32 ≤ length bs) → IsSpelled (1 ∷ bs) e
    by_size (inl short) = let none = command_in-short at bs short in absurd (cc)
    by_size (inr there) =
        subst (λ xs. IsSpelled (1 ∷ xs) e) (take-append-drop 32 bs)
        (payload-found at (take 32 bs) (drop 32 bs) e (length-take-le 32 bs there) (bytes-drop 32 bs bytes)
        (sym (command_in-is at bs there) ∙ read))

uf2-found : (at : ℕ) (bs : List ℕ) (e : EventView) → uf2_in at bs ≡ Ok e → IsSpelled (2 ∷ bs) e
uf2-found at bs e read = by_size (cases_lt (length bs) 512)
  where
    by_size : (length bs < 512) ⊎ (512 ≤ length bs) → IsSpelled (2 ∷ bs) e
    by_size (inl short) = let none = uf2_in-short at bs short in absurd (cc)
    by_size (inr there) =
        let one = uf2_in-is at bs there in
        let is : Uf2 (take 512 bs) ≡ e = cc in
        subst (λ x. IsSpelled (2 ∷ bs) x) is
        (record {
          rest = drop 512 bs;
          bytes = ap (λ xs. 2 ∷ xs) (parts 512 bs);
          well =
              length-take-le 512 bs there;
        })

-- what the tests on a cut say
pub is_cut-before : (size : ℕ) → is_cut 0 size ≡ true → size ≡ 0
is_cut-before size fits = by_size (cases_eq size 0)
  where
    by_size : (size ≡ 0) ⊎ (size ≡ 0 → ⊥) → size ≡ 0
    by_size (inl none) = none
    by_size (inr some) = let no = ne_eqb size 0 some in absurd (cc)

pub is_cut-within : (size : ℕ) → is_cut 1 size ≡ true → (1 ≤ size) × (size ≤ 4096)
is_cut-within size fits = grind (arith, nat_tests)

pub is_cut-none : (part size : ℕ) → 2 ≤ part → is_cut part size ≡ false
is_cut-none part size more = rw (ne_eqb part 0 (omega arith), ne_eqb part 1 (omega arith)) refl

cut-pattern : (part size : ℕ) (pattern : List ℕ) → is_cut part size ≡ true → length pattern ≡ size
    → IsPattern (part == 1) pattern × (cut_part_byte (part == 1) ≡ part)
cut-pattern zero size pattern fits is = (is ∙ is_cut-before size fits, refl)
cut-pattern (suc zero) size pattern fits is =
    let bounds = is_cut-within size fits in ((omega (arith, is, bounds.0), omega (arith, is, bounds.1)), refl)
cut-pattern (suc (suc part)) size pattern fits is = let none =
    is_cut-none (suc (suc part)) size (omega arith) in absurd (cc)

cut-spelled : (bs : List ℕ) (n : ℕ) → AreBytes bs → 7 ≤ length bs → n ≡ little_number 2 (drop 5 bs)
    → is_cut (slice_index bs 4) n ≡ true
    → n ≤ length (drop 7 bs) → IsSpelled (3 ∷ bs)
    (Cut (little_number 4 bs) (slice_index bs 4 == 1) (take n (drop 7 bs)))
cut-spelled [] n bytes there is fits inside = absurd (omega arith)
cut-spelled (a ∷ []) n bytes there is fits inside = absurd (omega arith)
cut-spelled (a ∷ b ∷ []) n bytes there is fits inside = absurd (omega arith)
cut-spelled (a ∷ b ∷ c ∷ []) n bytes there is fits inside = absurd (omega arith)
cut-spelled (a ∷ b ∷ c ∷ d ∷ []) n bytes there is fits inside = absurd (omega arith)
cut-spelled (a ∷ b ∷ c ∷ d ∷ p ∷ []) n bytes there is fits inside = absurd (omega arith)
cut-spelled (a ∷ b ∷ c ∷ d ∷ p ∷ x ∷ []) n bytes there is fits inside = absurd (omega arith)
cut-spelled (a ∷ b ∷ c ∷ d ∷ p ∷ x ∷ y ∷ bs) n bytes there is fits inside =
    let size : length (take n bs) ≡ n = length-take-le n bs inside in
    let pattern = cut-pattern p n (take n bs) fits size in
    let four = word-cells a b c d (bytes 0) (bytes 1) (bytes 2) (bytes 3) in
    let two : little_bytes 2 (length (take n bs)) ≡ x ∷ y ∷ [] =
    ap (λ m. little_bytes 2 m) (size ∙ is) ∙ half-cells x y (bytes 5) (bytes 6) in
    record {
      rest = drop n bs;
      bytes = ap (λ xs. 3 ∷ a ∷ b ∷ c ∷ d ∷ p ∷ x ∷ y ∷ xs) (parts n bs)
          ∙ ap (λ w. 3 ∷ (w ++ (p ∷ x ∷ y ∷ (take n bs ++ drop n bs)))) (sym four)
          ∙ ap (λ q. 3 ∷ (little_bytes 4 (little_number 4 (a ∷ b ∷ c ∷ d ∷ []))
          ++ (q ∷ x ∷ y ∷ (take n bs ++ drop n bs)))) (sym pattern.1)
          ∙ ap (λ h. 3 ∷ (little_bytes 4 (little_number 4 (a ∷ b ∷ c ∷ d ∷ []))
          ++ (cut_part_byte (p == 1) ∷ (h ++ (take n bs ++ drop n bs))))) (sym two);
      well = (little_from-lt 0 4 (a ∷ b ∷ c ∷ d ∷ p ∷ x ∷ y ∷ bs) bytes, pattern.0);
    }

cut-found : (at : ℕ) (bs : List ℕ) (e : EventView) → AreBytes bs → cut_event_in at bs ≡ Ok e → IsSpelled (3 ∷ bs) e
cut-found at bs e bytes read = by_size (cases_lt (length bs) 7)
  where
    by_fit : 7 ≤ length bs → (b : Bool) → is_cut (slice_index bs 4) (little_number 2 (drop 5 bs)) ≡ b
        → IsSpelled (3 ∷ bs) e
    by_fit there false bad = let none = cut_in-bad at bs there bad in absurd (cc)
    by_fit there true fits =
        let found = with_rest-found at (little_number 2 (drop 5 bs)) (drop 7 bs)
        (Cut (little_number 4 bs) (slice_index bs 4 == 1)) e (sym (cut_in-is at bs there fits) ∙ read) in
        subst (λ x. IsSpelled (3 ∷ bs) x) (sym found.1)
        (cut-spelled bs (little_number 2 (drop 5 bs)) bytes there refl fits found.0)

    by_size : (length bs < 7) ⊎ (7 ≤ length bs) → IsSpelled (3 ∷ bs) e
    by_size (inl short) = let none = cut_in-short at bs short in absurd (cc)
    by_size (inr there) = by_fit there _ refl

-- the boot that is found of a reset's kind byte and base has these
pub reset_of-found : (kind base : ℕ) (boot : BootKind) → reset_of kind base ≡ Some boot
    → (reset_byte boot ≡ kind) × (base_of boot ≡ base)
reset_of-found kind base boot is = grind (arith, common_steps, nat_tests)

reset-spelled : (bs : List ℕ) (boot : BootKind) → AreBytes bs → 5 ≤ length bs → reset_byte boot ≡ slice_index bs 0
    → base_of boot ≡ little_number 4 (drop 1 bs)
    → IsSpelled (5 ∷ bs) (Reset boot)
reset-spelled [] boot bytes there kind base = absurd (omega arith)
reset-spelled (k ∷ bs) boot bytes there kind base =
    let word : little_bytes 4 (base_of boot) ≡ take 4 bs =
    ap (λ m. little_bytes 4 m) base ∙ word-back bs (omega arith) (λ i. bytes (suc i)) in
    record {
      rest = drop 4 bs;
      bytes = ap (λ xs. 5 ∷ k ∷ xs) (parts 4 bs) ∙ ap (λ w. 5 ∷ k ∷ (w ++ drop 4 bs)) (sym word)
          ∙ ap (λ q. 5 ∷ q ∷ (little_bytes 4 (base_of boot) ++ drop 4 bs)) (sym kind);
      well = omega (arith, base, little_from-lt 0 4 bs (λ i. bytes (suc i)));
    }

reset-found : (at : ℕ) (bs : List ℕ) (e : EventView) → AreBytes bs → reset_in at bs ≡ Ok e → IsSpelled (5 ∷ bs) e
reset-found at bs e bytes read = by_size (cases_lt (length bs) 5)
  where
    by_boot : 5 ≤ length bs → (found : Option BootKind)
        → reset_of (slice_index bs 0) (little_number 4 (drop 1 bs)) ≡ found
        → reset_event at found ≡ Ok e → IsSpelled (5 ∷ bs) e
    by_boot there None is answer = absurd (cc)
    by_boot there (Some boot) is answer =
        let fields = reset_of-found (slice_index bs 0) (little_number 4 (drop 1 bs)) boot is in
        let same : Reset boot ≡ e = cc in
        subst (λ x. IsSpelled (5 ∷ bs) x) same (reset-spelled bs boot bytes there fields.0 fields.1)

    by_size : (length bs < 5) ⊎ (5 ≤ length bs) → IsSpelled (5 ∷ bs) e
    by_size (inl short) = let none = reset_in-short at bs short in absurd (cc)
    by_size (inr there) = by_boot there _ refl (sym (reset_in-is at bs there) ∙ read)

ok-same : (x e : EventView) → ◌≡◌ {A = Result EventView ScriptFault} (Ok x) (Ok e) → x ≡ e
ok-same x e same = cc

bare-found : (kind : ℕ) (bs : List ℕ) (x e : EventView) → x ≡ e → written_event x ≡ kind ∷ [] → IsWellFormed x
    → IsSpelled (kind ∷ bs) e
bare-found kind bs x e same is well =
    subst (λ y. IsSpelled (kind ∷ bs) y) same (record { rest = bs; bytes = ap (λ w. w ++ bs) (sym is); well = well })

pub event-spelled : (at : ℕ) (bs : List ℕ) (e : EventView) → AreBytes bs → event_in at bs ≡ Ok e → IsSpelled bs e
event-spelled at [] e bytes read = absurd (cc)
event-spelled at (zero ∷ bs) e bytes read = bare-found 0 bs End e (ok-same End e read) refl tt
event-spelled at (suc zero ∷ bs) e bytes read = command-found at bs e (λ i. bytes (suc i)) read
event-spelled at (suc (suc zero) ∷ bs) e bytes read = uf2-found at bs e read
event-spelled at (suc (suc (suc zero)) ∷ bs) e bytes read = cut-found at bs e (λ i. bytes (suc i)) read
event-spelled at (suc (suc (suc (suc zero))) ∷ bs) e bytes read =
    bare-found 4 bs PowerOn e (ok-same PowerOn e read) refl tt
event-spelled at (suc (suc (suc (suc (suc zero)))) ∷ bs) e bytes read = reset-found at bs e (λ i. bytes (suc i)) read
event-spelled at (suc (suc (suc (suc (suc (suc zero))))) ∷ bs) e bytes read =
    bare-found 6 bs Buy e (ok-same Buy e read) refl tt
event-spelled at (suc (suc (suc (suc (suc (suc (suc kind)))))) ∷ bs) e bytes read =
    let none = no-kind at (suc (suc (suc (suc (suc (suc (suc kind))))))) bs (omega arith) in absurd (cc)

-- so it lies inside the bytes
pub spelled-inside : (bs : List ℕ) (e : EventView) → IsSpelled bs e → length (written_event e) ≤ length bs
spelled-inside bs e spelled = omega (arith, ap length spelled.bytes, length-append (written_event e) spelled.rest)

pub event-inside : (at : ℕ) (bs : List ℕ) (e : EventView) → AreBytes bs → event_in at bs ≡ Ok e
    → length (written_event e) ≤ length bs
event-inside at bs e bytes read = spelled-inside bs e (event-spelled at bs e bytes read)

-- and each event has a byte at least
pub event-some : (e : EventView) → 1 ≤ length (written_event e)
event-some End = omega arith
event-some (Command command payload) = omega arith
event-some (Uf2 block) = omega arith
event-some (Cut left within pattern) = omega arith
event-some PowerOn = omega arith
event-some (Reset kind) = omega arith
event-some Buy = omega arith

-- what is read of a script of the greatest length can be written
pub spelled-writable : (bs : List ℕ) (e : EventView) → length bs ≤ 2 ^ 26 → IsSpelled bs e → IsWritableEvent e
spelled-writable bs End few spelled = tt
spelled-writable bs (Command command payload) few spelled =
    omega (
      arith,
      spelled-inside bs (Command command payload) spelled,
      length-append command
          (little_bytes 4 (length payload) ++ payload),
    )
spelled-writable bs (Uf2 block) few spelled = tt
spelled-writable bs (Cut left within pattern) few spelled = spelled.well.1
spelled-writable bs PowerOn few spelled = tt
spelled-writable bs (Reset kind) few spelled = tt
spelled-writable bs Buy few spelled = tt

-- the same of the bytes at an offset
pub are-bytes : (bytes : List ℕ) → All (λ b. b < 256) bytes → AreBytes bytes
are-bytes bytes small i = by_place (cases_lt i (length bytes))
  where
    by_place : (i < length bytes) ⊎ (length bytes ≤ i) → get_or bytes i 0 < 256
    by_place (inl inside) = small i 0 inside
    by_place (inr past) = rw (get_or_past bytes i 0 past) (lit< tt)

next-read : (at : ℕ) (r : Result EventView ScriptFault) (e : EventView) (next : ℕ) → and_next at r ≡ Ok (e, next)
    → (r ≡ Ok e) × (next ≡ at + length (written_event e))
next-read at (Err fault) e next read = absurd (cc)
next-read at (Ok x) e next read =
    let pair : (x, at + length (written_event x)) ≡ (e, next) = cc in
    let same : x ≡ e = ap (λ (p : EventView × ℕ). p.0) pair in
    (ap (λ y. Ok y) same, sym (ap (λ (p : EventView × ℕ). p.1) pair) ∙ ap (λ y. at + length (written_event y)) same)

pub read-at : (bytes : List ℕ) (at : ℕ) (e : EventView) (next : ℕ) → event_at bytes at ≡ Ok (e, next)
    → (event_in at (drop at bytes) ≡ Ok e) × (next ≡ at + length (written_event e))
read-at bytes at e next read = next-read at (event_in at (drop at bytes)) e next read

next-fault : (at : ℕ) (r : Result EventView ScriptFault) (f : ScriptFault) → and_next at r ≡ Err f → r ≡ Err f
next-fault at (Err fault) f read = let same : fault ≡ f = cc in ap (λ g. Err g) same
next-fault at (Ok e) f read = absurd (cc)

pub fault-at : (bytes : List ℕ) (at : ℕ) (f : ScriptFault) → event_at bytes at ≡ Err f
    → event_in at (drop at bytes) ≡ Err f
fault-at bytes at f read = next-fault at (event_in at (drop at bytes)) f read
