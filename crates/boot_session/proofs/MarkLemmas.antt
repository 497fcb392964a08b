-- A recorder keeps its units: each of its histories begins with their mark. The steps behind it lie in the flash.
use Rattle.std.proofs.Common.{◌≡◌, ℕ, true, ◌+◌, ◌-◌, ◌^◌, ◌<◌, length, List, [], ◌∷◌, ◌++◌, Option, Some, None, refl, sym, ap, ◌∙◌, subst, arith}
use Rattle.std.specs.List.{AllByRecursion}
use Rattle.std.specs.Option.{option_or}
use Rattle.pico_board.specs.declared.Step.{Step}
use Rattle.pico_board.specs.declared.step.Step.TheVariants.{Program}
use Rattle.pico_board.specs.declared.window.Window.{Window}
use Rattle.slot_choice.specs.declared.unit.SlotUnit.{SlotUnit}
use Rattle.pico_board.specs.declared.boot.Cpu.{Cpu}
use Rattle.pico_board.specs.declared.mem_board.MemBoard.{MemBoard}
use Rattle.pico_board.specs.MemBoard.{state_of}
use Rattle.pico_board.specs.Content.{Content}
use Rattle.pico_board.specs.Board.{Does, State}
use Rattle.pico_board.specs.Steps.{IsStepIn, after_all}
use Rattle.boot_rules.specs.Choosing.{boot_units_in}
use Rattle.boot_script.specs.Events.{EventView}
use Rattle.boot_session.specs.Playing.{HasServed}
use Rattle.boot_session.specs.Sessions.{entered_host, session, session_from}
use Rattle.boot_session.specs.declared.recorder.Recorder.{Recorder}
use Rattle.boot_session.specs.Recordings.{HasRecorded, IsHistoryOf, IsRecorderOf, mark, other_numbers, unit_numbers}
use Rattle.boot_session.specs.Slots.{slot_among, slot_in_unit, slot_of}
use Rattle.boot_session.proofs.PlanStepLemmas.{all-append}

same-window : (v w : Window) → v.start ≡ w.start → v.len ≡ w.len → v ≡ w
same-window v w start len =
    let parts : (let x : Window = record { start = v.start; len = v.len } in
    let y : Window = record { start = w.start; len = w.len } in x ≡ y) = cc in parts

same-first : (m n : ℕ) (xs ys : List ℕ) → (m ∷ xs) ≡ (n ∷ ys) → (m ≡ n) × (xs ≡ ys)
same-first m n xs ys e = (cc, cc)

same-others : (o p : Option Window) (xs ys : List ℕ) → other_numbers o ++ xs ≡ other_numbers p ++ ys
    → (o ≡ p) × (xs ≡ ys)
same-others None None xs ys e = (refl, (same-first 0 0 xs ys e).1)
same-others None (Some w) xs ys e =
    let differ : 0 ≡ 1 = (same-first 0 1 xs (w.start ∷ w.len ∷ ys) e).0 in absurd (omega (arith, differ))
same-others (Some v) None xs ys e =
    let differ : 1 ≡ 0 = (same-first 1 0 (v.start ∷ v.len ∷ xs) ys e).0 in absurd (omega (arith, differ))
same-others (Some v) (Some w) xs ys e =
    let a = same-first 1 1 (v.start ∷ v.len ∷ xs) (w.start ∷ w.len ∷ ys) e in
    let b = same-first v.start w.start (v.len ∷ xs) (w.len ∷ ys) a.1 in
    let c = same-first v.len w.len xs ys b.1 in (ap (λ x. Some x) (same-window v w b.0 c.0), c.1)

-- units of one mark have one slot
slots-among : (us vs : List SlotUnit) (s : Step) → unit_numbers us ≡ unit_numbers vs
    → slot_among us s ≡ slot_among vs s
slots-among [] [] s e = refl
slots-among [] (v ∷ vs) s e = absurd (cc)
slots-among (u ∷ us) [] s e = absurd (cc)
slots-among (u ∷ us) (v ∷ vs) s e =
    let a = same-first u.a.start v.a.start (u.a.len ∷ (other_numbers u.b ++ unit_numbers us))
    (v.a.len ∷ (other_numbers v.b ++ unit_numbers vs)) e in
    let b = same-first u.a.len v.a.len (other_numbers u.b ++ unit_numbers us) (other_numbers v.b ++ unit_numbers vs)
    a.1 in
    let c = same-others u.b v.b (unit_numbers us) (unit_numbers vs) b.1 in
    ap (λ w. option_or (slot_in_unit w u.b s) (slot_among us s)) (same-window u.a v.a a.0 b.0)
    ∙ (ap (λ o. option_or (slot_in_unit v.a o s) (slot_among us s)) c.0
    ∙ ap (λ o. option_or (slot_in_unit v.a v.b s) o) (slots-among us vs s c.1))

abbrev numbers-of : Step → List ℕ
numbers-of (Program p bytes) = bytes
numbers-of step = []

pub slots-marked : (us vs : List SlotUnit) (h : List Step) → mark us ≡ mark vs → slot_of us h ≡ slot_of vs h
slots-marked us vs [] e = refl
slots-marked us vs (s ∷ h) e = slots-among us vs s (ap numbers-of e)

-- a step that the bench of a recorder did
pub recorder-does : {B : Type 0} (state : B → State) (history : B → List Step → Type 0) (old new : Recorder B)
    (step : Step) → Does state history old.bench step true new.bench
    → IsStepIn (length (state old.bench).content.flash) step → new.units ≡ old.units
    → ((h : List Step) → HasRecorded old h → HasRecorded new (h ++ step ∷ []))
    → Does (λ (r : Recorder B). state r.bench) (IsHistoryOf state) old step true new
recorder-does state history old new step does inside units more = record {
  done = does.done;
  torn = does.torn;
  size = does.size;
  power = does.power;
  later = does.later;
  rose = does.rose;
  told = does.told;
  recorded = known;
}
  where
    known : (h : List Step) → IsHistoryOf state old h → IsHistoryOf state new (h ++ step ∷ [])
    known [] is = absurd is
    known (first ∷ h) is = (
      is.0 ∙ ap (λ us. mark us.items) (sym units),
      record {
        known = more h is.1.known;
        inside = subst (λ n. AllByRecursion (IsStepIn n) (h ++ step ∷ [])) (sym does.size)
            (all-append (IsStepIn (length (state old.bench).content.flash)) h (step ∷ []) is.1.inside (inside, tt));
      },
    )

-- the recorder of a session, from the one that was made for it
pub recorder-after : (r t : Recorder MemBoard) (c : Content) (cpu : Cpu) (steps : List Step)
    → r.units.items ≡ boot_units_in c cpu → HasRecorded r [] → (state_of r.bench).content ≡ c
    → HasServed (λ (x : Recorder MemBoard). state_of x.bench) (IsHistoryOf state_of) r steps t
    → length steps < 2 ^ 32 - 1 → IsRecorderOf t c cpu steps
recorder-after r t c cpu steps units none start served few =
    let h = served.recorded (mark r.units.items ∷ []) (refl, record { known = none; inside = tt }) in record {
      ready = record { power = served.power; unarmed = served.unarmed };
      content = served.content ∙ ap (λ x. after_all x steps) start;
      slot = h.1.known.slot ∙ (slots-marked t.units.items r.units.items steps (sym h.0)
          ∙ ap (λ us. slot_of us steps) units);
      recorded = h.1.known;
      few = few;
    }

-- the session on a board that was given to a recorder, which was given to a machine
pub session-recorded : (board : MemBoard) (r m t u : Recorder MemBoard) (cpu k : Cpu) (es : List EventView)
    → r.bench ≡ board → r.units.items ≡ boot_units_in (state_of board).content cpu → HasRecorded r [] → m ≡ r → k ≡ cpu
    → HasServed (λ (x : Recorder MemBoard). state_of x.bench) (IsHistoryOf state_of) m
    (session_from (state_of m.bench).content k (entered_host (state_of r.bench).content) es) t → u ≡ t
    → length (session (state_of board).content cpu es) < 2 ^ 32 - 1
    → IsRecorderOf u (state_of board).content cpu (session (state_of board).content cpu es)
session-recorded board r m t u cpu k es bench units none same as_cpu served last few =
    let one = subst (λ (x : Recorder MemBoard). HasServed (λ (x : Recorder MemBoard). state_of x.bench)
    (IsHistoryOf state_of) x
    (session_from (state_of x.bench).content k (entered_host (state_of r.bench).content) es) t) same served in
    let two = subst (λ (x : Cpu). HasServed (λ (x : Recorder MemBoard). state_of x.bench) (IsHistoryOf state_of) r
    (session_from (state_of r.bench).content x (entered_host (state_of r.bench).content) es) t) as_cpu one in
    let three = subst (λ (b : MemBoard). HasServed (λ (x : Recorder MemBoard). state_of x.bench) (IsHistoryOf state_of) r
    (session_from (state_of b).content cpu (entered_host (state_of b).content) es) t) bench two in
    subst (λ (x : Recorder MemBoard). IsRecorderOf x (state_of board).content cpu
    (session (state_of board).content cpu es)) (sym last)
    (recorder-after r t (state_of board).content cpu (session (state_of board).content cpu es) units none
    (ap (λ b. (state_of b).content) bench) three few)
