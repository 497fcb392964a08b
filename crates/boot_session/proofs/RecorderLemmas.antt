-- A recorder knows each list of steps that its board has done, and one more of them.
use Rattle.std.proofs.Common.{◌≡◌, ℕ, zero, suc, ◌+◌, ◌-◌, ◌^◌, min, Bool, true, false, List, [], ◌∷◌, ◌++◌, length, take, Option, Some, None, refl, sym, ap, ◌∙◌, arith, length-append, inl, inr}
use Rattle.std.specs.Prelude.{◌==◌, if◌then◌else◌, nat_lt, option_map}
use Rattle.std.proofs.lemmas.Bool.{cases_lt, le-ltb, lt-ltb}
use Rattle.pico_board.specs.declared.Step.{Step}
use Rattle.pico_board.specs.declared.window.Window.{Window}
use Rattle.slot_choice.specs.declared.unit.SlotUnit.{SlotUnit}
use Rattle.boot_session.specs.declared.recorder.Recorder.{Recorder}
use Rattle.boot_session.specs.Recordings.{HasRecorded, first_steps, next_outside, next_slot, next_steps}
use Rattle.boot_session.specs.Slots.{is_in_slot, outside_from, slot_among, slot_of}

pub first-none : first_steps [] ≡ []
unfolding first_steps
first-none = refl

take-none : {X : Type 0} (n : ℕ) → (let none : List X = [] in take n none ≡ none)
take-none zero = refl
take-none (suc n) = refl

cons-if : {X : Type 0} (y : X) (n m : ℕ) (us vs : List X)
    → (y ∷ (if nat_lt m n then us else vs)) ≡ (if nat_lt (suc m) (suc n) then y ∷ us else y ∷ vs)
cons-if y n m us vs = elim (cases_lt m n) [
  | inl lt ↦
      ap (λ b. y ∷ (if b then us else vs)) (lt-ltb m n lt)
      ∙ sym (ap (λ b. if b then y ∷ us else y ∷ vs) (lt-ltb (suc m) (suc n) (omega (arith, lt))))
  | inr ge ↦
      ap (λ b. y ∷ (if b then us else vs)) (le-ltb m n ge)
      ∙ sym (ap (λ b. if b then y ∷ us else y ∷ vs) (le-ltb (suc m) (suc n) (omega (arith, ge))))
]

-- the first n elements of a list with one more behind it
take-more_behind : {X : Type 0} (n : ℕ) (xs : List X) (x : X)
    → take n (xs ++ x ∷ []) ≡ (if nat_lt (length (take n xs)) n then take n xs ++ x ∷ [] else take n xs)
take-more_behind zero xs x = refl
take-more_behind (suc n) [] x =
    ap (λ zs. x ∷ zs) (take-none n)
    ∙ sym (ap (λ b. if b then x ∷ [] else []) (lt-ltb 0 (suc n) (omega arith)))
take-more_behind (suc n) (y ∷ xs) x =
    ap (λ zs. y ∷ zs) (take-more_behind n xs x)
    ∙ cons-if y n (length (take n xs)) (take n xs ++ x ∷ []) (take n xs)

abbrev sat : ℕ → ℕ
sat n = min n (2 ^ 32 - 1)

outside-more : (k : ℕ) (slot : Option Window) (h : List Step) (s : Step)
    → outside_from k slot (h ++ s ∷ []) ≡ next_outside (outside_from k slot h) (k + length h) slot s
outside-more k slot [] s =
    let e : k ≡ k + 0 = omega arith in ap (λ n. if is_in_slot slot s then None else Some n) e
outside-more k slot (x ∷ xs) s = go (outside-more (k + 1) slot xs s) (is_in_slot slot x)
  where
    go : outside_from (k + 1) slot (xs ++ s ∷ [])
        ≡ next_outside (outside_from (k + 1) slot xs) (k + 1 + length xs) slot s
        → (b : Bool) → (if b then outside_from (k + 1) slot (xs ++ s ∷ []) else Some k)
        ≡ next_outside (if b then outside_from (k + 1) slot xs else Some k) (k + suc (length xs)) slot s
    go ih true =
        let e : k + 1 + length xs ≡ k + suc (length xs) = omega arith in
        ih ∙ ap (λ n. next_outside (outside_from (k + 1) slot xs) n slot s) e
    go ih false = refl

sat-outside : (o : Option ℕ) (n : ℕ) (slot : Option Window) (s : Step)
    → option_map sat (next_outside o n slot s) ≡ next_outside (option_map sat o) (sat n) slot s
sat-outside (Some k) n slot s = refl
sat-outside None n slot s = go (is_in_slot slot s)
  where
    go : (b : Bool) → option_map sat (if b then None else Some n) ≡ (if b then None else Some (sat n))
    go true = refl
    go false = refl

slot-more : (units : List SlotUnit) (slot : Option Window) (count : ℕ) (h : List Step) (s : Step)
    → count ≡ sat (length h) → slot ≡ slot_of units h → next_slot slot count units s ≡ slot_of units (h ++ s ∷ [])
slot-more units slot count [] s counted is = ap (λ n. if n == 0 then slot_among units s else slot) counted
slot-more units slot count (x ∷ xs) s counted is =
    let some : (count == 0) ≡ false = grind (arith, counted) in
    ap (λ b. if b then slot_among units s else slot) some ∙ is

-- the slot changes at the first step alone
outside-slot : (units : List SlotUnit) (slot : Option Window) (count : ℕ) (h : List Step) (s : Step)
    → count ≡ sat (length h) → outside_from 0 slot h ≡ outside_from 0 (next_slot slot count units s) h
outside-slot units slot count [] s counted = refl
outside-slot units slot count (x ∷ xs) s counted =
    let some : (count == 0) ≡ false = grind (arith, counted) in
    ap (λ b. outside_from 0 (if b then slot_among units s else slot) (x ∷ xs)) (sym some)

none-before : (n : ℕ) → 0 + n ≡ n
none-before n = omega arith

pub recorded-more : {B : Type 0} (r t : Recorder B) (h : List Step) (s : Step) → HasRecorded r h
    → t.units ≡ r.units → t.steps.items ≡ next_steps r.steps.items s → t.count ≡ min (r.count + 1) (2 ^ 32 - 1)
    → t.slot ≡ next_slot r.slot r.count r.units.items s → t.outside ≡ next_outside r.outside r.count t.slot s
    → HasRecorded t (h ++ s ∷ [])
unfolding first_steps
recorded-more r t h s is units steps count slot outside = record {
  kept = steps ∙ (ap (λ xs. next_steps xs s) is.kept ∙ sym (take-more_behind 262145 h s));
  counted =
      let old = is.counted in let long = length-append h (s ∷ []) in omega (arith, count, old, long);
  slot = slot ∙ (slot-more r.units.items r.slot r.count h s is.counted is.slot
      ∙ ap (λ us. slot_of us (h ++ s ∷ [])) (sym (ap (λ u. u.items) units)));
  outside = outside
      ∙ (ap (λ o. next_outside o r.count t.slot s)
      (is.outside ∙ ap (option_map sat) (outside-slot r.units.items r.slot r.count h s is.counted
      ∙ ap (λ w. outside_from 0 w h) (sym slot)))
      ∙ (ap (λ n. next_outside (option_map sat (outside_from 0 t.slot h)) n t.slot s) is.counted
      ∙ (sym (sat-outside (outside_from 0 t.slot h) (length h) t.slot s)
      ∙ ap (option_map sat) (sym (outside-more 0 t.slot h s
      ∙ ap (λ n. next_outside (outside_from 0 t.slot h) n t.slot s) (none-before (length h)))))));
}
