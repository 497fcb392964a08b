-- Why a session is not swept, from what its recorder knows.
use Rattle.std.proofs.Common.{◌≡◌, ℕ, suc, ◌+◌, ◌-◌, ◌^◌, ◌<◌, ◌≤◌, min, Bool, true, false, List, [], ◌∷◌, length, Option, Some, None, refl, sym, ap, ◌∙◌, arith}
use Rattle.std.specs.Prelude.{if◌then◌else◌, ◌&&◌, not, is_none, is_some, nat_lt, option_map}
use Rattle.std.specs.Option.{option_or}
use Rattle.std.proofs.lemmas.Bool.{le-ltb, lt-ltb}
use Rattle.std.proofs.lemmas.List.{length-take, take-take}
use Rattle.pico_board.specs.declared.Step.{Step}
use Rattle.pico_board.specs.declared.boot.Cpu.{Cpu}
use Rattle.pico_board.specs.declared.boot.BootKind.TheVariants.{Normal}
use Rattle.pico_board.specs.declared.mem_board.MemBoard.{MemBoard}
use Rattle.pico_board.specs.declared.window.Window.{Window}
use Rattle.pico_board.specs.MemBoard.{state_of}
use Rattle.pico_board.specs.Content.{Content}
use Rattle.pico_board.specs.Steps.{after_all}
use Rattle.boot_rules.specs.declared.tables.Found.{Found}
use Rattle.boot_rules.specs.Choosing.{decision_in}
use Rattle.boot_rules.specs.Tables.{table_in}
use Rattle.boot_sweep.specs.declared.error.SweepError.{SweepError}
use Rattle.boot_sweep.specs.declared.error.SweepError.TheVariants.{NotConfined, NotGated, TooManySteps, FormerInSlot, TableChanged}
use Rattle.boot_session.specs.declared.recorder.Recorder.{Recorder}
use Rattle.boot_session.specs.Recordings.{HasRecorded, IsRecorderOf, first_steps, kept_steps, step_limit}
use Rattle.boot_sweep.specs.Refusals.{gains_table, starts_in_slot, sweep_refusal, ungated, where_}
use Rattle.boot_session.specs.Slots.{is_in_slot, outside_from, session_slot}

-- the first of the reasons, from what is found of each
abbrev pub first_reason : Option ℕ → Option ℕ → Bool → Bool → Bool → Option SweepError
first_reason outside first_ungated many starts gains =
    option_or (option_map NotConfined outside)
    (option_or (option_map NotGated first_ungated)
    (option_or (where_ many TooManySteps)
    (option_or (where_ starts FormerInSlot) (where_ gains TableChanged))))

abbrev sat : ℕ → ℕ
sat n = min n (2 ^ 32 - 1)

-- the numbers of few steps do not saturate
outside-low : (k : ℕ) (slot : Option Window) (steps : List Step) (j : ℕ) → outside_from k slot steps ≡ Some j
    → j < k + length steps
outside-low k slot [] j e = absurd (cc)
outside-low k slot (step ∷ steps) j e =
    go (λ e. outside-low (k + 1) slot steps j e) (is_in_slot slot step) e
  where
    go : (outside_from (k + 1) slot steps ≡ Some j → j < k + 1 + length steps) → (b : Bool)
        → (if b then outside_from (k + 1) slot steps else Some k) ≡ Some j → j < k + suc (length steps)
    go ih true e = let rest = ih e in omega (arith, rest)
    go ih false e = let same : k ≡ j = cc in omega (arith, same)

sat-outside : (slot : Option Window) (steps : List Step) → length steps < 2 ^ 32 - 1
    → option_map sat (outside_from 0 slot steps) ≡ outside_from 0 slot steps
sat-outside slot steps few = go (outside_from 0 slot steps) refl
  where
    go : (o : Option ℕ) → outside_from 0 slot steps ≡ o → option_map sat o ≡ o
    go None is = refl
    go (Some j) is =
        let low = outside-low 0 slot steps j is in
        let same : sat j ≡ j = omega (arith, low, few) in ap (λ n. Some n) same

same-reasons : (o p u v : Option ℕ) (m n s t g h : Bool) → o ≡ p → u ≡ v → m ≡ n → s ≡ t → g ≡ h
    → first_reason o u m s g ≡ first_reason p v n t h
same-reasons o p u v m n s t g h a b c d e =
    ap (λ x. first_reason x u m s g) a
    ∙ (ap (λ x. first_reason p x m s g) b
    ∙ (ap (λ x. first_reason p v x s g) c
    ∙ (ap (λ x. first_reason p v n x g) d
    ∙ ap (λ x. first_reason p v n t x) e)))

first-kept : (steps : List Step) → kept_steps (first_steps steps) ≡ kept_steps steps
unfolding kept_steps first_steps step_limit
first-kept steps = take-take 262144 262145 steps (omega arith)

-- the first steps, as many as are swept, from the recorder
kept-of : (r : Recorder MemBoard) (steps : List Step) → HasRecorded r steps
    → kept_steps r.steps.items ≡ kept_steps steps
kept-of r steps is = ap kept_steps is.kept ∙ first-kept steps

-- the reason, from the recorder
pub reason-of : (r : Recorder MemBoard) (c : Content) (cpu : Cpu) (steps : List Step) → IsRecorderOf r c cpu steps
    → sweep_refusal c cpu steps ≡ first_reason r.outside (ungated r.slot (kept_steps r.steps.items)) (nat_lt step_limit r.count)
    (starts_in_slot r.slot (decision_in c cpu Normal))
    (gains_table (table_in c) (table_in (state_of r.bench).content))
unfolding sweep_refusal
reason-of r c cpu steps is =
    let slot = sym is.slot in
    let few = is.few in
    let counted = is.recorded.counted in
    let count : length steps ≡ r.count = omega (arith, few, counted) in
    let d = decision_in c cpu Normal in
    same-reasons (outside_from 0 (session_slot c cpu steps) steps) r.outside
    (ungated (session_slot c cpu steps) (kept_steps steps)) (ungated r.slot (kept_steps r.steps.items))
    (nat_lt step_limit (length steps)) (nat_lt step_limit r.count)
    (starts_in_slot (session_slot c cpu steps) d) (starts_in_slot r.slot d)
    (gains_table (table_in c) (table_in (after_all c steps)))
    (gains_table (table_in c) (table_in (state_of r.bench).content))
    (ap (λ w. outside_from 0 w steps) slot
    ∙ (sym (sat-outside r.slot steps is.few) ∙ sym is.recorded.outside))
    (ap (λ w. ungated w (kept_steps steps)) slot ∙ ap (λ xs. ungated r.slot xs) (sym (kept-of r steps is.recorded)))
    (ap (λ n. nat_lt step_limit n) count)
    (ap (λ w. starts_in_slot w d) slot)
    (ap (λ x. gains_table (table_in c) (table_in x)) (sym is.content))

-- the reason, from what is found of the recorder
pub reason-by : (r : Recorder MemBoard) (c : Content) (cpu : Cpu) (steps : List Step) (o u : Option ℕ) (m s g : Bool)
    → IsRecorderOf r c cpu steps → r.outside ≡ o → ungated r.slot (kept_steps r.steps.items) ≡ u → nat_lt step_limit r.count ≡ m
    → starts_in_slot r.slot (decision_in c cpu Normal) ≡ s
    → gains_table (table_in c) (table_in (state_of r.bench).content) ≡ g
    → first_reason o u m s g ≡ sweep_refusal c cpu steps
reason-by r c cpu steps o u m s g is one two three four five =
    sym (reason-of r c cpu steps is
    ∙ same-reasons r.outside o (ungated r.slot (kept_steps r.steps.items)) u (nat_lt step_limit r.count) m
    (starts_in_slot r.slot (decision_in c cpu Normal)) s
    (gains_table (table_in c) (table_in (state_of r.bench).content)) g one two three four five)

-- the first steps of a slice that has the recorder's
pub kept-by : (kept steps read : List Step) → steps ≡ read → kept ≡ kept_steps steps → kept ≡ kept_steps read
kept-by kept steps read same is = is ∙ ap kept_steps same

pub many-is : (n : ℕ) → 262144 < n → nat_lt step_limit n ≡ true
unfolding step_limit
many-is n many = lt-ltb 262144 n many

pub few-is : (n : ℕ) → n ≤ 262144 → nat_lt step_limit n ≡ false
unfolding step_limit
few-is n few = le-ltb 262144 n few

pub kept-few : (steps : List Step) → length (kept_steps steps) ≤ step_limit
unfolding kept_steps
kept-few steps = let long = length-take step_limit steps in omega (arith, long)

-- whether a table comes, by the code's two tests
pub gains-none : (a b : Option Found) → is_none a ≡ false → gains_table a b ≡ false
gains-none a b e = ap (λ x. x && is_some b) e

pub gains-some : (a b : Option Found) (x : Bool) → is_none a ≡ true → is_some b ≡ x → gains_table a b ≡ x
gains-some a b x e f = ap (λ y. y && is_some b) e ∙ f

pub none-by : (o : Option Found) (r x : Bool) → is_some o ≡ not r → r ≡ x → is_none o ≡ x
none-by None true x e f = f
none-by None false x e f = absurd (cc)
none-by (Some found) true x e f = absurd (cc)
none-by (Some found) false x e f = f
