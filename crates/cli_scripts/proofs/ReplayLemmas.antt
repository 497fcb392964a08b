-- The events of a script are played one after another.
use Rattle.std.proofs.Common.{◌≡◌, ℕ, ◌+◌, ◌≤◌, Bool, false, cond, All, List, [], ◌∷◌, ◌++◌, length, refl, sym, ◌∙◌, ap, subst, arith, append_assoc}
use Rattle.std.specs.Prelude.{not, count_by}
use Rattle.std.proofs.lemmas.List.{append-nil}
use Rattle.std.proofs.lemmas.List.Sums.{sum_by-cons}
use Rattle.std.proofs.lemmas.List.Elements.{All-head, All-tail}
use Rattle.pico_board.specs.declared.mem_board.MemBoard.{MemBoard}
use Rattle.pico_board.specs.MemBoard.{state_of}
use Rattle.sector_pool.specs.Pool.{Pool, IsNewPool, free_count}
use Rattle.boot_script.specs.Events.{EventView}
use Rattle.boot_machine.specs.declared.parts.Parts.{Parts}
use Rattle.text_lines.specs.Events.{outcome_text}
use Rattle.boot_machine.specs.Machines.{MachineView}
use Rattle.boot_machine.specs.Standing.{Stands}
use Rattle.cli_scripts.specs.ReplayWorks.{event_line, event_lines}
use Rattle.boot_machine.specs.Plays.{moved_machine, played}

-- a machine that was played up to the events that are left, which are few; what plays these from here plays all
pub record PlaysOn (parts : Parts MemBoard) (m : MachineView) (all left : List EventView) (number : ℕ) (text : List ℕ)
    : Type 0 where
  pub mid : MachineView
  pub stands : Stands state_of parts mid
  pub last : (played mid left).last ≡ (played m all).last
  pub lines : text ++ event_lines number (played mid left).outcomes ≡ event_lines 0 (played m all).outcomes

pub plays-first : (parts : Parts MemBoard) (m : MachineView) (all : List EventView) → Stands state_of parts m
    → PlaysOn parts m all all 0 []
plays-first parts m all stands = record { mid = m; stands = stands; last = refl; lines = refl }

-- what the event does to every machine that the parts stand for
abbrev pub Steps : Parts MemBoard → EventView → Parts MemBoard → List ℕ → Type 0
Steps old e new line = (n : MachineView) → Stands state_of old n
    → Stands state_of new (moved_machine n e).next × (line ≡ outcome_text (moved_machine n e).outcome)

pub plays-more : (old new : Parts MemBoard) (m : MachineView) (all left others : List EventView) (e : EventView)
    (number : ℕ) (text line more : List ℕ) → left ≡ e ∷ others
    → Steps old e new line → more ≡ text ++ event_line number line → PlaysOn old m all left number text
    → PlaysOn new m all others (number + 1) more
plays-more old new m all left others e number text line more first steps is on =
    let one = steps on.mid on.stands in record {
      mid = (moved_machine on.mid e).next;
      stands = one.0;
      last = sym (ap (λ es. (played on.mid es).last) first) ∙ on.last;
      lines = ap (λ t. t ++ event_lines (number + 1) (played (moved_machine on.mid e).next others).outcomes)
          (is ∙ ap (λ t. text ++ event_line number t) one.1)
          ∙ (append_assoc text (event_line number (outcome_text (moved_machine on.mid e).outcome))
          (event_lines (number + 1) (played (moved_machine on.mid e).next others).outcomes)
          ∙ (sym (ap (λ es. text ++ event_lines number (played on.mid es).outcomes) first) ∙ on.lines));
    }

-- all was played
pub record HasPlayed (parts : Parts MemBoard) (m : MachineView) (all : List EventView) (text : List ℕ) : Type 0 where
  pub stands : Stands state_of parts (played m all).last
  pub lines : text ≡ event_lines 0 (played m all).outcomes

pub plays-end : (parts : Parts MemBoard) (m : MachineView) (all left : List EventView) (number : ℕ) (text : List ℕ)
    → left ≡ [] → PlaysOn parts m all left number text → HasPlayed parts m all text
plays-end parts m all left number text none on = record {
  stands = subst (λ n. Stands state_of parts n) (sym (ap (λ es. (played on.mid es).last) none) ∙ on.last) on.stands;
  lines = sym (append-nil text)
      ∙ (sym (ap (λ es. text ++ event_lines number (played on.mid es).outcomes) none) ∙ on.lines);
}

abbrev one_if_free : Bool → ℕ
one_if_free is_out = cond (not is_out) 1 0

-- a new pool of four has two free sectors
count-free : (xs : List Bool) → All (λ b. b ≡ false) xs → count_by not xs ≡ length xs
count-free [] all = refl
count-free (x ∷ xs) all =
    let here : x ≡ false = All-head (λ b. b ≡ false) x xs all in
    let rest = count-free xs (All-tail (λ b. b ≡ false) x xs all) in
    rw (sum_by-cons one_if_free x xs, here) (omega (arith, rest))

pub pool-free : (pool : Pool) → IsNewPool 4 pool → 2 ≤ free_count pool
pool-free pool new = let all = count-free pool.out new.free in omega (arith, all, new.numbers)
