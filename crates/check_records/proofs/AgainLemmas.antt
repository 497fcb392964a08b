-- What stands against it that a script is played again.
use Rattle.std.proofs.Common.{◌≡◌, ◌∙◌, ℕ, Bool, true, false, cond, List, Option, Some, None, refl, sym, ap}
use Rattle.std.specs.Prelude.{◌&&◌}
use Rattle.std.specs.List.{list_any}
use Rattle.pico_board.specs.declared.boot.Cpu.{Cpu}
use Rattle.pico_board.specs.Content.{Content}
use Rattle.boot_script.specs.Events.{EventView}
use Rattle.boot_tape.specs.Traces.{trace, trace_steps}
use Rattle.boot_machine.specs.Plays.{powerless}
use Rattle.check_records.specs.declared.found.Again.{Again}
use Rattle.check_records.specs.Again.{AreCutFacts, IsAgain, IsUnerasedTrace, LeavesOtherTable, MayGoElsewhere, again_by}
use Rattle.check_records.specs.Shares.{shares}
use Rattle.check_records.specs.Unerased.{first_unerased}
use Rattle.check_records.specs.Unfinished.{is_beginning}
use Rattle.check_records.proofs.UnerasedLemmas.{none-is, some-first}

module _ (c : Content) (cpu : Cpu) (events : List EventView) (pattern : List ℕ) (other_table begins other_class : Bool)
    (told : begins ≡ list_any is_beginning (shares (powerless c cpu) events))
    (facts : AreCutFacts c cpu events pattern other_table other_class) where
  may-go : begins ≡ true → other_class ≡ true → MayGoElsewhere c cpu events pattern
  may-go holds class = record { begins = sym told ∙ holds; class = facts.class.0 class }

  stays : (begins && other_class) ≡ false → MayGoElsewhere c cpu events pattern → ⊥
  stays lacks may =
      let one : begins ≡ true = told ∙ may.begins in
      let two : other_class ≡ true = facts.class.1 may.class in
      let both : (begins && other_class) ≡ true = ap (λ b. b && other_class) one ∙ two in
      let wrong : true ≡ false = sym both ∙ lacks in cc

  same-table : other_table ≡ false → LeavesOtherTable c cpu events pattern → ⊥
  same-table lacks other = let wrong : true ≡ false = sym (facts.table.1 other) ∙ lacks in cc

  by-class : (IsUnerasedTrace c cpu events → ⊥) → other_table ≡ false → (b : Bool) → (begins && other_class) ≡ b
      → IsAgain c cpu events pattern (cond b Again.NoTarget Again.Yes)
  by-class none lacks true is = (none, same-table lacks, may-go (left begins other_class is) (right begins other_class is))
    where
      left : (x y : Bool) → (x && y) ≡ true → x ≡ true
      left true y e = refl
      left false y e = cc

      right : (x y : Bool) → (x && y) ≡ true → y ≡ true
      right true y e = e
      right false y e = cc
  by-class none lacks false is = (none, same-table lacks, stays is)

  by-table : (IsUnerasedTrace c cpu events → ⊥) → (b : Bool) → other_table ≡ b
      → IsAgain c cpu events pattern (cond b Again.NoTable (cond (begins && other_class) Again.NoTarget Again.Yes))
  by-table none true is = (none, facts.table.0 is)
  by-table none false is = by-class none is (begins && other_class) refl

  pub again-is : (unerased : Option ℕ) → unerased ≡ first_unerased (trace_steps (trace c cpu events).done)
      → IsAgain c cpu events pattern (again_by unerased other_table begins other_class)
  again-is (Some k) is = some-first (trace_steps (trace c cpu events).done) k (sym is)
  again-is None is = by-table (λ u. none-is (trace_steps (trace c cpu events).done) (sym is) u.0 u.1) other_table refl
