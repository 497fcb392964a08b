-- The worked flashes: their tables are sound, and the laws on them.
use Rattle.std.proofs.Common.{◌≡◌, ◌≢◌, ℕ, true, false, Some, None, sym, ap, ◌∙◌}
use Rattle.pico_board.specs.declared.boot.Cpu.{Cpu}
use Rattle.pico_board.specs.Content.{Content}
use Rattle.part_table.specs.declared.target.Target.{Target}
use Rattle.boot_rules.specs.declared.tables.Found.{Found}
use Rattle.boot_rules.specs.Tables.{table_in}
use Rattle.boot_rules.specs.Targets.{target_of}
use Rattle.boot_rules.proofs.TableLemmas.{found-sound}
use Rattle.law_targets.specs.TargetRules.{IsTarget}
use Rattle.law_targets.proofs.OneLemmas.{no-target-words, one-target}
use Rattle.law_targets.proofs.TargetLemmas.{target-words}

-- a target that is answered for the content's own table meets the words, and no other one does
module _ (c : Content) (cpu : Cpu) (family : ℕ) (found : Found) (is : table_in c ≡ Some found) where
  pub answered : (target : Target) → target_of c (Some found.table) cpu family ≡ Some target
      → IsTarget c (Some found.table) cpu family target
  answered target e = target-words c cpu family (Some found.table) (found-sound c found is) target e

  pub not-other : (target other : Target) → target_of c (Some found.table) cpu family ≡ Some target → target ≢ other
      → ¬ (IsTarget c (Some found.table) cpu family other)
  not-other target other e differ it =
      differ (one-target c cpu family (Some found.table) (found-sound c found is) target other (answered target e) it)

  pub nowhere : target_of c (Some found.table) cpu family ≡ None → (target : Target)
      → ¬ (IsTarget c (Some found.table) cpu family target)
  nowhere e target it = (no-target-words c cpu family (Some found.table) (found-sound c found is)).0 e target it

pub other-window : (x y : Target) → (x.window).start ≢ (y.window).start → x ≢ y
other-window x y differ same = differ (ap (λ (t : Target). (t.window).start) same)

pub other-gate : (x y : Target) → x.gated ≡ true → y.gated ≡ false → x ≢ y
other-gate x y a b same = let both : true ≡ false = sym a ∙ ap (λ (t : Target). t.gated) same ∙ b in cc
