-- The effect by the decisions and the class is the one that its sentences name.
use Rattle.std.proofs.Common.{◌≡◌, true, false, Bool, cond, List, inl, inr, refl, sym, ap}
use Rattle.pico_board.specs.declared.boot.Cpu.{Cpu}
use Rattle.pico_board.specs.declared.boot.BootKind.TheVariants.{Normal}
use Rattle.pico_board.specs.Content.{Content}
use Rattle.slot_choice.specs.declared.choice.Choice.{Choice}
use Rattle.slot_choice.specs.Versions.{is_below}
use Rattle.slot_choice.proofs.VersionLemmas.{total}
use Rattle.boot_rules.specs.declared.decision.Decision.{Decision}
use Rattle.boot_rules.specs.declared.decision.Decision.TheVariants.{Start, Bootsel}
use Rattle.boot_rules.specs.Chosen.{Chosen}
use Rattle.boot_rules.proofs.DecisionLemmas.{chosen-once}
use Rattle.boot_sweep.specs.Moving.{MoveView}
use Rattle.cut_class.specs.declared.class.Class.{Class}
use Rattle.cut_class.specs.declared.class.Class.TheVariants as classes
use Rattle.cut_class.specs.Classes.{is_same_class}
use Rattle.boot_cuts.specs.Classes.{Falls, IsClass, IsFormer}
use Rattle.check_require.specs.declared.report.ImageEffect.TheVariants.{Unchanged, Up, Same, Down}
use Rattle.check_images.specs.Effects.{IsEffect, IsUnchanged, changed_effect, effect_of}

-- a start is no fall
no-fall : (z : Content) (cpu : Cpu) (choice : Choice) → Chosen z cpu Normal (Start choice) → Falls z cpu → ⊥
no-fall z cpu choice starts falls =
    not-both (chosen-once z cpu Normal (Start choice) (Bootsel falls.fall) starts falls.here)
  where
    not-both : Start choice ≡ Bootsel falls.fall → ⊥
    not-both e = cc

module _ (c z : Content) (cpu : Cpu) (last : Choice) (here : Chosen z cpu Normal (Start last))
    (changed : IsFormer c z cpu → ⊥) where
  by-version : (former : Choice) → Chosen c cpu Normal (Start former) → (up down : Bool)
      → up ≡ is_below former.image.version last.image.version
      → down ≡ is_below last.image.version former.image.version
      → IsEffect c z cpu (cond up Up (cond down Down Same))
  by-version former first true down is other = record {
    former = former;
    last = last;
    first = first;
    here = here;
    changed = changed;
    versions = sym is;
  }
  by-version former first false true is other = record {
    former = former;
    last = last;
    first = first;
    here = here;
    changed = changed;
    versions = sym other;
  }
  by-version former first false false is other = record {
    former = former;
    last = last;
    first = first;
    here = here;
    changed = changed;
    versions = total last.image.version former.image.version (sym other) (sym is);
  }

  by-former : (d : Decision) → Chosen c cpu Normal d → (class : Class)
      → effect_of d (Start last) class ≡ effect_of d (Start last) classes.Mixed
      → IsEffect c z cpu (effect_of d (Start last) classes.Mixed)
  by-former (Start former) first class same = by-version former first _ _ refl refl
  by-former (Bootsel fall) first class same = (
    λ unchanged. neither unchanged,
    record { fall = fall; here = first },
  )
    where
      neither : IsUnchanged c z cpu → ⊥
      neither (inl falls) = no-fall z cpu last here falls
      neither (inr former) = changed former

pub effect-is : (c z : Content) (moves : List MoveView) (cpu : Cpu) (former last : Decision) (end : Class)
    → Chosen c cpu Normal former → Chosen z cpu Normal last → IsClass c z moves z cpu end
    → IsEffect c z cpu (effect_of former last end)
effect-is c z moves cpu former (Bootsel fall) end first here class = inl (record { fall = fall; here = here })
effect-is c z moves cpu former (Start last) classes.Former first here class = inr class
effect-is c z moves cpu former (Start last) classes.Finished first here class =
    by-former c z cpu last here class.0 former first classes.Finished refl
effect-is c z moves cpu former (Start last) classes.Whole first here class =
    by-former c z cpu last here class.0 former first classes.Whole refl
effect-is c z moves cpu former (Start last) classes.Tail first here class =
    by-former c z cpu last here class.0 former first classes.Tail refl
effect-is c z moves cpu former (Start last) classes.Mixed first here class =
    by-former c z cpu last here class.0 former first classes.Mixed refl
effect-is c z moves cpu former (Start last) classes.Bootsel first here class =
    by-former c z cpu last here class.0 former first classes.Bootsel refl

-- of another class than that before the update
pub other-class : (former : Decision) (last : Choice) (end : Class) → is_same_class classes.Former end ≡ false
    → effect_of former (Start last) end ≡ changed_effect former last.image.version
other-class former last end other =
    ap (λ b. cond b Unchanged (changed_effect former last.image.version)) other
