-- What is known of a slot's decisions stays known while its steps are done or torn.
use Rattle.std.proofs.Common.{◌≡◌, ℕ, ◌+◌, ◌*◌, ◌≤◌, true, false, List, [], ◌∷◌, length, slice_get, slice_index, Option, Some, None, refl, sym, ap, ◌∙◌, subst, bit_and, arith}
use Rattle.std.specs.Prelude.{IfSome, IsSome, bit_or, is_some}
use Rattle.std.specs.List.{AllByRecursion, list_all}
use Rattle.std.specs.Result.{result_ok}
use Rattle.std.proofs.lemmas.Bool.{and_parts}
use Rattle.std.proofs.lemmas.Option.{same_Some}
use Rattle.pico_board.specs.declared.Step.{Step}
use Rattle.pico_board.specs.declared.step.Step.TheVariants.{Erase, Program, Raise}
use Rattle.pico_board.specs.declared.boot.Cpu.{Cpu}
use Rattle.pico_board.specs.declared.boot.BootKind.TheVariants.{Normal}
use Rattle.pico_board.specs.declared.window.Window.{Window}
use Rattle.pico_board.specs.Content.{Content, IsContent, window_bytes}
use Rattle.pico_board.specs.Cuts.{pattern_at, torn_by}
use Rattle.pico_board.specs.Sessions.{Confined, IsConfined, SameButWindow}
use Rattle.pico_board.specs.Steps.{after}
use Rattle.pico_board.proofs.ChangedLemmas.{changed-same}
use Rattle.pico_board.proofs.ConfinementLemmas.{SameButWindow-refl, SameButWindow-then, SameOutside-wider, confined-after}
use Rattle.block_codec.specs.Erased.{IsErasedFrom}
use Rattle.image_def.specs.declared.started.Started.{Started}
use Rattle.image_check.specs.Addressing.{in_flash}
use Rattle.image_check.proofs.LawLemmas.{erased-none}
use Rattle.slot_choice.specs.declared.unit.SlotUnit.{SlotUnit}
use Rattle.boot_rules.specs.declared.decision.Decision.{Decision}
use Rattle.boot_rules.specs.declared.tables.Found.{Found}
use Rattle.boot_rules.specs.Choosing.{decision_in, images_in}
use Rattle.boot_rules.specs.Tables.{table_in}
use Rattle.boot_rules.proofs.PlaceLemmas.{placed-inside}
use Rattle.boot_sweep.specs.declared.results.Verdict.{Verdict}
use Rattle.boot_sweep.specs.declared.slots.Slot.{Slot}
use Rattle.boot_sweep.specs.declared.slots.Last.{Last}
use Rattle.boot_session.specs.Slots.{is_confined, session_slot, slot_among, slot_of}
use Rattle.boot_sweep.specs.Verdicts.{IsBeside, IsKnown, IsLastVerdict, IsSweptSlot, Knows, LiesIn, verdict_by}
use Rattle.boot_session.proofs.ConfinedLaws.{same-image-decision, table-stays}
use Rattle.boot_session.proofs.GatedLaws.{blank-table}
use Rattle.boot_session.proofs.NeighbourLemmas.{placed}
use Rattle.boot_session.proofs.SlotLemmas.{confined-is, slot-found}

-- the slot of the steps
pub all-confined : (w : Window) (steps : List Step) → list_all (is_confined w) steps ≡ true → Confined steps w
all-confined w [] e = tt
all-confined w (step ∷ steps) e =
    let p = and_parts _ _ e in (confined-is w step p.0, all-confined w steps p.1)

pub first-slot : (units given : List SlotUnit) (steps : List Step) (first : Step) (o : Option Window) (w : Window)
    → Some first ≡ slice_get steps 0 → given ≡ units → o ≡ slot_among given first → o ≡ Some w
    → slot_of units steps ≡ Some w
first-slot units given [] first o w at are found is = cc
first-slot units given (step ∷ steps) first o w at are found is =
    let same : first ≡ step = same_Some first step at in
    ap (slot_among units) (sym same) ∙ (ap (λ us. slot_among us first) (sym are) ∙ (sym found ∙ is))

pub slot-is-of : (c : Content) (cpu : Cpu) (steps : List Step) (slot : Slot)
    → session_slot c cpu steps ≡ Some slot.window → list_all (is_confined slot.window) steps ≡ true
    → (slot.has_table ≡ true → IsSome (table_in c)) → IsSweptSlot c cpu steps slot
slot-is-of c cpu steps slot found all table = record {
  boot_member = (slot-found c cpu steps slot.window found).boot_member;
  table = table;
  confined = all-confined slot.window steps all;
}

pub first-known : (c : Content) (cpu : Cpu) (former finished : Decision) (steps : List Step) (o : Option Slot)
    → IsContent c → IfSome o (IsSweptSlot c cpu steps) → Knows c cpu former finished o None c
first-known c cpu former finished steps None right is = tt
first-known c cpu former finished steps (Some slot) right is = record {
  beside = record {
    right = right;
    boot_member = is.boot_member;
    table = is.table;
    same = SameButWindow-refl slot.window c;
  };
  before = tt;
}

pub lies-in : (c : Content) (cpu : Cpu) (steps : List Step) (o : Option Slot) → IfSome o (IsSweptSlot c cpu steps)
    → AllByRecursion (LiesIn o) steps
lies-in c cpu steps None is = go steps
  where
    go : (steps : List Step) → AllByRecursion (LiesIn None) steps
    go [] = tt
    go (step ∷ steps) = (tt, go steps)
lies-in c cpu steps (Some slot) is = is.confined

-- a step in the slot
confined-torn_by : (pattern : List ℕ) (c : Content) (w : Window) (step : Step) → IsConfined w step
    → SameButWindow w c (torn_by pattern c step)
confined-torn_by pattern c w (Erase s) inside = record {
  outside = SameOutside-wider inside.0 inside.1 (changed-same (λ i b. pattern_at pattern i) (4096 * s) 4096 c.flash);
  rows = refl;
}
confined-torn_by pattern c w (Program p d) inside = record {
  outside = SameOutside-wider inside.0 inside.1
      (changed-same (λ i b. bit_and b (bit_or (slice_index d i) (pattern_at pattern i))) (256 * p) 256 c.flash);
  rows = refl;
}
confined-torn_by pattern c w (Raise r b) inside = absurd inside

module _ (c : Content) (cpu : Cpu) (former finished : Decision) where
  moved : (slot : Slot) (last : Option Last) (d e : Content) → SameButWindow slot.window d e
      → IsKnown c cpu former finished slot last d → IsKnown c cpu former finished slot last e
  moved slot last d e step known = record {
    beside = record {
      right = known.beside.right;
      boot_member = known.beside.boot_member;
      table = known.beside.table;
      same = SameButWindow-then known.beside.same step;
    };
    before = known.before;
  }

  pub known-torn : (pattern : List ℕ) (o : Option Slot) (last : Option Last) (d : Content) (step : Step)
      → LiesIn o step → Knows c cpu former finished o last d
      → Knows c cpu former finished o last (torn_by pattern d step)
  known-torn pattern None last d step inside known = tt
  known-torn pattern (Some slot) last d step inside known =
      moved slot last d (torn_by pattern d step) (confined-torn_by pattern d slot.window step inside) known

  pub known-done : (o : Option Slot) (last : Option Last) (d : Content) (step : Step) → LiesIn o step
      → Knows c cpu former finished o last d → Knows c cpu former finished o last (after d step)
  known-done None last d step inside known = tt
  known-done (Some slot) last d step inside known =
      moved slot last d (after d step) (confined-after d slot.window step inside) known

  -- the decision is that of the content before, where the slot has the same image and there is the
  -- same table
  pub recalled-is : (slot : Slot) (last : Last) (d : Content) → IsBeside c cpu slot d
      → IsLastVerdict c cpu former finished slot.window last → table_in d ≡ table_in c
      → images_in d cpu slot.window false ≡ last.image
      → verdict_by former finished (decision_in d cpu Normal) ≡ last.verdict
  recalled-is slot last d beside is table image =
      ap (verdict_by former finished)
      (same-image-decision c slot.window cpu beside.right beside.boot_member d is.content beside.same is.same table is.table
      (image ∙ sym is.image))
      ∙ is.verdict

  -- the verdict that is recalled is that of the decision, in the words of the call
  pub recalled-verdict : (slot : Slot) (old : Option Last) (last : Last) (d : Content) (verdict : Verdict)
      (image : Option Started) → IsKnown c cpu former finished slot old d → old ≡ Some last → last.image ≡ image
      → last.verdict ≡ verdict → table_in d ≡ table_in c → image ≡ images_in d cpu slot.window false
      → verdict ≡ verdict_by former finished (decision_in d cpu Normal)
  recalled-verdict slot old last d verdict image known is seen told table shown =
      let before = subst (λ o. IfSome o (IsLastVerdict c cpu former finished slot.window)) is known.before in
      sym (recalled-is slot last d known.beside before table (sym (seen ∙ shown)) ∙ told)

-- the table and the image on a content that differs in the slot alone
module _ (c : Content) (cpu : Cpu) (slot : Slot) (d : Content) (beside : IsBeside c cpu slot d) where
  pub slot-inside : slot.window.start + slot.window.len ≤ length d.flash
  slot-inside =
      let long = beside.same.outside.long in
      let whole = beside.right.flash_length.whole in
      let inside = placed-inside (length c.flash) slot.window whole
      (placed c slot.window cpu beside.right beside.boot_member) in
      omega (arith, inside, long)

  none-some : (o : Option Found) → o ≡ None → IsSome o → ⊥
  none-some None e is = absurd cc
  none-some (Some f) e is = absurd cc

  pub table-there : slot.has_table ≡ true → table_in d ≡ table_in c
  table-there has = go (table_in c) refl (beside.table has)
    where
      go : (o : Option Found) → table_in c ≡ o → IsSome o → table_in d ≡ o
      go None is some = absurd (none-some None refl some)
      go (Some found) is some = table-stays c slot.window cpu beside.right beside.boot_member d beside.same found is

  pub table-none : table_in d ≡ None → table_in d ≡ table_in c
  table-none none = go (table_in c) refl
    where
      go : (o : Option Found) → table_in c ≡ o → table_in d ≡ o
      go None is = none
      go (Some found) is = table-stays c slot.window cpu beside.right beside.boot_member d beside.same found is

  pub table-erased : IsErasedFrom (window_bytes d slot.window) 0 4096 → table_in d ≡ table_in c
  table-erased erased = blank-table c slot.window cpu beside.right beside.boot_member d beside.same erased

pub image-erased : (d : Content) (cpu : Cpu) (w : Window) → IsErasedFrom (window_bytes d w) 0 4096
    → None ≡ images_in d cpu w false
image-erased d cpu w erased = sym (ap result_ok (erased-none in_flash w cpu false d.otp (window_bytes d w) erased))

pub some-false : (o : Option Found) → is_some o ≡ false → o ≡ None
some-false None e = refl
some-false (Some f) e = cc
