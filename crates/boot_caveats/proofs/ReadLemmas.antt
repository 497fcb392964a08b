-- What the reads of a board need: windows inside the flash, and rollback rows.
use Rattle.std.proofs.Common.{◌≡◌, ℕ, ◌*◌, ◌/◌, ◌≤◌, Bool, true, false, List, [], ◌∷◌, ◌++◌, length, slice_get, Option, Some, None, is_some, cond, refl, sym, ap, ◌∙◌, subst, All}
use Rattle.std.specs.Prelude.{IfSome, Result}
use Rattle.std.proofs.lemmas.List.Elements.{All-cons, All-head, All-nil, All-tail}
use Rattle.std.proofs.lemmas.Option.{same_Some}
use Rattle.pico_board.specs.declared.boot.Cpu.{Cpu}
use Rattle.pico_board.specs.declared.boot.BootKind.{BootKind}
use Rattle.pico_board.specs.declared.window.Window.{Window}
use Rattle.pico_board.specs.Content.{Content, IsContent}
use Rattle.image_def.specs.declared.started.Started.{Started}
use Rattle.image_def.proofs.GuaranteeLemmas.{definition_from_ok}
use Rattle.image_check.specs.declared.why.Why.{Why}
use Rattle.image_check.specs.Valid.{Valid}
use Rattle.image_check.proofs.LawLemmas.{valid-window}
use Rattle.image_check.proofs.RuleLemmas.{suits-type}
use Rattle.otp_roll.specs.Flags.{flash_off}
use Rattle.otp_roll.specs.Rows.{AreRollbackRows}
use Rattle.part_table.specs.declared.table.Table.{Table}
use Rattle.part_table.specs.Sound.{IsSoundTable}
use Rattle.slot_choice.specs.declared.unit.Member.{Member}
use Rattle.slot_choice.specs.declared.unit.Member.TheVariants.{A, B}
use Rattle.slot_choice.specs.declared.unit.SlotUnit.{SlotUnit}
use Rattle.slot_choice.specs.Units.{member_window}
use Rattle.boot_rules.specs.declared.decision.Decision.{Decision}
use Rattle.boot_rules.specs.declared.decision.Decision.TheVariants.{Start, Bootsel}
use Rattle.boot_rules.specs.Choosing.{boot_units_in, order_of}
use Rattle.boot_rules.specs.Chosen.{Chosen, is_updated}
use Rattle.boot_rules.specs.Picking.{AreInside, IsInside}
use Rattle.boot_rules.specs.Tables.{table_in}
use Rattle.boot_rules.proofs.PlaceLemmas.{boot-units-inside, order-all, slot-size, table-sound}
use Rattle.boot_rules.proofs.StartLemmas.{all-at, chosen-start}
use Rattle.boot_reasons.specs.declared.looks.UnitReport.{UnitReport}
use Rattle.boot_reasons.specs.declared.reasons.Reasons.{Reasons}
use Rattle.boot_reasons.specs.Looks.{report_on, reports_of}
use Rattle.boot_reasons.specs.Reasons.{does_report, order_where, reasons_in, reports_in, results_in, table_of_reasons}
use Rattle.boot_reasons.proofs.ReasonLemmas.{reasons-right}
use Rattle.boot_reasons.proofs.TableReasonLemmas.{taken-in}
use Rattle.boot_caveats.specs.Reads.{AreLooksInside, ArePartsInside, HasReadableStart}

at-split : {X : Type 0} (before behind : List X) (x : X) → slice_get (before ++ x ∷ behind) (length before) ≡ Some x
at-split [] behind x = refl
at-split (y ∷ before) behind x = at-split before behind x

-- the rows of a valid image are rollback rows
valid-rows : (c : Content) (w : Window) (cpu : Cpu) (trial : Bool) (s : Started) → Valid c w cpu trial s
    → AreRollbackRows s.rows.items
valid-rows c w cpu trial s v =
    let d = v.sound.defined in
    let last = d.defines in
    let at : slice_get v.sound.loop (length last.before) ≡ Some v.image.block =
    ap (λ xs. slice_get xs (length last.before)) last.whole ∙ at-split last.before last.behind v.image.block in
    let stands = d.closes.chain.stand (length last.before) v.image.block at in
    let sound = definition_from_ok v.image.block v.image.def stands.stands.whole
    (suits-type cpu v.image.block last.here) d.items in
    subst AreRollbackRows (sym (ap (λ (x : Started). x.rows.items) v.started)) sound.rows

member-inside : (n : ℕ) (u : SlotUnit) (m : Member) (w : Window) → AreInside n u → member_window m u ≡ Some w
    → IsInside n w
member-inside n u A w inside e = subst (IsInside n) (same_Some u.a w e) inside.first
member-inside n u B w inside e = second u.b inside.second e
  where
    second : (o : Option Window) → IfSome o (IsInside n) → o ≡ Some w → IsInside n w
    second None is same = cc
    second (Some v) is same = subst (IsInside n) (same_Some v w same) is

-- the image that starts stands inside and lists rollback rows
pub readable-start : (c : Content) (cpu : Cpu) (kind : BootKind) (d : Decision) → IsContent c → Chosen c cpu kind d
    → HasReadableStart (length c.flash) d
readable-start c cpu kind (Bootsel fall) right chosen = tt
readable-start c cpu kind (Start choice) right chosen =
    let start = chosen-start c cpu kind choice chosen in
    let counts = start.counts in
    let order = order_of kind (boot_units_in c cpu) in
    let trial = is_updated order start.place choice.member in
    let inside = all-at (AreInside (length c.flash)) order.units start.place start.unit
    (order-all (AreInside (length c.flash)) kind (boot_units_in c cpu) (boot-units-inside c cpu right)) counts.tried in
    record {
      inside = subst (IsInside (length c.flash))
          (sym (valid-window c counts.window cpu trial choice.image counts.valid))
          (member-inside (length c.flash) start.unit choice.member counts.window inside counts.stands);
      rows = valid-rows c counts.window cpu trial choice.image counts.valid;
    }

pub readable-reasons : (c : Content) (cpu : Cpu) (kind : BootKind) (r : Reasons) → IsContent c
    → r ≡ reasons_in c cpu kind → HasReadableStart (length c.flash) r.decision
readable-reasons c cpu kind r right is =
    readable-start c cpu kind r.decision right
    (subst (λ (x : Reasons). Chosen c cpu kind x.decision) (sym is) (reasons-right c cpu kind).decision)

-- what holds of all units holds of those that are reported
reported-all : (P : SlotUnit → Type 0) (images : Window → Bool → Result Started Why) (us : List SlotUnit)
    (updated : Option Member) → All P us
    → All (λ (look : UnitReport). P look.unit) (reports_of images us updated)
reported-all P images [] updated all = All-nil (λ (look : UnitReport). P look.unit)
reported-all P images (u ∷ us) updated all =
    All-cons (λ (look : UnitReport). P look.unit) (report_on images u updated) _ (All-head P u us all)
    (go (reported-all P images us None (All-tail P u us all)) (is_some (report_on images u updated).taken))
  where
    go : All (λ (look : UnitReport). P look.unit) (reports_of images us None) → (b : Bool)
        → All (λ (look : UnitReport). P look.unit) (cond b [] (reports_of images us None))
    go rest true = All-nil (λ (look : UnitReport). P look.unit)
    go rest false = rest

pub looks-inside : (c : Content) (cpu : Cpu) (kind : BootKind) → IsContent c
    → AreLooksInside (length c.flash) (reports_in c cpu kind)
looks-inside c cpu kind right = go (does_report kind (flash_off c.otp))
  where
    go : (does : Bool)
        → AreLooksInside (length c.flash)
        (reports_of (results_in c cpu) (order_where does kind c cpu).units (order_where does kind c cpu).updated)
    go true = reported-all (AreInside (length c.flash)) (results_in c cpu) (order_of kind (boot_units_in c cpu)).units
        (order_of kind (boot_units_in c cpu)).updated
        (order-all (AreInside (length c.flash)) kind (boot_units_in c cpu) (boot-units-inside c cpu right))
    go false = All-nil (λ (look : UnitReport). AreInside (length c.flash) look.unit)

pub reasons-inside : (c : Content) (cpu : Cpu) (kind : BootKind) (r : Reasons) → IsContent c
    → r ≡ reasons_in c cpu kind → AreLooksInside (length c.flash) r.looks.items
unfolding reasons_in
reasons-inside c cpu kind r right is =
    subst (λ (x : Reasons). AreLooksInside (length c.flash) x.looks.items) (sym is) (looks-inside c cpu kind right)

-- the slots fit into the flash
pub slots-fit : (c : Content) (cpu : Cpu) (kind : BootKind) (r : Reasons) → IsContent c
    → r ≡ reasons_in c cpu kind → 2 * r.size ≤ length c.flash
unfolding reasons_in
slots-fit c cpu kind r right is =
    subst (λ (x : Reasons). 2 * x.size ≤ length c.flash) (sym is)
    (slot-size c.otp (length c.flash) right.flash_length.least).fits

-- the partitions of the table of the flash stand inside
pub parts-inside : (c : Content) (cpu : Cpu) (kind : BootKind) (r : Reasons) → r ≡ reasons_in c cpu kind
    → IfSome (table_of_reasons r) (λ t. ArePartsInside (length c.flash) t.parts.items)
unfolding reasons_in
parts-inside c cpu kind r is =
    go (table_of_reasons r) (subst (λ (o : Option Table). IfSome o (λ t. IsSoundTable t (length c.flash / 4096)))
    (sym (ap table_of_reasons is ∙ taken-in c)) (table-sound c (table_in c) refl))
  where
    go : (o : Option Table) → IfSome o (λ t. IsSoundTable t (length c.flash / 4096))
        → IfSome o (λ t. ArePartsInside (length c.flash) t.parts.items)
    go None sound = tt
    go (Some t) sound = sound.inside
