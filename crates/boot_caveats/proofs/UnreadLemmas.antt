-- Images that fail the rule on rollback rows, and a boot that does not apply it.
use Rattle.std.proofs.Common.{◌≡◌, ◌&&◌, ◌||◌, Bool, true, false, List, [], ◌∷◌, ◌++◌, Option, Some, None, Result, Ok, Err, refl, sym, ap, ◌∙◌}
use Rattle.std.specs.Prelude.{option_to_list}
use Rattle.std.specs.Bool.{Decides}
use Rattle.std.specs.List.{flat_map, list_any}
use Rattle.std.specs.Option.{option_map_or}
use Rattle.pico_board.specs.declared.boot.Cpu.{Cpu}
use Rattle.pico_board.specs.declared.boot.BootKind.{BootKind}
use Rattle.pico_board.specs.declared.window.Window.{Window}
use Rattle.pico_board.specs.Content.{Content}
use Rattle.image_def.specs.declared.started.Started.{Started}
use Rattle.image_check.specs.declared.why.Why.{Why}
use Rattle.image_check.specs.declared.why.Why.TheVariants.{NoBlock, Loop, NoDefinition, NotForProcessor, Items, Trial, RollbackRequired, Below, Map, Entry, Digest, Delta}
use Rattle.boot_rules.specs.declared.decision.Decision.{Decision}
use Rattle.boot_rules.specs.Choosing.{decision_in}
use Rattle.boot_rules.specs.Chosen.{Chosen}
use Rattle.boot_rules.proofs.DecisionLemmas.{chosen-decision, decision-chosen}
use Rattle.boot_reasons.specs.declared.looks.UnitReport.{UnitReport}
use Rattle.slot_caveats.specs.declared.caveat.Caveat.TheVariants.{MayStart}
use Rattle.slot_caveats.specs.Listing.{caveat_if}
use Rattle.boot_caveats.specs.ChoiceCaveats.{started_window}
use Rattle.boot_caveats.specs.ImageCaveats.{is_at, is_doubtful, look_may_start, may_start, second_may_start}
use Rattle.boot_caveats.specs.ImageRules.{IsRollback, StartsUnread, below, required}
use Rattle.boot_caveats.specs.Unread.{fails_rollback, has_rollback_fault, is_rollback, unread_content, unread_window}
use Rattle.boot_caveats.proofs.ChoiceCaveatLemmas.{in-starts, starts-in}
use Rattle.boot_caveats.proofs.WindowLemmas.{window-decides}

-- an image that fails the rule
rolled-says : (why : Why) → is_rollback why ≡ true → IsRollback why
rolled-says NoBlock e = cc
rolled-says (Loop fault) e = cc
rolled-says NoDefinition e = cc
rolled-says NotForProcessor e = cc
rolled-says (Items fault) e = cc
rolled-says Trial e = cc
rolled-says RollbackRequired e = required
rolled-says (Below version count) e = below version count
rolled-says (Map fault) e = cc
rolled-says (Entry fault) e = cc
rolled-says Digest e = cc
rolled-says Delta e = cc

says-rolled : (why : Why) → IsRollback why → is_rollback why ≡ true
says-rolled _ required = refl
says-rolled _ (below version count) = refl

pub rolled-decides : (why : Why) → Decides (is_rollback why) (IsRollback why)
rolled-decides why = (rolled-says why, says-rolled why)

-- a boot that does not apply the rule starts in a window
pub unread-decides : (c : Content) (cpu : Cpu) (kind : BootKind) (w : Window)
    → Decides (is_at (unread_window c cpu kind) w) (StartsUnread c cpu kind w)
unread-decides c cpu kind w = (to (unread_window c cpu kind) refl, from)
  where
    d : Decision
    d = decision_in (unread_content c) cpu kind

    to : (o : Option Window) → unread_window c cpu kind ≡ o → is_at o w ≡ true → StartsUnread c cpu kind w
    to None is e = cc
    to (Some v) is e = (
      decision_in (unread_content c) cpu kind,
      decision-chosen (unread_content c) cpu kind,
      starts-in (decision_in (unread_content c) cpu kind) w (is ∙ ap Some ((window-decides w v).0 e)),
    )

    from : StartsUnread c cpu kind w → is_at (unread_window c cpu kind) w ≡ true
    from is =
        ap (λ x. is_at (started_window x) w) (sym (chosen-decision (unread_content c) cpu kind is.0 is.1))
        ∙ (ap (λ o. is_at o w) (in-starts is.0 w is.2) ∙ (window-decides w w).1 refl)

-- where no image fails the rule, such a boot makes no difference
module _ (o p : Option Window) where
  either-false : (a b : Bool) → (a || b) ≡ false → (a ≡ false) × (b ≡ false)
  either-false true b e = cc
  either-false false b e = (refl, e)

  one-same : (w : Window) (r : Result Started Why) → fails_rollback r ≡ false → may_start o w r ≡ may_start p w r
  one-same w (Ok s) e = refl
  one-same w (Err why) e =
      ap (λ b. caveat_if (is_doubtful why || (b && is_at o w)) (MayStart w why)) e
      ∙ sym (ap (λ b. caveat_if (is_doubtful why || (b && is_at p w)) (MayStart w why)) e)

  two-same : (second : Option Window) (r : Option (Result Started Why)) → option_map_or fails_rollback r false ≡ false
      → second_may_start o second r ≡ second_may_start p second r
  two-same None r e = refl
  two-same (Some w) None e = refl
  two-same (Some w) (Some r) e = one-same w r e

  look-same : (look : UnitReport) → has_rollback_fault look ≡ false → look_may_start o look ≡ look_may_start p look
  look-same look e =
      let both = either-false (fails_rollback look.first) _ e in
      ap (λ x. option_to_list x ++ option_to_list (second_may_start o look.unit.b look.second))
      (one-same look.unit.a look.first both.0)
      ∙ ap (λ x. option_to_list (may_start p look.unit.a look.first) ++ option_to_list x)
      (two-same look.unit.b look.second both.1)

  pub none_rolled : (looks : List UnitReport) → list_any has_rollback_fault looks ≡ false
      → flat_map (look_may_start o) looks ≡ flat_map (look_may_start p) looks
  none_rolled [] e = refl
  none_rolled (look ∷ looks) e =
      let both = either-false (has_rollback_fault look) (list_any has_rollback_fault looks) e in
      ap (λ l. l ++ flat_map (look_may_start o) looks) (look-same look both.0)
      ∙ ap (λ l. look_may_start p look ++ l) (none_rolled looks both.1)

-- the copy of a board decides so
pub copied-window : (c copy : Content) (cpu : Cpu) (kind : BootKind) (d : Decision) → copy ≡ unread_content c
    → Chosen copy cpu kind d → started_window d ≡ unread_window c cpu kind
copied-window c copy cpu kind d same chosen =
    ap started_window (chosen-decision copy cpu kind d chosen)
    ∙ ap (λ x. started_window (decision_in x cpu kind)) same
