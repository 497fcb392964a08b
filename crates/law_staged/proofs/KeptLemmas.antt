-- Where no loop closes in the window, a normal boot decides as before.
use Rattle.std.proofs.Common.{◌≡◌, ◌≢◌, inl, inr, false, List, Option, Some, None, refl, sym, ◌∙◌, subst}
use Rattle.pico_board.specs.declared.boot.Cpu.{Cpu}
use Rattle.pico_board.specs.declared.boot.BootKind.TheVariants.{Normal}
use Rattle.pico_board.specs.declared.window.Window.{Window}
use Rattle.pico_board.specs.Content.{Content, IsContent, window_bytes}
use Rattle.pico_board.specs.Sessions.{SameButWindow}
use Rattle.pico_board.proofs.ConfinementLemmas.{SameButWindow-refl}
use Rattle.block_codec.specs.Blocks.{BlockView}
use Rattle.block_loop.specs.Loop.{IsLoop}
use Rattle.image_def.specs.declared.started.Started.{Started}
use Rattle.image_check.specs.SameImage.{SameImage}
use Rattle.image_check.proofs.LawLemmas.{valid-window}
use Rattle.slot_choice.specs.declared.choice.Choice.{Choice}
use Rattle.boot_rules.specs.declared.decision.Decision.{Decision}
use Rattle.boot_rules.specs.declared.decision.Decision.TheVariants.{Start}
use Rattle.boot_rules.specs.Choosing.{boot_units_in, decision_in, images_in, order_of}
use Rattle.boot_rules.specs.Chosen.{Chosen, IsBootMember, is_updated}
use Rattle.boot_rules.proofs.AccidentalImageLemmas.{same-there}
use Rattle.boot_rules.proofs.DataLemmas.{same-bytes}
use Rattle.boot_rules.proofs.DecisionLemmas.{chosen-exactly, found-valid}
use Rattle.boot_rules.proofs.StartLemmas.{chosen-start}
use Rattle.boot_session.specs.CutSessions.{StartsOutside}
use Rattle.boot_session.proofs.ConfinedLaws.{empty-decision, normal-valid}
use Rattle.boot_session.proofs.NeighbourLemmas.{here-or-apart}
use Rattle.law_staged.specs.Staged.{StartsAsBefore}
use Rattle.law_staged.proofs.SlotTableLemmas.{loopless-table}

module _ (c : Content) (w : Window) (cpu : Cpu) (right : IsContent c) (boot_member : IsBootMember c w cpu) (e : Decision)
    (former : Chosen c cpu Normal e) (elsewhere : StartsOutside w e) (d : Content) (same : SameButWindow w c d) where
  -- an image that starts elsewhere has the same bytes
  same-start : (choice : Choice) → e ≡ Start choice → SameImage c d choice.image cpu
  same-start choice is =
      let chosen : Chosen c cpu Normal (Start choice) = subst (λ x. Chosen c cpu Normal x) is former in
      let start = chosen-start c cpu Normal choice chosen in
      let x = choice.image.window in
      let at : x ≡ start.counts.window =
      valid-window c start.counts.window cpu
      (is_updated (order_of Normal (boot_units_in c cpu)) start.place choice.member) choice.image start.counts.valid in
      let away : choice.image.window ≢ w = subst (StartsOutside w) is elsewhere in
      elim (here-or-apart c w cpu right boot_member start.place start.unit choice.member start.counts.window
      start.counts.tried start.counts.stands) [
        | inl here ↦ absurd (away (at ∙ here))
        | inr apart ↦
            let bytes : window_bytes d start.counts.window ≡ window_bytes c start.counts.window =
            same-bytes c d w same start.counts.window apart in
            (same-there d c x cpu (subst (λ v. window_bytes c v ≡ window_bytes d v) (sym at) (sym bytes)) (sym same.rows)
            choice.image (normal-valid c cpu choice chosen)).same
      ]

  pub loopless-same : ((bs : List BlockView) → IsLoop (window_bytes d w) bs → ⊥) → StartsAsBefore c d cpu e
  loopless-same none =
      let is : e ≡ decision_in c cpu Normal = (chosen-exactly c cpu Normal e).0 former in
      let table = loopless-table c w cpu right boot_member d same none in
      let kept : decision_in d cpu Normal ≡ decision_in c cpu Normal =
      empty-decision c w cpu right boot_member d same table (subst (StartsOutside w) is elsewhere)
      (no-image (images_in d cpu w false) refl) in
      record {
        table = table;
        decides = (chosen-exactly d cpu Normal e).1 (is ∙ sym kept);
        same = same-start;
      }
    where
      no-image : (o : Option Started) → images_in d cpu w false ≡ o → images_in d cpu w false ≡ None
      no-image None e = e
      no-image (Some s) e =
          let v = found-valid d cpu w false s e in absurd (none v.sound.loop v.sound.defined.closes)

-- nothing was done
pub former-same : (c : Content) (w : Window) (cpu : Cpu) → IsContent c → IsBootMember c w cpu → (e : Decision)
    → Chosen c cpu Normal e → StartsOutside w e → StartsAsBefore c c cpu e
former-same c w cpu right boot_member e former elsewhere = record {
  table = refl;
  decides = former;
  same = same-start c w cpu right boot_member e former elsewhere c (SameButWindow-refl w c);
}
