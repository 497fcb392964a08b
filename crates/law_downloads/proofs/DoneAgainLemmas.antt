-- A copied download in which power is lost, and that it can be done again.
use Rattle.std.proofs.Common.{◌≡◌, ◌⊎◌, inl, inr, ℕ, ◌+◌, ◌<◌, ◌≤◌, true, false, List, [], ◌∷◌, length, slice_get, slice_index, Option, Some, None, refl, sym, ap, ◌∙◌, subst, arith}
use Rattle.std.specs.Prelude.{option_map}
use Rattle.std.specs.List.{AllByRecursion}
use Rattle.pico_board.specs.declared.Step.{Step}
use Rattle.pico_board.specs.declared.Step.TheVariants.{Erase, Program, Raise}
use Rattle.pico_board.specs.declared.Window.{Window}
use Rattle.pico_board.specs.declared.boot.BootKind.TheVariants.{Normal}
use Rattle.pico_board.specs.declared.boot.Cpu.{Cpu}
use Rattle.pico_board.specs.Content.{AreApart, Content, IsContent, window_bytes}
use Rattle.pico_board.specs.Sessions.{Confined, Gated, SameButWindow, Unfinished}
use Rattle.pico_board.specs.Steps.{CutOf, IsStepIn, after_all}
use Rattle.pico_board.proofs.ConfinementLemmas.{confined-CutOf}
use Rattle.pico_board.proofs.CuttingLemmas.{IsContent-CutOf}
use Rattle.pico_board.proofs.RangeLemmas.{get_or-window_bytes}
use Rattle.block_codec.specs.Erased.{IsErasedFrom}
use Rattle.otp_roll.specs.Flags.{slot_size}
use Rattle.part_table.specs.declared.Target.{Target}
use Rattle.part_table.specs.declared.table.Right.TheVariants.{BootWrite}
use Rattle.part_table.specs.Rights.{allowed_by}
use Rattle.part_table.proofs.TestLemmas.{mapped_some}
use Rattle.slot_choice.specs.declared.choice.Choice.{Choice}
use Rattle.slot_choice.specs.declared.unit.SlotUnit.{SlotUnit}
use Rattle.slot_choice.specs.LoadUnits.{load_unit}
use Rattle.boot_rules.specs.declared.decision.Decision.{Decision}
use Rattle.boot_rules.specs.declared.decision.Decision.TheVariants.{Bootsel, Start}
use Rattle.boot_rules.specs.declared.tables.Found.{Found}
use Rattle.boot_rules.specs.Choosing.{boot_units_in}
use Rattle.boot_rules.specs.Chosen.{Chosen, IsBootMember}
use Rattle.boot_rules.specs.Starts.{table_of_content}
use Rattle.boot_rules.specs.Tables.{table_in}
use Rattle.boot_rules.specs.Targets.{target_of, unit_target}
use Rattle.boot_rules.proofs.TargetLemmas.{target-apart}
use Rattle.boot_rules.specs.AccidentalImages.{HasNoAccidentalImage}
use Rattle.boot_rules.proofs.SameUnitLemmas.{units-same}
use Rattle.boot_session.specs.CutSessions.{CutSession, StartsOutside, StartsFinished}
use Rattle.boot_session.proofs.ConfinedLaws.{table-stays}
use Rattle.boot_session.proofs.GatedLaws.{blank-table, decide-blank, decide-content, gated-decision}
use Rattle.boot_session.proofs.NeighbourLemmas as near
use Rattle.law_downloads.specs.Copied.{AreLostUpdates, IsCutDownload, IsDownload, IsLostUpdate, copied_session, last_of}
use Rattle.law_downloads.proofs.DownloadLemmas.{gated-confined, is-placed, session-gated}
use Rattle.law_downloads.proofs.SameTargetLemmas.{same-target, self-apart}

-- the table where power is lost in a gated session
cut-table : (c : Content) (w : Window) (cpu : Cpu) (steps : List Step) (d : Content) → IsContent c
    → IsBootMember c w cpu
    → Gated steps w → CutOf c steps d → table_in (after_all c steps) ≡ table_in c
    → (Unfinished c steps w d → HasNoAccidentalImage c (after_all c steps) d w cpu) → table_in d ≡ table_in c
cut-table c w cpu steps d right boot_member gated cut done no_accident = go (table_in c) refl
  where
    left : SameButWindow w c d
    left = confined-CutOf c w steps d (gated-confined steps w gated) cut

    blank : ((i : ℕ) → i < 4096 → slice_index d.flash (w.start + i) ≡ 255) → table_in d ≡ table_in c
    blank each = blank-table c w cpu right boot_member d left erased
      where
        erased : IsErasedFrom (window_bytes d w) 0 4096
        erased i low lt =
            let some = (near.placed c w cpu right boot_member).some in
            get_or-window_bytes d w i (omega (arith, some, lt)) ∙ each i lt

    go : (o : Option Found) → table_in c ≡ o → table_in d ≡ table_in c
    go (Some found) is = table-stays c w cpu right boot_member d left found is ∙ sym is
    go None none = elim (decide-content d c) [
      | inl is ↦ ap table_in is
      | inr moved ↦ elim (decide-content d (after_all c steps)) [
        | inl is ↦ ap table_in is ∙ done
        | inr short ↦ elim (decide-blank d.flash w.start 4096) [
          | inl each ↦ blank each
          | inr touched ↦ (no_accident (record { moved = moved; short = short; touched = touched })).table
        ]
      ]
    ]

steps-in : (w : Window) (n : ℕ) → w.start + w.len ≤ n → (steps : List Step) → Confined steps w
    → AllByRecursion (IsStepIn n) steps
steps-in w n inside [] all = tt
steps-in w n inside (Erase s ∷ steps) all = (omega (arith, inside, all.0.1), steps-in w n inside steps all.1)
steps-in w n inside (Program p d ∷ steps) all = (omega (arith, inside, all.0.1), steps-in w n inside steps all.1)
steps-in w n inside (Raise r b ∷ steps) all = absurd all.0

pair-there : (c : Content) (o : Option _) (cpu : Cpu) (family : ℕ) (u : SlotUnit) (b : Option Window)
    → (unit_target c o cpu family u b).gated ≡ true → (second : Window) × (b ≡ Some second)
pair-there c o cpu family u None gated = let wrong : false ≡ true = gated in cc
pair-there c o cpu family u (Some second) gated = (second, refl)

-- a normal boot starts no image of the target
never-running : (c : Content) (cpu : Cpu) (family : ℕ) (target : Target) (image : List ℕ) (e : Decision)
    → IsDownload c cpu family target image → Chosen c cpu Normal e → StartsOutside target.window e
never-running c cpu family target image (Bootsel fall) is chosen = tt
never-running c cpu family target image (Start choice) is chosen = λ here.
    let t = table_of_content c in
    let at = mapped_some (λ (u : SlotUnit). unit_target c t cpu family u u.b)
    (load_unit t (length c.flash) (slot_size c.otp (length c.flash)) family) target is.aimed in
    let pair = pair-there c t cpu family at.0 at.0.b (ap (λ (x : Target). x.gated) (sym at.2) ∙ is.gated) in
    self-apart target.window (is-placed c cpu family target image is).some
    (subst (AreApart target.window) here
    (target-apart c cpu family at.0 pair.0 target choice is.right at.1 pair.1 is.aimed chosen))

module _ (c : Content) (cpu : Cpu) (family : ℕ) (target : Target) (image : List ℕ) (d : Content)
    (lost : IsCutDownload c cpu family target image d) where
  abbrev w : Window
  w = target.window

  abbrev steps : List Step
  steps = copied_session c cpu family image

  gated : Gated steps w
  gated = session-gated c cpu family target image lost.download

  right : IsContent c
  right = lost.download.right

  -- the cut download is a gated session in which power is lost, under all premises of the law on those
  pub cut-session : (e : Decision) → Chosen c cpu Normal e → CutSession c w cpu steps d e
  cut-session e former = record {
    right = right;
    boot_member = lost.boot_member;
    gated = gated;
    cut = lost.cut;
    former = former;
    elsewhere = never-running c cpu family target image e lost.download former;
    table = lost.table;
    no_accident = lost.no_accident;
  }

  -- the next normal boot
  pub cut-decision : (e : Decision) → Chosen c cpu Normal e
      → Chosen d cpu Normal e ⊎ StartsFinished (after_all c steps) d cpu
  cut-decision e former = gated-decision c w cpu steps d e (cut-session e former)

  same-but : SameButWindow w c d
  same-but = confined-CutOf c w steps d (gated-confined steps w gated) lost.cut

  table-same : table_in d ≡ table_in c
  table-same = cut-table c w cpu steps d right lost.boot_member gated lost.cut lost.table lost.no_accident

  content : IsContent d
  content =
      let inside = (is-placed c cpu family target image lost.download).inside in
      IsContent-CutOf c steps d right
      (steps-in w (length c.flash) (omega (arith, inside)) steps (gated-confined steps w gated)) lost.cut

  units : boot_units_in d cpu ≡ boot_units_in c cpu
  units =
      units-same c d cpu table-same same-but.outside.long
      (ap (λ o. slot_size o (length c.flash)) same-but.rows)

  module _ (choice : Choice) (former : Chosen c cpu Normal (Start choice))
      (beside : choice.image.window ≡ lost.boot_member.other) (same : Chosen d cpu Normal (Start choice)) where
    pub again-target : target_of d (table_of_content d) cpu family ≡ Some target
    again-target =
        same-target c cpu w right lost.boot_member d table-same same-but.outside.long same-but.rows choice beside former same
        family target refl lost.download.gated lost.download.aimed

    pub again-download : IsDownload d cpu family target image
    again-download = record {
      right = content;
      executable = lost.download.executable;
      aimed = again-target;
      gated = lost.download.gated;
      rights = λ s low high.
          ap (λ o. allowed_by (option_map (λ (f : Found). f.table) o) s BootWrite) table-same
          ∙ lost.download.rights s low high;
      bytes = lost.download.bytes;
      some = lost.download.some;
      room = lost.download.room;
    }

    pub again-home : (boot_member : IsBootMember d w cpu) × (choice.image.window ≡ boot_member.other)
    again-home = (
      record {
        place = lost.boot_member.place;
        unit = lost.boot_member.unit;
        member = lost.boot_member.member;
        other = lost.boot_member.other;
        tried = ap (λ us. slice_get us lost.boot_member.place) units ∙ lost.boot_member.tried;
        stands = lost.boot_member.stands;
        pair = lost.boot_member.pair;
      },
      beside,
    )

pub lost-download : (c : Content) (cpu : Cpu) (family : ℕ) (target : Target) (image : List ℕ) (choice : Choice)
    (d : Content) → IsLostUpdate c cpu family target image choice d → IsDownload d cpu family target image
lost-download c cpu family target image choice d is =
    again-download c cpu family target image d is.lost choice is.former is.beside is.same

pub lost-target : (c : Content) (cpu : Cpu) (family : ℕ) (target : Target) (image : List ℕ) (choice : Choice)
    (d : Content) → IsLostUpdate c cpu family target image choice d
    → target_of d (table_of_content d) cpu family ≡ Some target
lost-target c cpu family target image choice d is =
    again-target c cpu family target image d is.lost choice is.former is.beside is.same

pub lost-home : (c : Content) (cpu : Cpu) (family : ℕ) (target : Target) (image : List ℕ) (choice : Choice)
    (d : Content) → IsLostUpdate c cpu family target image choice d
    → (boot_member : IsBootMember d target.window cpu) × (choice.image.window ≡ boot_member.other)
lost-home c cpu family target image choice d is =
    again-home c cpu family target image d is.lost choice is.former is.beside is.same

-- however often power is lost
pub lost-again : (c : Content) (cpu : Cpu) (family : ℕ) (target : Target) (image : List ℕ) (choice : Choice)
    (ds : List Content) → IsDownload c cpu family target image
    → AreLostUpdates c cpu family target image choice ds → IsDownload (last_of c ds) cpu family target image
lost-again c cpu family target image choice [] is lost = is
lost-again c cpu family target image choice (d ∷ ds) is lost =
    lost-again d cpu family target image choice ds (lost-download c cpu family target image choice d lost.0) lost.1
