-- A host's script that is played again as often as power is lost comes to one end.
use Rattle.std.proofs.Common.{◌≡◌, ℕ, zero, suc, List, [], length, refl, sym, ap, ◌∙◌, subst}
use Rattle.pico_board.specs.declared.Step.{Step}
use Rattle.pico_board.specs.declared.boot.Cpu.{Cpu}
use Rattle.pico_board.specs.Content.{Content}
use Rattle.pico_board.specs.Steps.{CutOf, after_all}
use Rattle.pico_board.proofs.StepLemmas.{after_all-append}
use Rattle.boot_rules.specs.Tables.{table_in}
use Rattle.boot_script.specs.Events.{EventView}
use Rattle.boot_session.specs.Sessions.{entered_host, session, session_from}
use Rattle.law_updates.specs.Again.{NamesRowsOnce}
use Rattle.law_updates.specs.Often.{IsLeftAfter, IsLeftBy}
use Rattle.law_updates.specs.Raised.{MayRise, ram_started}
use Rattle.law_updates.specs.Targets.{HaveSameTargets}
use Rattle.law_updates.proofs.AgainLemmas.{ComesTo, IsClear, again, comes-same, cut-flash, once, same-host}
use Rattle.law_updates.proofs.RaisedLemmas.{raised-flash, raises-last}
use Rattle.law_updates.proofs.RowBitLemmas.{LiesIn, lies-on, lies-raised, lies-self}

module _ (c : Content) (cpu : Cpu) (events : List EventView) where
  abbrev Free : ℕ → Type 0
  Free = MayRise c cpu events

  abbrev steps : List Step
  steps = session c cpu events

  -- the content is one of those between c and the end of the session, but for free rows
  pub record IsOnWay (d : Content) : Type 0 where
    pub lies : LiesIn Free (length c.otp) steps c d
    pub flash : length d.flash ≡ length c.flash
    pub comes : ComesTo d steps (session d cpu events)

  clear : IsClear Free (λ row free. free.listed) (ram_started c cpu (entered_host c) events)
  clear image is row r free among = free.untouched.apart image r is among

  way-start : IsOnWay c
  way-start = record {
    lies = lies-self Free steps c;
    flash = refl;
    comes = comes-same c steps steps refl;
  }

  way-by : (x : Content) (raises : List Step) (d : Content) → IsOnWay x → IsLeftBy c cpu events x raises d → IsOnWay d
  way-by x raises d way by = record {
    lies = lies;
    flash = flash;
    comes =
        subst (λ h. ComesTo d steps (session_from d cpu h events)) (sym (same-host c d by.table))
        (again Free (λ row free. free.listed) (length c.otp) cpu events (entered_host c) c d by.targets
        (λ row free. free.untouched.unnamed) clear flash lies);
  }
    where
      lies : LiesIn Free (length c.otp) steps c d
      lies =
          subst (LiesIn Free (length c.otp) steps c) (sym by.left)
          (lies-raised Free (length c.otp) c steps by.cut raises
          (lies-on Free (length c.otp) c steps x by.cut way.lies (way.comes.lost by.cut by.lost)) by.raised)

      flash : length d.flash ≡ length c.flash
      flash =
          ap (λ (e : Content). length e.flash) by.left
          ∙ (ap (λ (xs : List ℕ). length xs) (raised-flash Free by.cut raises by.raised)
          ∙ (cut-flash x (session x cpu events) by.cut by.lost ∙ way.flash))

  pub way-after : (n : ℕ) (raises : List Step) (d : Content) → IsLeftAfter n c cpu events raises d → IsOnWay d
  way-after zero raises d left = subst IsOnWay (sym left.1) way-start
  way-after (suc n) raises d (former, x, last, before, by, whole) =
      way-by x last d (way-after n former x before) by

  -- the steps are the same each time, where no two writes name one row
  pub often-same : (n : ℕ) (raises : List Step) (d : Content) → NamesRowsOnce events
      → IsLeftAfter n c cpu events raises d → session d cpu events ≡ steps
  often-same zero raises d named left = ap (λ x. session x cpu events) left.1
  often-same (suc n) raises d named (former, x, last, before, by, whole) =
      let way = way-by x last d (way-after n former x before) by in
      ap (λ h. session_from d cpu h events) (same-host c d by.table)
      ∙ once Free (λ row free. free.listed) (length c.otp) cpu events (entered_host c) c d by.targets named
      (λ row free. free.untouched.unnamed) clear way.flash way.lies

  -- The end is that of the session on c with the raises, where steps come to the same end from what a loss of power in
  -- them leaves.
  module _ (alike : (x y : Content) → CutOf x steps y → after_all y steps ≡ after_all x steps) where
    steps-end : (n : ℕ) (raises : List Step) (d : Content) → IsLeftAfter n c cpu events raises d
        → after_all d steps ≡ after_all (after_all c steps) raises
    steps-end zero raises d left =
        ap (λ x. after_all x steps) left.1 ∙ sym (ap (after_all (after_all c steps)) left.0)
    steps-end (suc n) raises d (former, x, last, before, by, whole) =
        ap (λ x. after_all x steps) by.left
        ∙ (raises-last Free by.cut last steps by.raised
        ∙ (ap (λ y. after_all y last)
        (alike x by.cut ((way-after n former x before).comes.lost by.cut by.lost)
        ∙ steps-end n former x before)
        ∙ (sym (after_all-append (after_all c steps) former last)
        ∙ sym (ap (after_all (after_all c steps)) whole))))

    pub often-ends : (n : ℕ) (raises : List Step) (d : Content) → IsLeftAfter n c cpu events raises d
        → after_all d (session d cpu events) ≡ after_all (after_all c steps) raises
    often-ends n raises d left = (way-after n raises d left).comes.end ∙ steps-end n raises d left

-- one loss, and no boot behind it
pub once-left : (c : Content) (cpu : Cpu) (events : List EventView) (d : Content)
    → HaveSameTargets c d cpu (entered_host c) events → CutOf c (session c cpu events) d → table_in d ≡ table_in c
    → IsLeftAfter 1 c cpu events [] d
once-left c cpu events d targets lost table = (
  [],
  c,
  [],
  (refl, refl),
  record { cut = d; lost = lost; raised = tt; left = refl; table = table; targets = targets },
  refl,
)
