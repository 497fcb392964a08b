-- The decision that the rules name is the decision as a function of the images.
use Rattle.std.proofs.Common.{subst, ◌≡◌, ◌↔◌, Bool, true, false, Result, Ok, Err, Option, Some, None, refl, sym, ◌∙◌, ap, if◌then◌else◌, MatchBool}
use Rattle.std.specs.Result.{result_ok}
use Rattle.pico_board.specs.declared.boot.Cpu.{Cpu}
use Rattle.pico_board.specs.declared.boot.BootKind.{BootKind}
use Rattle.pico_board.specs.declared.boot.BootKind.TheVariants.{Normal, Update, Bootsel as AskBootsel}
use Rattle.pico_board.specs.declared.window.Window.{Window}
use Rattle.pico_board.specs.Content.{Content, window_bytes}
use Rattle.image_def.specs.declared.started.Started.{Started}
use Rattle.otp_roll.specs.Flags.{flash_off}
use Rattle.slot_choice.specs.declared.choice.Choice.{Choice}
use Rattle.image_check.specs.declared.why.Why.{Why}
use Rattle.image_check.specs.Addressing.{in_flash}
use Rattle.image_check.specs.Image.{image_at}
use Rattle.image_check.specs.Valid.{Valid}
use Rattle.image_check.specs.NotBelow.{NotBelow}
use Rattle.image_check.proofs.LawLemmas.{valid-at, at-valid, not-below}
use Rattle.boot_rules.specs.declared.decision.Decision.{Decision}
use Rattle.boot_rules.specs.declared.decision.Decision.TheVariants.{Start, Bootsel}
use Rattle.boot_rules.specs.declared.decision.Fall.TheVariants.{Requested, FlashOff, NoImage}
use Rattle.boot_rules.specs.Choosing.{Order, order_of, boot_units_in, images_in, choose, ordered_choice, decision_of, flash_decision, decision_in}
use Rattle.boot_rules.specs.Chosen.{Chosen, ChosenInFlash, ChosenFrom, IsStart, is_updated}
use Rattle.boot_rules.proofs.ChoiceLemmas.{choice-starts, start-choice, nothing-counts, none-choice}

-- the function of images has what is valid
pub found-valid : (c : Content) (cpu : Cpu) (w : Window) (trial : Bool) (s : Started)
    → images_in c cpu w trial ≡ Some s → Valid c w cpu trial s
found-valid c cpu w trial s h = valid-at c w cpu trial s (go (image_at c w cpu trial) h)
  where
    go : (r : Result Started Why) → result_ok r ≡ Some s → r ≡ Ok s
    go (Ok t) e = cc
    go (Err y) e = cc

pub valid-found : (c : Content) (cpu : Cpu) (w : Window) (trial : Bool) (s : Started) → Valid c w cpu trial s
    → images_in c cpu w trial ≡ Some s
valid-found c cpu w trial s v = ap result_ok (at-valid c w cpu trial s v)

module _ (c : Content) (cpu : Cpu) (o : Order) where
  choice-chosen : (r : Option Choice) → ordered_choice (images_in c cpu) o.units o.updated ≡ r
      → ChosenFrom c cpu o (decision_of r)
  choice-chosen (Some choice) is =
      choice-starts c cpu (images_in c cpu) (found-valid c cpu) (valid-found c cpu) o.units o.updated choice is
  choice-chosen None is = nothing-counts c cpu (images_in c cpu) (found-valid c cpu)
      (valid-found c cpu) o.units o.updated is

  chosen-choice : (d : Decision) → ChosenFrom c cpu o d
      → d ≡ decision_of (ordered_choice (images_in c cpu) o.units o.updated)
  chosen-choice (Start choice) s =
      ap decision_of (sym (start-choice c cpu (images_in c cpu) (found-valid c cpu)
      (valid-found c cpu) o.units o.updated choice s))
  chosen-choice (Bootsel NoImage) nothing =
      ap decision_of (sym (none-choice c cpu (images_in c cpu) (found-valid c cpu)
      (valid-found c cpu) o.units o.updated nothing))
  chosen-choice (Bootsel Requested) never = absurd never
  chosen-choice (Bootsel FlashOff) never = absurd never

flash-chosen : (c : Content) (cpu : Cpu) (kind : BootKind) → ChosenInFlash c cpu kind (flash_decision c cpu kind)
flash-chosen c cpu kind = go (flash_off c.otp)
  where
    go : (off : Bool) → MatchBool off
        ((if off then Bootsel FlashOff else decision_of
        (choose (images_in c cpu) (order_of kind (boot_units_in c cpu)))) ≡ Bootsel FlashOff)
        (ChosenFrom c cpu (order_of kind (boot_units_in c cpu))
        (if off then Bootsel FlashOff else decision_of
        (choose (images_in c cpu) (order_of kind (boot_units_in c cpu)))))
    go true = refl
    go false = choice-chosen c cpu (order_of kind (boot_units_in c cpu)) _ refl

chosen-flash : (c : Content) (cpu : Cpu) (kind : BootKind) (d : Decision) → ChosenInFlash c cpu kind d
    → d ≡ flash_decision c cpu kind
chosen-flash c cpu kind d = go (flash_off c.otp)
  where
    go : (off : Bool) → MatchBool off (d ≡ Bootsel FlashOff) (ChosenFrom c cpu (order_of kind (boot_units_in c cpu)) d)
        → d ≡ (if off then Bootsel FlashOff else decision_of
        (choose (images_in c cpu) (order_of kind (boot_units_in c cpu))))
    go true h = h
    go false h = chosen-choice c cpu (order_of kind (boot_units_in c cpu)) d h

-- the rules name the decision of the function
pub decision-chosen : (c : Content) (cpu : Cpu) (kind : BootKind) → Chosen c cpu kind (decision_in c cpu kind)
unfolding decision_in
decision-chosen c cpu AskBootsel = refl
decision-chosen c cpu Normal = flash-chosen c cpu Normal
decision-chosen c cpu (Update base) = flash-chosen c cpu (Update base)

-- no other decision than that of the function is named by the rules
pub chosen-decision : (c : Content) (cpu : Cpu) (kind : BootKind) (d : Decision) → Chosen c cpu kind d
    → d ≡ decision_in c cpu kind
unfolding decision_in
chosen-decision c cpu AskBootsel d h = h
chosen-decision c cpu Normal d h = chosen-flash c cpu Normal d h
chosen-decision c cpu (Update base) d h = chosen-flash c cpu (Update base) d h

pub chosen-exactly : (c : Content) (cpu : Cpu) (kind : BootKind) (d : Decision)
    → Chosen c cpu kind d ↔ (d ≡ decision_in c cpu kind)
chosen-exactly c cpu kind d = (
  chosen-decision c cpu kind d,
  λ same. subst (λ (e : Decision). Chosen c cpu kind e) (sym same)
      (decision-chosen c cpu kind),
)

pub chosen-once : (c : Content) (cpu : Cpu) (kind : BootKind) (d e : Decision) → Chosen c cpu kind d
    → Chosen c cpu kind e → d ≡ e
chosen-once c cpu kind d e h k = chosen-decision c cpu kind d h ∙ sym (chosen-decision c cpu kind e k)

-- an image that starts is not below its rollback rows
start-not_below : (c : Content) (cpu : Cpu) (o : Order) (choice : Choice) → IsStart c cpu o choice
    → NotBelow c.otp choice.image
start-not_below c cpu o choice s =
    not-below in_flash s.counts.window cpu (is_updated o s.place choice.member) c.otp
    (window_bytes c s.counts.window) choice.image s.counts.valid

flash-not_below : (c : Content) (cpu : Cpu) (kind : BootKind) (choice : Choice)
    → ChosenInFlash c cpu kind (Start choice) → NotBelow c.otp choice.image
flash-not_below c cpu kind choice = go (flash_off c.otp)
  where
    start-bootsel : {P : Type 0} → Start choice ≡ Bootsel FlashOff → P
    start-bootsel e = cc

    go : (off : Bool) → MatchBool off (Start choice ≡ Bootsel FlashOff)
        (IsStart c cpu (order_of kind (boot_units_in c cpu)) choice) → NotBelow c.otp choice.image
    go true e = start-bootsel e
    go false s = start-not_below c cpu (order_of kind (boot_units_in c cpu)) choice s

pub chosen-not_below : (c : Content) (cpu : Cpu) (kind : BootKind) (choice : Choice) → Chosen c cpu kind (Start choice)
    → NotBelow c.otp choice.image
chosen-not_below c cpu AskBootsel choice h = asked h
  where
    asked : {P : Type 0} → Start choice ≡ Bootsel Requested → P
    asked e = cc
chosen-not_below c cpu Normal choice h = flash-not_below c cpu Normal choice h
chosen-not_below c cpu (Update base) choice h = flash-not_below c cpu (Update base) choice h
