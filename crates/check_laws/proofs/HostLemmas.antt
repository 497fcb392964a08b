-- A script is a host's exactly where the function says so.
use Rattle.std.proofs.Common.{◌≡◌, Bool, true, false, cond, List, [], ◌∷◌, ◌++◌, Option, Some, None, refl, ap, ◌∙◌}
use Rattle.std.specs.Prelude.{◌&&◌, not, is_none}
use Rattle.std.specs.List.{AllByRecursion}
use Rattle.std.proofs.lemmas.Bool.{and_from, and_parts}
use Rattle.pico_board.specs.declared.boot.Cpu.{Cpu}
use Rattle.pico_board.specs.declared.boot.BootKind.{BootKind}
use Rattle.pico_board.specs.declared.boot.BootKind.TheVariants.{Normal, Bootsel, Update}
use Rattle.pico_board.specs.Content.{Content}
use Rattle.pico_board.specs.Steps.{after_all}
use Rattle.boot_script.specs.Events.{EventView}
use Rattle.boot_machine.specs.Boots.{entered}
use Rattle.boot_machine.specs.Machines.{StateView}
use Rattle.boot_machine.specs.Serving.{is_hosted}
use Rattle.check_laws.specs.Hosting.{hosted_events, hosting, is_hosted_on}
use Rattle.check_laws.specs.Hosts.{AreServed, IsHosts, first_content, is_own, served_at}

-- the events are those of a host, and then normal resets and buys
record IsSplit (c : Content) (cpu : Cpu) (place : StateView) (asked : Option BootKind) (events : List EventView) : Type 0 where
  pub hosted : List EventView
  pub own : List EventView
  pub whole : events ≡ hosted ++ own
  pub served : AreServed c cpu place asked hosted
  pub rest : AllByRecursion (λ (event : EventView). is_own event ≡ true) own

abbrev pub AreOwn : List EventView → Type 0
AreOwn events = AllByRecursion (λ (event : EventView). is_own event ≡ true) events

-- an event that an image does by itself is for no host
pub own-apart : (event : EventView) → is_own event ≡ true → is_hosted event ≡ false
own-apart EventView.End e = cc
own-apart (EventView.Command command payload) e = cc
own-apart (EventView.Uf2 block) e = cc
own-apart (EventView.Cut left within pattern) e = cc
own-apart EventView.PowerOn e = cc
own-apart (EventView.Reset kind) e = refl
own-apart EventView.Buy e = refl

none-is : (o : Option BootKind) → is_none o ≡ true → o ≡ None
none-is None e = refl
none-is (Some kind) e = cc

-- where the host's events are over
over-own : (c : Content) (cpu : Cpu) (place : StateView) (asked : Option BootKind) (events : List EventView)
    → hosting c cpu place asked true events ≡ true → AreOwn events
over-own c cpu place asked [] e = tt
over-own c cpu place asked (event ∷ events) e = go (over-own c cpu place asked events) (is_hosted event) refl e
  where
    go : (hosting c cpu place asked true events ≡ true → AreOwn events) → (b : Bool) → is_hosted event ≡ b
        → cond b ((not true && is_none asked) && (let s = served_at c cpu place event in
        hosting (after_all c s.steps) cpu s.place s.boot true events))
        (is_own event && hosting c cpu place asked true events) ≡ true → AreOwn (event ∷ events)
    go more true is e = cc
    go more false is e = let p = and_parts _ _ e in (p.0, more p.1)

own-over : (c : Content) (cpu : Cpu) (place : StateView) (asked : Option BootKind) (over : Bool) (events : List EventView)
    → AreOwn events → hosting c cpu place asked over events ≡ true
own-over c cpu place asked over [] all = refl
own-over c cpu place asked over (event ∷ events) all =
    ap (λ b. cond b ((not over && is_none asked) && (let s = served_at c cpu place event in
    hosting (after_all c s.steps) cpu s.place s.boot over events))
    (is_own event && hosting c cpu place asked true events)) (own-apart event all.0)
    ∙ and_from _ _ all.0 (own-over c cpu place asked true events all.1)

split-of : (c : Content) (cpu : Cpu) (place : StateView) (asked : Option BootKind) (events : List EventView)
    → hosting c cpu place asked false events ≡ true → IsSplit c cpu place asked events
split-of c cpu place asked [] e = record { hosted = []; own = []; whole = refl; served = tt; rest = tt }
split-of c cpu place asked (event ∷ events) e = go (λ h. split-of (after_all c (served_at c cpu place event).steps) cpu
    (served_at c cpu place event).place (served_at c cpu place event).boot events h) (is_hosted event) refl e
  where
    go : (hosting (after_all c (served_at c cpu place event).steps) cpu (served_at c cpu place event).place
        (served_at c cpu place event).boot false events ≡ true
        → IsSplit (after_all c (served_at c cpu place event).steps) cpu (served_at c cpu place event).place
        (served_at c cpu place event).boot events)
        → (b : Bool) → is_hosted event ≡ b
        → cond b ((not false && is_none asked) && (let s = served_at c cpu place event in
        hosting (after_all c s.steps) cpu s.place s.boot false events))
        (is_own event && hosting c cpu place asked true events) ≡ true → IsSplit c cpu place asked (event ∷ events)
    go more true is e =
        let p = and_parts _ _ e in
        let s = more p.1 in record {
          hosted = event ∷ s.hosted;
          own = s.own;
          whole = ap (λ es. event ∷ es) s.whole;
          served = (is, none-is asked p.0, s.served);
          rest = s.rest;
        }
    go more false is e =
        let p = and_parts _ _ e in record {
          hosted = [];
          own = event ∷ events;
          whole = refl;
          served = tt;
          rest = (p.0, over-own c cpu place asked events p.1);
        }

served-split : (c : Content) (cpu : Cpu) (place : StateView) (asked : Option BootKind) (hosted own : List EventView)
    → AreServed c cpu place asked hosted → AreOwn own → hosting c cpu place asked false (hosted ++ own) ≡ true
served-split c cpu place asked [] own served rest = own-over c cpu place asked false own rest
served-split c cpu place asked (event ∷ hosted) own served rest =
    let s = served_at c cpu place event in
    ap (λ b. cond b ((not false && is_none asked) && hosting (after_all c s.steps) cpu s.place s.boot false (hosted ++ own))
    (is_own event && hosting c cpu place asked true (hosted ++ own))) served.0
    ∙ and_from _ _ (ap is_none served.1)
    (served-split (after_all c s.steps) cpu s.place s.boot hosted own served.2 rest)

-- the first two events of a host's script
pub hosted-is : (events others : List EventView) → hosted_events events ≡ Some others
    → events ≡ EventView.PowerOn ∷ (EventView.Reset Bootsel ∷ others)
hosted-is [] others is = cc
hosted-is (EventView.End ∷ events) others is = cc
hosted-is (EventView.Command command payload ∷ events) others is = cc
hosted-is (EventView.Uf2 block ∷ events) others is = cc
hosted-is (EventView.Cut left within pattern ∷ events) others is = cc
hosted-is (EventView.Reset kind ∷ events) others is = cc
hosted-is (EventView.Buy ∷ events) others is = cc
hosted-is (EventView.PowerOn ∷ []) others is = cc
hosted-is (EventView.PowerOn ∷ (EventView.End ∷ events)) others is = cc
hosted-is (EventView.PowerOn ∷ (EventView.Command command payload ∷ events)) others is = cc
hosted-is (EventView.PowerOn ∷ (EventView.Uf2 block ∷ events)) others is = cc
hosted-is (EventView.PowerOn ∷ (EventView.Cut left within pattern ∷ events)) others is = cc
hosted-is (EventView.PowerOn ∷ (EventView.PowerOn ∷ events)) others is = cc
hosted-is (EventView.PowerOn ∷ (EventView.Buy ∷ events)) others is = cc
hosted-is (EventView.PowerOn ∷ (EventView.Reset Normal ∷ events)) others is = cc
hosted-is (EventView.PowerOn ∷ (EventView.Reset (Update base) ∷ events)) others is = cc
hosted-is (EventView.PowerOn ∷ (EventView.Reset Bootsel ∷ events)) others is = cc

-- a script is a host's, as the function sees it
pub hosts-is : (c : Content) (cpu : Cpu) (events : List EventView)
    → is_hosted_on (first_content c cpu) cpu (hosted_events events) ≡ true → IsHosts c cpu events
hosts-is c cpu events e = go (hosted_events events) refl e
  where
    go : (o : Option (List EventView)) → hosted_events events ≡ o → is_hosted_on (first_content c cpu) cpu o ≡ true
        → IsHosts c cpu events
    go None is e = cc
    go (Some others) is e =
        let s = split-of (first_content c cpu) cpu (entered (first_content c cpu)) None others e in record {
          hosted = s.hosted;
          own = s.own;
          whole = hosted-is events others is
              ∙ ap (λ es. EventView.PowerOn ∷ (EventView.Reset Bootsel ∷ es)) s.whole;
          served = s.served;
          rest = s.rest;
        }

pub is-hosts : (c : Content) (cpu : Cpu) (events : List EventView) → IsHosts c cpu events
    → is_hosted_on (first_content c cpu) cpu (hosted_events events) ≡ true
is-hosts c cpu events h =
    ap (λ es. is_hosted_on (first_content c cpu) cpu (hosted_events es)) h.whole
    ∙ served-split (first_content c cpu) cpu (entered (first_content c cpu)) None h.hosted h.own h.served h.rest
