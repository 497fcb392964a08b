-- The events of a script are served one after another.
use Rattle.std.proofs.Common.{◌≡◌, Bool, true, false, List, [], ◌∷◌, ◌++◌, Option, Some, None, refl, sym, ap, ◌∙◌, subst, append_assoc, append-nil}
use Rattle.std.specs.Prelude.{IsTrue, if◌then◌else◌}
use Rattle.pico_board.specs.declared.Step.{Step}
use Rattle.pico_board.specs.declared.boot.Cpu.{Cpu}
use Rattle.pico_board.specs.declared.boot.BootKind.{BootKind}
use Rattle.pico_board.specs.Board.{State as BoardState}
use Rattle.pico_board.specs.Content.{Content}
use Rattle.pico_board.specs.Steps.{after_all}
use Rattle.boot_script.specs.Events.{EventView}
use Rattle.boot_machine.specs.declared.parts.Parts.{Parts}
use Rattle.boot_machine.specs.Machines.{Host, StateView, Off, InBootsel, Running}
use Rattle.boot_machine.specs.Serving.{is_hosted, served_event}
use Rattle.boot_machine.specs.Standing.{IsHost}
use Rattle.boot_session.specs.Playing.{GoesOn, GoesOnWith, HasServed, IsServedOn}
use Rattle.boot_session.specs.Sessions.{going_on, session_from}
use Rattle.boot_session.proofs.ServedLemmas.{served-append, served-none}

module _ {B : Type 0} (state : B → BoardState) (history : B → List Step → Type 0) where
  -- the machine has served the events before those that are left; what serves these from here serves all
  pub record PlaysOn (old now : Parts B) (all left : List EventView) (first : Host) : Type 0 where
    pub host : Host
    pub stands : IsHost now host
    pub cpu : now.cpu ≡ old.cpu
    pub done : List Step
    pub board : HasServed state history old.board done now.board
    pub whole : session_from (state old.board).content old.cpu first all
        ≡ done ++ session_from (state now.board).content now.cpu host left

  -- all was served
  abbrev pub HasPlayed : Parts B → Parts B → List EventView → Host → Type 0
  HasPlayed old now all first =
      HasServed state history old.board (session_from (state old.board).content old.cpu first all) now.board

  pub plays-first : (p : Parts B) (all : List EventView) (first : Host) → IsHost p first
      → IsTrue (state p.board).powered → (state p.board).armed ≡ Some None → PlaysOn p p all all first
  plays-first p all first stands power none = record {
    host = first;
    stands = stands;
    cpu = refl;
    done = [];
    board = served-none state history p.board power none;
    whole = refl;
  }

  -- nothing is left
  pub plays-stop : (old now : Parts B) (all left : List EventView) (first : Host)
      → PlaysOn old now all left first → left ≡ [] → HasPlayed old now all first
  plays-stop old now all left first on none =
      subst (λ steps. HasServed state history old.board steps now.board)
      (sym (on.whole ∙ (ap (λ es. on.done ++ session_from (state now.board).content now.cpu on.host es) none
      ∙ append-nil on.done))) on.board

  -- an event that is not for a host is passed over
  plays-past : (old now : Parts B) (all left others : List EventView) (first : Host) (e : EventView)
      → PlaysOn old now all left first → left ≡ e ∷ others → is_hosted e ≡ false → PlaysOn old now all others first
  plays-past old now all left others first e on next not_hosted =
      let c = (state now.board).content in record {
        host = on.host;
        stands = on.stands;
        cpu = on.cpu;
        done = on.done;
        board = on.board;
        whole = on.whole
            ∙ (ap (λ es. on.done ++ session_from c now.cpu on.host es) next
            ∙ ap (λ b. on.done ++ (if b then (let s = served_event c now.cpu on.host e in s.steps
            ++ going_on (λ h. session_from (after_all c s.steps) now.cpu h others) s.boot s.place)
            else session_from c now.cpu on.host others)) not_hosted);
      }

  going-stop : (new : Parts B) (rest : Host → List Step) (boot : Option BootKind) (place : StateView)
      → GoesOnWith false new boot place → going_on rest boot place ≡ []
  going-stop new rest (Some kind) place g = refl
  going-stop new rest None Off g = refl
  going-stop new rest None (Running program) g = refl
  going-stop new rest None (InBootsel host) g = let e : false ≡ true = g.0 in cc

  going-more : (new : Parts B) (rest : Host → List Step) (boot : Option BootKind) (place : StateView)
      → GoesOnWith true new boot place → (host : Host) × IsHost new host × (going_on rest boot place ≡ rest host)
  going-more new rest (Some kind) place g = let e : true ≡ false = g in cc
  going-more new rest None Off g = let e : true ≡ false = g in cc
  going-more new rest None (Running program) g = let e : true ≡ false = g in cc
  going-more new rest None (InBootsel host) g = (host, g.1, refl)

  -- the first of the rest, where it is for a host
  first-hosted : (c : Content) (cpu : Cpu) (host : Host) (e : EventView) (es : List EventView)
      → is_hosted e ≡ true
      → session_from c cpu host (e ∷ es) ≡ (served_event c cpu host e).steps
      ++ going_on (λ h. session_from (after_all c (served_event c cpu host e).steps) cpu h es)
      (served_event c cpu host e).boot (served_event c cpu host e).place
  first-hosted c cpu host e es is =
      ap (λ b. if b then (let s = served_event c cpu host e in s.steps
      ++ going_on (λ h. session_from (after_all c s.steps) cpu h es) s.boot s.place)
      else session_from c cpu host es) is

  -- an event is served, and the session is over
  plays-last : (old now new : Parts B) (all left others : List EventView) (first : Host) (e : EventView)
      (on : PlaysOn old now all left first) → left ≡ e ∷ others
      → is_hosted e ≡ true → IsServedOn state history now e false new on.host → HasPlayed old new all first
  plays-last old now new all left others first e on next hosted one =
      let c = (state now.board).content in
      let s = served_event c now.cpu on.host e in
      let rest = going-stop new (λ h. session_from (after_all c s.steps) now.cpu h others)
      s.boot s.place one.next in
      subst (λ steps. HasServed state history old.board steps new.board)
      (sym (on.whole
      ∙ (ap (λ es. on.done ++ session_from c now.cpu on.host es) next
      ∙ (ap (λ xs. on.done ++ xs) (first-hosted c now.cpu on.host e others hosted)
      ∙ ap (λ xs. on.done ++ xs) (ap (λ xs. s.steps ++ xs) rest ∙ append-nil s.steps)))))
      (served-append state history old.board now.board new.board on.done s.steps on.board one.board)

  -- an event is served, and the session goes on
  plays-more : (old now new : Parts B) (all left others : List EventView) (first : Host) (e : EventView)
      (on : PlaysOn old now all left first) → left ≡ e ∷ others
      → is_hosted e ≡ true → IsServedOn state history now e true new on.host → PlaysOn old new all others first
  plays-more old now new all left others first e on next hosted one =
      let c = (state now.board).content in
      let s = served_event c now.cpu on.host e in
      let g = going-more new (λ h. session_from (after_all c s.steps) now.cpu h others)
      s.boot s.place one.next in
      record {
        host = g.0;
        stands = g.1;
        cpu = one.cpu ∙ on.cpu;
        done = on.done ++ s.steps;
        board = served-append state history old.board now.board new.board on.done s.steps on.board one.board;
        whole = on.whole
            ∙ (ap (λ es. on.done ++ session_from c now.cpu on.host es) next
            ∙ (ap (λ xs. on.done ++ xs) (first-hosted c now.cpu on.host e others hosted)
            ∙ (ap (λ xs. on.done ++ (s.steps ++ xs)) g.2
            ∙ (sym (append_assoc on.done s.steps (session_from (after_all c s.steps) now.cpu g.0 others))
            ∙ (ap (λ d. (on.done ++ s.steps) ++ session_from d now.cpu g.0 others) (sym one.board.content)
            ∙ ap (λ k. (on.done ++ s.steps) ++ session_from (state new.board).content k g.0 others)
            (sym one.cpu))))));
      }

  -- an event is followed: the session goes on, or all was served
  pub plays-follow : (old now new : Parts B) (all left others : List EventView) (first : Host) (e : EventView)
      (goes : Bool) → PlaysOn old now all left first → left ≡ e ∷ others
      → (is_hosted e ≡ true → GoesOn state history now e goes new)
      → (is_hosted e ≡ false → (goes ≡ true) × (new ≡ now))
      → (goes ≡ true → PlaysOn old new all others first) × (goes ≡ false → HasPlayed old new all first)
  plays-follow old now new all left others first e goes on next hosted passed = go (is_hosted e) refl
    where
      go : (b : Bool) → is_hosted e ≡ b
          → (goes ≡ true → PlaysOn old new all others first)
          × (goes ≡ false → HasPlayed old new all first)
      go true h =
          let one = hosted h on.host on.stands in (
            λ g. plays-more old now new all left others first e on next h
                (subst (λ b. IsServedOn state history now e b new on.host) g one),
            λ g. plays-last old now new all left others first e on next h
                (subst (λ b. IsServedOn state history now e b new on.host) g one),
          )
      go false h =
          let p = passed h in (
            λ g. subst (λ x. PlaysOn old x all others first) (sym p.1)
                (plays-past old now all left others first e on next h),
            λ g. let f : true ≡ false = sym p.0 ∙ g in cc,
          )
