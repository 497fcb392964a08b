-- A host's script that is played again after each of several losses of power, with boots in
-- between.
use Rattle.std.specs.Prelude.{◌≡◌, ℕ, zero, suc, List, [], ◌++◌}
use Rattle.std.specs.List.{AllByRecursion}
use Rattle.pico_board.specs.declared.Step.{Step}
use Rattle.pico_board.specs.declared.boot.Cpu.{Cpu}
use Rattle.pico_board.specs.Content.{Content}
use Rattle.pico_board.specs.Steps.{CutOf, after_all}
use Rattle.boot_rules.specs.Tables.{table_in}
use Rattle.boot_script.specs.Events.{EventView}
use Rattle.boot_session.specs.Sessions.{entered_host, session}
use Rattle.law_updates.specs.Raised.{IsRaiseOf, MayRise}
use Rattle.law_updates.specs.Targets.{HaveSameTargets}

-- The events were played on x, where they are those of a script that was made for c. Power was lost
-- in their session, and boots behind it did these raises. This has left d. It has the table of c,
-- and each block that asks for a target has the same one as on c.
pub record IsLeftBy (c : Content) (cpu : Cpu) (events : List EventView) (x : Content)
    (raises : List Step) (d : Content) : Type 0 where
  pub cut : Content
  pub lost : CutOf x (session x cpu events) cut
  pub raised : AllByRecursion (IsRaiseOf (MayRise c cpu events)) raises
  pub left : d ≡ after_all cut raises
  pub table : table_in d ≡ table_in c
  pub targets : HaveSameTargets c d cpu (entered_host c) events

-- Power was lost n times: in the session of the events on c, and then each time in their session on
-- what was left. These are the raises of all boots behind the losses.
abbrev pub IsLeftAfter : ℕ → Content → Cpu → List EventView → List Step → Content → Type 0
IsLeftAfter zero c cpu events raises d = (raises ≡ []) × (d ≡ c)
IsLeftAfter (suc n) c cpu events raises d =
    (former : List Step) × (x : Content) × (last : List Step)
    × IsLeftAfter n c cpu events former x × IsLeftBy c cpu events x last d
    × (raises ≡ former ++ last)
