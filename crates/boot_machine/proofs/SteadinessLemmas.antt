-- What holds of the parts of a machine between events.
use Rattle.std.proofs.Common.{◌≡◌, ℕ, ◌/◌, true, false, List, [], Option, None, Some, length, refl, sym, ap, ◌∙◌, subst}
use Rattle.std.specs.Prelude.{IsTrue, is_some}
use Rattle.std.specs.Option.{ForSome}
use Rattle.pico_board.specs.declared.Step.{Step}
use Rattle.pico_board.specs.Board.{State as BoardState, DoesAll}
use Rattle.pico_board.proofs.StepLemmas.{DoesAll-none}
use Rattle.sector_pool.specs.Keeping.{KeepsOut}
use Rattle.sector_pool.specs.Pool.{Pool}
use Rattle.part_table.specs.Sound.{IsSoundTable}
use Rattle.image_def.specs.declared.started.Started.{Started}
use Rattle.uf2_place.specs.Accepting.{DownloadView}
use Rattle.uf2_place.specs.Downloads.{IsTargetIn, lease_of}
use Rattle.text_lines.specs.declared.outcome.EventOutcome.{EventOutcome}
use Rattle.boot_machine.specs.declared.parts.Parts.{Parts}
use Rattle.boot_machine.specs.declared.state.State.TheVariants.{Off, Bootsel, Running}
use Rattle.boot_machine.specs.Machines.{Host, Placing}
use Rattle.boot_machine.specs.Serving.{only_told, with_ram}
use Rattle.boot_machine.specs.Standing.{Carries, HasRoom, IsHost, IsLeft, IsRamStart, IsServed, IsSteady, is_bootsel, is_on, membership_of}
use Rattle.boot_machine.proofs.CarriedLemmas.{carried}
use Rattle.boot_machine.proofs.RoomLemmas.{room-kept}

-- the download is busy where it carries a placing
pub busy-as : (d : DownloadView) (pool : Pool) (placing : Option Placing) → Carries d pool placing
    → is_some d.current ≡ is_some placing
busy-as d pool None none = ap is_some none
busy-as d pool (Some p) stands = ap is_some stands.is

module _ {B : Type 0} where
  -- the parts with another pool and other bytes in the SRAM
  abbrev pub with_host : Parts B → Pool → List ℕ → Parts B
  with_host p pool ram = record {
    board = p.board;
    pool = pool;
    download = p.download;
    ram = ram;
    cpu = p.cpu;
    state = p.state;
    membership = p.membership;
    found = p.found;
  }

  -- the parts with another board
  abbrev pub with_board : Parts B → B → Parts B
  with_board p board = record {
    board = board;
    pool = p.pool;
    download = p.download;
    ram = p.ram;
    cpu = p.cpu;
    state = p.state;
    membership = p.membership;
    found = p.found;
  }

  -- a machine in BOOTSEL serves a host
  pub host-of : (state : B → BoardState) (p : Parts B) → IsSteady state p → p.state ≡ Bootsel
      → (host : Host) × IsHost p host
  host-of state p steady is = (
    record { found = p.found; placing = steady.carries.0; ram = p.ram },
    record { state = is; found = refl; placing = steady.carries.1; ram = refl },
  )

  pub host-with : (p : Parts B) (pool : Pool) (ram : List ℕ) (host : Host) → KeepsOut p.pool pool → IsHost p host
      → IsHost (with_host p pool ram) (with_ram host ram)
  host-with p pool ram host keeps is = record {
    state = is.state;
    found = is.found;
    placing = carried p.download p.pool pool host.placing keeps is.placing;
    ram = refl;
  }

  pub host-kept : (p : Parts B) (pool : Pool) (host : Host) → KeepsOut p.pool pool → IsHost p host
      → IsHost (with_host p pool p.ram) host
  host-kept p pool host keeps is = record {
    state = is.state;
    found = is.found;
    placing = carried p.download p.pool pool host.placing keeps is.placing;
    ram = is.ram;
  }

  module _ (state : B → BoardState) where
    -- the parts of a machine in BOOTSEL
    pub steady-bootsel : (q : Parts B) → q.state ≡ Bootsel → IsTrue (state q.board).powered
        → HasRoom q.pool (lease_of q.download.current)
        → ForSome q.download.current (λ c. IsTargetIn (length (state q.board).content.flash) c.target)
        → (placing : Option Placing) × Carries q.download q.pool placing
        → ForSome q.found (λ f. IsSoundTable f.table (length (state q.board).content.flash / 4096))
        → IsSteady state q
    steady-bootsel q is power room target carries found = record {
      power = λ on. power;
      room = room;
      target = target;
      carries = carries;
      idle = λ off. let no : Bootsel ≡ Off = no-bootsel q.state is off in cc no;
      found = λ on. found;
      held = λ choice run. let no : Bootsel ≡ Running choice.image = sym is ∙ run.state in cc no;
    }
      where
        no-bootsel : (s : _) → s ≡ Bootsel → is_bootsel s ≡ false → Bootsel ≡ Off
        no-bootsel s same off = cc (ap is_bootsel (sym same) ∙ off)

    pub steady-host : (p : Parts B) (pool : Pool) (ram : List ℕ) → IsSteady state p → p.state ≡ Bootsel
        → KeepsOut p.pool pool → IsSteady state (with_host p pool ram)
    steady-host p pool ram steady is keeps =
        steady-bootsel (with_host p pool ram) is (steady.power (ap is_on is))
        (room-kept p.pool pool (lease_of p.download.current) keeps steady.room) steady.target
        (steady.carries.0, carried p.download p.pool pool steady.carries.0 keeps steady.carries.1)
        (steady.found (ap is_bootsel is))

    -- the parts in BOOTSEL once the board did steps
    pub steady-board : (p : Parts B) (board : B) → IsSteady state p → p.state ≡ Bootsel
        → IsTrue (state board).powered
        → length (state board).content.flash ≡ length (state p.board).content.flash
        → IsSteady state (with_board p board)
    steady-board p board steady is power size =
        steady-bootsel (with_board p board) is power steady.room
        (λ current held. subst (λ n. IsTargetIn n current.target) (sym size) (steady.target current held))
        steady.carries
        (λ f found. subst (λ n. IsSoundTable f.table (n / 4096)) (sym size) (steady.found (ap is_bootsel is) f found))

    -- the parts without power
    pub steady-left : (old new : Parts B) → IsLeft old new → IsSteady state new
    steady-left old new left = record {
      power = λ on. let no : false ≡ true = ap is_on (sym left.off) ∙ on in cc no;
      room = subst (λ current. HasRoom new.pool (lease_of current)) (sym left.none) left.room;
      target = λ current is. let no : None ≡ Some current = sym left.none ∙ is in cc no;
      carries = (None, left.none);
      idle = λ off. left.none;
      found = λ on. let no : false ≡ true = ap is_bootsel (sym left.off) ∙ on in cc no;
      held = λ choice run. let no : Off ≡ Running choice.image = sym left.off ∙ run.state in cc no;
    }

    -- the parts while an image in RAM runs
    pub steady-ram : (old new : Parts B) (image : Started) → IsRamStart old image new
        → IsTrue (state old.board).powered → IsSteady state new
    steady-ram old new image start power = record {
      power = λ on. subst (λ b. IsTrue (state b).powered) (sym start.board) power;
      room = subst (λ current. HasRoom new.pool (lease_of current)) (sym start.none) start.room;
      target = λ current is. let no : None ≡ Some current = sym start.none ∙ is in cc no;
      carries = (None, start.none);
      idle = λ off. start.none;
      found = λ on. let no : false ≡ true = ap is_bootsel (sym start.runs.state) ∙ on in cc no;
      held = λ choice run.
          let no : None ≡ Some (membership_of choice) = sym start.runs.membership ∙ run.membership in cc no;
    }

    module _ (history : B → List Step → Type 0) where
      -- nothing is done but an answer
      pub told-served : (old new : Parts B) (host : Host) (outcome told : EventOutcome) → IsTrue (state old.board).powered
          → new.board ≡ old.board → new.cpu ≡ old.cpu → IsHost new host → told ≡ outcome
          → IsServed state history old (only_told host outcome) None new told
      told-served old new host outcome told power same cpu is one = record {
        ok = true;
        by = record {
          board = subst (DoesAll state history old.board [] true) (sym same) (DoesAll-none old.board power);
          cpu = cpu;
          place = is;
          told = one;
          off = tt;
          lost = tt;
        };
        asked = refl;
        silent = tt;
      }
