-- What a host's blocks are served with, and which case of the table serves an event.
use Rattle.std.proofs.Common.{◌≡◌, ◌/◌, Bool, true, false, List, [], ◌∷◌, ◌++◌, Ok, Err, Option, None, length, refl, sym, ap, subst}
use Rattle.std.specs.Option.{ForSome}
use Rattle.pico_board.specs.declared.Step.{Step}
use Rattle.pico_board.specs.declared.board.PowerLost.{PowerLost}
use Rattle.pico_board.specs.declared.boot.Cpu.{Cpu}
use Rattle.pico_board.specs.declared.boot.BootKind.{BootKind}
use Rattle.pico_board.specs.Content.{Content}
use Rattle.pico_board.specs.Board.{State as BoardState, DoesAll}
use Rattle.sector_pool.specs.Pool.{Pool}
use Rattle.part_table.specs.declared.Target.{Target}
use Rattle.part_table.specs.Sound.{IsSoundTable}
use Rattle.uf2_place.specs.declared.block.Uf2.{Uf2}
use Rattle.uf2_place.specs.declared.answer.Ruling.{Ruling}
use Rattle.uf2_place.specs.declared.answer.Ruling.TheVariants.{Answered, Begins, Continues}
use Rattle.uf2_place.specs.Accepting.{DownloadView}
use Rattle.uf2_place.specs.Downloads.{IsTargetIn, lease_of}
use Rattle.uf2_place.specs.Placement.{grown, is_whole_download}
use Rattle.boot_machine.specs.declared.parts.Parts.{Parts}
use Rattle.boot_machine.specs.declared.state.State.TheVariants.{Bootsel}
use Rattle.boot_machine.specs.Machines.{Host, InBootsel}
use Rattle.text_lines.specs.declared.outcome.EventOutcome.{EventOutcome}
use Rattle.text_lines.specs.declared.outcome.EventOutcome.TheVariants as event_outcomes
use Rattle.boot_machine.specs.declared.served.Served.{Served}
use Rattle.boot_machine.specs.Serving.{ServedEvent, block_served, blocks_of, taken_in, with_placing}
use Rattle.boot_machine.specs.Standing.{Carries, HasRoom, IsHost, IsLeft, IsServed, IsServedBlock, IsSteady, Serves, StandsAt, is_bootsel, placing_at}
use Rattle.boot_machine.proofs.SteadinessLemmas.{host-of, steady-bootsel}

-- a block leaves the machine in BOOTSEL, with its table and its SRAM
taken-place : (host : Host) (t : Target) (blocks : List Uf2) (b : Uf2) (steps : List Step)
    → (taken_in host t blocks b steps).place
    ≡ InBootsel (with_placing host (placing_at (taken_in host t blocks b steps).place))
taken-place host t blocks b steps = by (is_whole_download blocks) refl
  where
    by : (w : Bool) → is_whole_download blocks ≡ w → (taken_in host t blocks b steps).place
        ≡ InBootsel (with_placing host (placing_at (taken_in host t blocks b steps).place))
    by true whole = rw whole refl
    by false whole = rw whole refl

pub block-place : (host : Host) (b : Uf2) (r : Ruling) → (block_served host b r).place
    ≡ InBootsel (with_placing host (placing_at (block_served host b r).place))
block-place host b (Answered answer) = refl
block-place host b (Begins t) = taken-place host t (b ∷ []) b (grown t [] (b ∷ []))
block-place host b (Continues t) =
    taken-place host t (blocks_of host.placing ++ b ∷ []) b
    (grown t (blocks_of host.placing) (blocks_of host.placing ++ b ∷ []))

module _ {B : Type 0} where
  -- the parts once a block was placed
  abbrev pub with_block : Parts B → B → Pool → DownloadView → Parts B
  with_block p board pool download = record {
    board = board;
    pool = pool;
    download = download;
    ram = p.ram;
    cpu = p.cpu;
    state = p.state;
    membership = p.membership;
    found = p.found;
  }

  module _ (state : B → BoardState) (history : B → List Step → Type 0) where
    pub block-ok : (old : Parts B) (host : Host) (s : ServedEvent) (board : B) (pool : Pool) (d : DownloadView)
        (served : Served) → s.place ≡ InBootsel (with_placing host (placing_at s.place))
        → IsHost old host → IsServedBlock state history s old.board (Ok served) board d pool
        → IsServed state history old s served.boot (with_block old board pool d) served.outcome
    block-ok old host s board pool d answer place is served = record {
      ok = true;
      by = record {
        board = served.steps;
        cpu = refl;
        place = subst (StandsAt (with_block old board pool d)) (sym place)
            (record { state = is.state; found = is.found; placing = served.carries; ram = is.ram });
        told = served.told;
        off = tt;
        lost = tt;
      };
      asked = served.boot;
      silent = tt;
    }

    pub block-lost : (old new : Parts B) (s : ServedEvent) (board : B) (pool : Pool) (d : DownloadView)
        (lost : PowerLost)
        (outcome : EventOutcome) → IsServedBlock state history s old.board (Err lost) board d pool
        → IsLeft (with_block old board pool d) new → outcome ≡ event_outcomes.PowerLost
        → IsServed state history old s None new outcome
    block-lost old new s board pool d lost outcome served left is = record {
      ok = false;
      by = record {
        board = subst (DoesAll state history old.board s.steps false) (sym left.board) served.steps;
        cpu = left.cpu;
        place = tt;
        told = tt;
        off = left.off;
        lost = is;
      };
      asked = tt;
      silent = refl;
    }

    pub steady-block : (old : Parts B) (s : Host → ServedEvent) (board : B) (pool : Pool) (d : DownloadView)
        (answer : Served) → IsSteady state old → old.state ≡ Bootsel
        → ((host : Host) → host.found ≡ old.found → Carries old.download old.pool host.placing
        → IsServedBlock state history (s host) old.board (Ok answer) board d pool)
        → HasRoom pool (lease_of d.current)
        → ForSome d.current (λ c. IsTargetIn (length (state board).content.flash) c.target)
        → IsSteady state (with_block old board pool d)
    steady-block old s board pool d answer steady is served room target =
        let at = host-of state old steady is in
        let one = served (at.0) at.1.found at.1.placing in
        steady-bootsel state (with_block old board pool d) is one.steps.power room target
        (placing_at (s (at.0)).place, one.carries)
        (λ f found. subst (λ n. IsSoundTable f.table (n / 4096)) (sym one.steps.size)
        (steady.found (ap is_bootsel is) f found))

    -- what one case of the table serves another one serves that says the same
    pub serves-as : (old new : Parts B) (f h : Content → Cpu → Host → ServedEvent) (answer : Option BootKind)
        (outcome : EventOutcome) → ((c : Content) (cpu : Cpu) (host : Host) → f c cpu host ≡ h c cpu host)
        → Serves state history old f answer new outcome → Serves state history old h answer new outcome
    serves-as old new f h answer outcome same serves host is =
        subst (λ s. IsServed state history old s answer new outcome) (same (state old.board).content old.cpu host)
        (serves host is)
