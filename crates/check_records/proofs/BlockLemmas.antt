-- Which download is current behind a block.
use Rattle.std.proofs.Common.{◌≡◌, ◌⊎◌, inl, inr, ℕ, Bool, true, false, cond, List, [], ◌∷◌, ◌++◌, Option, Some, None, Ok, Err, refl, sym, ap, ◌∙◌, subst}
use Rattle.std.specs.Prelude.{Result, not, nat_eq, length}
use Rattle.std.specs.Set.{is_member}
use Rattle.pico_board.specs.declared.boot.BootKind.{BootKind}
use Rattle.pico_board.specs.declared.boot.Cpu.{Cpu}
use Rattle.pico_board.specs.declared.Step.{Step}
use Rattle.pico_board.specs.Content.{Content}
use Rattle.pico_board.specs.Cuts.{Cut}
use Rattle.pico_board.specs.Steps.{after_all}
use Rattle.part_table.specs.declared.Table.{Table}
use Rattle.part_table.specs.declared.Target.{Target}
use Rattle.part_table.specs.declared.Right.TheVariants.{BootWrite}
use Rattle.part_table.specs.Rights.{allowed_by}
use Rattle.uf2_place.specs.declared.block.Uf2.{Uf2}
use Rattle.uf2_place.specs.declared.block.Uf2Fault.{Uf2Fault}
use Rattle.uf2_place.specs.declared.answer.Accepted.{Accepted}
use Rattle.uf2_place.specs.declared.answer.Accepted.TheVariants as accepted
use Rattle.uf2_place.specs.declared.answer.PlaceFault.{PlaceFault}
use Rattle.uf2_place.specs.declared.answer.Ruling.{Ruling}
use Rattle.uf2_place.specs.declared.answer.Ruling.TheVariants.{Answered, Begins, Continues}
use Rattle.uf2_place.specs.Placement.{grown, is_whole_download, numbers_of, sector_in}
use Rattle.uf2_place.specs.Rulings.{aimed, begun, is_page_within, is_skipped}
use Rattle.text_lines.specs.declared.outcome.EventOutcome.{EventOutcome}
use Rattle.text_lines.specs.Outcomes.{accepted_outcome}
use Rattle.boot_rules.specs.declared.decision.Decision.{Decision}
use Rattle.boot_rules.specs.declared.decision.Decision.TheVariants as decisions
use Rattle.boot_rules.specs.Choosing.{decision_in}
use Rattle.boot_rules.specs.Targets.{target_of}
use Rattle.boot_machine.specs.Boots.{decided_place}
use Rattle.boot_machine.specs.Machines.{Host, Placing, StateView, Off, InBootsel}
use Rattle.boot_machine.specs.Serving.{ServedEvent, block_outcome, block_served, blocks_of, carried_on, done_boot, followed, is_like, only_told, ruled_on, ruling_on, table_of_found, taken_in, uf2_served, with_placing}
use Rattle.boot_machine.specs.Standing.{placing_at}
use Rattle.boot_tape.specs.CutMoves.{cut_moves}
use Rattle.check_records.specs.declared.downloads.Beginning.{Beginning}
use Rattle.check_records.specs.declared.downloads.Kind.{Kind}
use Rattle.check_records.specs.declared.downloads.Stage.{Stage}
use Rattle.check_records.specs.declared.downloads.Stage.TheVariants as stages
use Rattle.check_records.specs.declared.downloads.Share.{Share}
use Rattle.check_records.specs.Noting.{current_after}
use Rattle.check_records.specs.Seeing.{Knows, current_kind, is_block, unless_lost}
use Rattle.check_records.specs.Shares.{block_share, continues, kind_at, kind_in, kind_of, placed_share, stage_of}

-- the kind of the download that is current in a place
abbrev pub kind_there : StateView → Option Kind
kind_there place = kind_at (placing_at place)

-- behind a boot none is current
pub decided-none : (c : Content) (d : Decision) → kind_there (decided_place c d) ≡ None
decided-none c (decisions.Start choice) = refl
decided-none c (decisions.Bootsel fall) = refl

-- the rulings on a block: it is answered and goes into no download, or begins one where it continues none, or
-- continues one
abbrev IsIdleRuling : Uf2 → Ruling → Type 0
IsIdleRuling b r =
    (answer : Result Accepted PlaceFault) × (r ≡ Answered answer) × (stage_of (block_outcome b.number answer) ≡ None)

abbrev IsRuled : Option Placing → Uf2 → Ruling → Type 0
IsRuled placing b r =
    IsIdleRuling b r
    ⊎ (((t : Target) × (r ≡ Begins t) × (continues (kind_at placing) b ≡ false))
    ⊎ ((t : Target) × (r ≡ Continues t) × (continues (kind_at placing) b ≡ true)))

-- where a block may go, or is refused
aimed-is : (placing : Option Placing) (t : Option Table) (b : Uf2) (target : Target) (go : Ruling) → IsRuled placing b go
    → IsRuled placing b (aimed t b target go)
aimed-is placing t b target go is =
    outer (not (is_page_within target.window.len b)) (not (allowed_by t (sector_in target.window b) BootWrite))
  where
    inner : (y : Bool) → IsRuled placing b (cond y (Answered (Err PlaceFault.NotPermitted)) go)
    inner true = inl (Err PlaceFault.NotPermitted, refl, refl)
    inner false = is

    outer : (x y : Bool)
        → IsRuled placing b (cond x (Answered (Err PlaceFault.Outside)) (cond y (Answered (Err PlaceFault.NotPermitted)) go))
    outer true y = inl (Err PlaceFault.Outside, refl, refl)
    outer false y = inner y

begun-is : (placing : Option Placing) (t : Option Table) (b : Uf2) (given : Option Target)
    → continues (kind_at placing) b ≡ false → IsRuled placing b (begun t b given)
begun-is placing t b None new = inl (Err PlaceFault.NoTarget, refl, refl)
begun-is placing t b (Some target) new =
    aimed-is placing t b target (Begins target) (inr (inl (target, refl, new)))

-- a block is of the current download's kind
pub like-is : (placing : Placing) (b : Uf2) → continues (kind_at (Some placing)) b ≡ is_like placing.blocks b
like-is placing b = go placing.blocks
  where
    go : (blocks : List Uf2) → continues (kind_in blocks) b ≡ is_like blocks b
    go [] = refl
    go (first ∷ blocks) = refl

carried-is : (t : Option Table) (placing : Placing) (b : Uf2) → continues (kind_at (Some placing)) b ≡ true
    → IsRuled (Some placing) b (carried_on t placing b)
carried-is t placing b more = go (is_member nat_eq (numbers_of placing.blocks) b.number)
  where
    go : (x : Bool) → IsRuled (Some placing) b
        (cond x (Answered (Ok accepted.Again)) (aimed t b placing.target (Continues placing.target)))
    go true = inl (Ok accepted.Again, refl, refl)
    go false =
        aimed-is (Some placing) t b placing.target (Continues placing.target) (inr (inr (placing.target, refl, more)))

ruled-is : (t : Option Table) (given : Option Target) (placing : Option Placing) (b : Uf2)
    → IsRuled placing b (ruled_on t given placing b)
ruled-is t given None b = begun-is None t b given refl
ruled-is t given (Some placing) b = go (is_like placing.blocks b) (like-is placing b)
  where
    go : (x : Bool) → continues (kind_at (Some placing)) b ≡ x
        → IsRuled (Some placing) b (cond x (carried_on t placing b) (begun t b given))
    go true is = carried-is t placing b is
    go false is = begun-is (Some placing) t b given is

ruling-is : (n : ℕ) (t : Option Table) (given : Option Target) (placing : Option Placing) (b : Uf2)
    → IsRuled placing b (ruling_on n t given placing b)
ruling-is n t given placing b = go (is_skipped n b)
  where
    go : (x : Bool) → IsRuled placing b (cond x (Answered (Ok accepted.Skipped)) (ruled_on t given placing b))
    go true = inl (Ok accepted.Skipped, refl, refl)
    go false = ruled-is t given placing b

-- a block that is served is told as one
told-block : (n : ℕ) (answer : Result Accepted PlaceFault) → stage_of (block_outcome n answer) ≡ None
    → is_block (block_outcome n answer) ≡ true
told-block n (Ok answer) none = refl
told-block n (Err PlaceFault.NoTarget) none = refl
told-block n (Err PlaceFault.Outside) none = refl
told-block n (Err PlaceFault.NotPermitted) none = refl
told-block n (Err PlaceFault.PowerLost) none = cc

taken-block : (host : Host) (target : Target) (blocks : List Uf2) (b : Uf2) (steps : List Step)
    → is_block (taken_in host target blocks b steps).outcome ≡ true
taken-block host target blocks b steps = go (is_whole_download blocks)
  where
    whole : ServedEvent
    whole = record {
      steps = steps;
      place = InBootsel (with_placing host None);
      outcome = accepted_outcome b.number (accepted.Done target);
      boot = done_boot b.family target;
    }

    part : ServedEvent
    part = record {
      steps = steps;
      place = InBootsel (with_placing host (Some (record { target = target; blocks = blocks })));
      outcome = accepted_outcome b.number accepted.Taken;
      boot = None;
    }

    go : (w : Bool) → is_block (cond w whole part).outcome ≡ true
    go true = refl
    go false = refl

ruled-block : (host : Host) (b : Uf2) (r : Ruling) → IsRuled host.placing b r
    → is_block (block_served host b r).outcome ≡ true
ruled-block host b r (inl (answer, is, none)) =
    ap (λ (x : Ruling). is_block (block_served host b x).outcome) is ∙ told-block b.number answer none
ruled-block host b r (inr (inl (t, is, new))) =
    ap (λ (x : Ruling). is_block (block_served host b x).outcome) is ∙ taken-block host t (b ∷ []) b (grown t [] (b ∷ []))
ruled-block host b r (inr (inr (t, is, more))) =
    ap (λ (x : Ruling). is_block (block_served host b x).outcome) is
    ∙ taken-block host t (blocks_of host.placing ++ b ∷ []) b (grown t (blocks_of host.placing) (blocks_of host.placing ++ b ∷ []))

pub block-told : (c : Content) (cpu : Cpu) (host : Host) (bytes : Result Uf2 Uf2Fault)
    → is_block (uf2_served c cpu host bytes).outcome ≡ true
block-told c cpu host (Err fault) = refl
block-told c cpu host (Ok b) =
    ruled-block host b _ (ruling-is (length c.flash) (table_of_found host.found)
    (target_of c (table_of_found host.found) cpu b.family) host.placing b)

-- behind a block with this share, the current download is known
module _ (c : Content) (cpu : Cpu) (cut : Option Cut) (host : Host) (current : Option Beginning)
    (knows : current_kind current ≡ kind_at host.placing) where
  -- whether its own steps complete, and whether those of the boot behind it do too
  abbrev own : ServedEvent → Bool
  own s = (cut_moves cut s.steps).whole

  abbrev both : ServedEvent → Bool
  both s = (cut_moves cut (followed c cpu s).steps).whole

  abbrev IsKnown : Share → ServedEvent → Type 0
  IsKnown share s = Knows (current_after current share) (cond (both s) (followed c cpu s).place Off)

  abbrev share_alone : Uf2 → ServedEvent → Share
  share_alone b s = placed_share (kind_at host.placing) b (stage_of (unless_lost (own s) s.outcome))

  -- an answer alone
  told-known : (b : Uf2) (outcome : EventOutcome) → stage_of outcome ≡ None
      → IsKnown (share_alone b (only_told host outcome)) (only_told host outcome)
  told-known b outcome none =
      subst (λ (o : Option Stage). IsKnown (placed_share (kind_at host.placing) b o) (only_told host outcome)) (sym none) knows

  -- the first block of the download that the block goes into
  abbrev first_of : Bool → Uf2 → Option Beginning
  first_of more b = cond more current (Some (record { kind = kind_of b; number = b.number }))

  -- the share of a block that came so far
  abbrev share_by : Bool → Uf2 → Stage → Share
  share_by more b stage =
      cond more (Share.Continues stage) (Share.Begins (record { kind = kind_of b; number = b.number }) stage)

  taken-behind : (more : Bool) (b : Uf2) → current_after current (share_by more b stages.Taken) ≡ first_of more b
  taken-behind true b = refl
  taken-behind false b = refl

  done-behind : (more : Bool) (b : Uf2) → current_after current (share_by more b stages.Done) ≡ None
  done-behind true b = refl
  done-behind false b = refl

  lost-behind : (more : Bool) (b : Uf2) → current_after current (share_by more b stages.Lost) ≡ None
  lost-behind true b = refl
  lost-behind false b = refl

  -- none is current where none is to be
  none-known : (share : Share) (place : StateView) → current_after current share ≡ None → kind_there place ≡ None
      → Knows (current_after current share) place
  none-known share place none there = ap current_kind none ∙ sym there

  -- a block that is taken into a download of these blocks
  module _ (more : Bool) (b : Uf2) (target : Target) (blocks : List Uf2)
      (first : current_kind (first_of more b) ≡ kind_in blocks) (steps : List Step) where
    abbrev whole_one : Option BootKind → ServedEvent
    whole_one asked = record {
      steps = steps;
      place = InBootsel (with_placing host None);
      outcome = accepted_outcome b.number (accepted.Done target);
      boot = asked;
    }

    abbrev part_one : ServedEvent
    part_one = record {
      steps = steps;
      place = InBootsel (with_placing host (Some (record { target = target; blocks = blocks })));
      outcome = accepted_outcome b.number accepted.Taken;
      boot = None;
    }

    -- the place behind a block whose own steps complete or do not
    abbrev LeadsTo : EventOutcome → Bool → StateView → Type 0
    LeadsTo outcome done place =
        (stage : Stage) × (stage_of (unless_lost done outcome) ≡ Some stage)
        × Knows (current_after current (share_by more b stage)) place

    abbrev IsSo : ServedEvent → Type 0
    IsSo s = LeadsTo s.outcome (own s) (cond (both s) (followed c cpu s).place Off)

    part-so : IsSo part_one
    part-so = go (own part_one)
      where
        go : (done : Bool) → LeadsTo part_one.outcome done (cond done part_one.place Off)
        go true = (stages.Taken, refl, ap current_kind (taken-behind more b) ∙ first)
        go false = (stages.Lost, refl, none-known (share_by more b stages.Lost) Off (lost-behind more b) refl)

    -- none is current behind a download that is done, nor where power is lost
    ended-so : (done : Bool) (place : StateView) → kind_there place ≡ None
        → LeadsTo (accepted_outcome b.number (accepted.Done target)) done place
    ended-so true place none =
        (stages.Done, refl, none-known (share_by more b stages.Done) place (done-behind more b) none)
    ended-so false place none =
        (stages.Lost, refl, none-known (share_by more b stages.Lost) place (lost-behind more b) none)

    left-none : (done : Bool) (place : StateView) → kind_there place ≡ None → kind_there (cond done place Off) ≡ None
    left-none true place none = none
    left-none false place none = refl

    whole-so : (asked : Option BootKind) → IsSo (whole_one asked)
    whole-so None =
        ended-so (own (whole_one None)) (cond (own (whole_one None)) (whole_one None).place Off)
        (left-none (own (whole_one None)) (whole_one None).place refl)
    whole-so (Some kind) =
        ended-so (own (whole_one (Some kind))) (cond (both (whole_one (Some kind))) (followed c cpu (whole_one (Some kind))).place Off)
        (left-none (both (whole_one (Some kind))) (followed c cpu (whole_one (Some kind))).place
        (decided-none (after_all c steps) (decision_in (after_all c steps) cpu kind)))

    share-is : (s : ServedEvent) → continues (kind_at host.placing) b ≡ more → IsSo s → IsKnown (share_alone b s) s
    share-is s is so =
        subst (λ (o : Option Stage). IsKnown (placed_share (kind_at host.placing) b o) s) (sym so.1)
        (subst (λ (x : Bool). IsKnown
        (cond x (Share.Continues so.0) (Share.Begins (record { kind = kind_of b; number = b.number }) so.0)) s) (sym is) so.2)

    taken-known : continues (kind_at host.placing) b ≡ more
        → IsKnown (share_alone b (taken_in host target blocks b steps)) (taken_in host target blocks b steps)
    taken-known is = go (is_whole_download blocks)
      where
        go : (w : Bool) → IsKnown (share_alone b (cond w (whole_one (done_boot b.family target)) part_one))
            (cond w (whole_one (done_boot b.family target)) part_one)
        go true = share-is (whole_one (done_boot b.family target)) is (whole-so (done_boot b.family target))
        go false = share-is part_one is part-so

  -- the first block of a download that goes on
  continued-first : (b : Uf2) → continues (kind_at host.placing) b ≡ true
      → current_kind current ≡ kind_in (blocks_of host.placing ++ b ∷ [])
  continued-first b is = knows ∙ go host.placing is
    where
      inner : (blocks : List Uf2) → continues (kind_in blocks) b ≡ true → kind_in blocks ≡ kind_in (blocks ++ b ∷ [])
      inner [] e = cc
      inner (first ∷ blocks) e = refl

      go : (placing : Option Placing) → continues (kind_at placing) b ≡ true
          → kind_at placing ≡ kind_in (blocks_of placing ++ b ∷ [])
      go None e = cc
      go (Some placing) e = inner placing.blocks e

  -- a block with its ruling
  abbrev IsKnownBy : Uf2 → Ruling → Type 0
  IsKnownBy b r = IsKnown (share_alone b (block_served host b r)) (block_served host b r)

  ruled-known : (b : Uf2) (r : Ruling) → IsRuled host.placing b r → IsKnownBy b r
  ruled-known b r (inl (answer, is, none)) =
      subst (IsKnownBy b) (sym is) (told-known b (block_outcome b.number answer) none)
  ruled-known b r (inr (inl (t, is, new))) =
      subst (IsKnownBy b) (sym is) (taken-known false b t (b ∷ []) refl (grown t [] (b ∷ [])) new)
  ruled-known b r (inr (inr (t, is, more))) =
      subst (IsKnownBy b) (sym is)
      (taken-known true b t (blocks_of host.placing ++ b ∷ []) (continued-first b more)
      (grown t (blocks_of host.placing) (blocks_of host.placing ++ b ∷ [])) more)

  -- 512 bytes that may be a block
  pub block-known : (bytes : Result Uf2 Uf2Fault)
      → IsKnown (block_share (kind_at host.placing) bytes
      (unless_lost (own (uf2_served c cpu host bytes)) (uf2_served c cpu host bytes).outcome)) (uf2_served c cpu host bytes)
  block-known (Err fault) = knows
  block-known (Ok b) =
      ruled-known b _ (ruling-is (length c.flash) (table_of_found host.found)
      (target_of c (table_of_found host.found) cpu b.family) host.placing b)
