-- A host's commands and downloads that are played again come to one end.
use Rattle.std.proofs.Common.{◌≡◌, ◌⊎◌, inl, inr, ℕ, ◌≤◌, List, [], ◌∷◌, ◌++◌, length, Option, Some, None, refl, sym, ap, ◌∙◌, subst, arith}
use Rattle.std.specs.Prelude.{Contains}
use Rattle.std.specs.List.{AllByRecursion}
use Rattle.pico_board.specs.declared.Step.{Step}
use Rattle.pico_board.specs.declared.boot.Cpu.{Cpu}
use Rattle.pico_board.specs.declared.boot.BootKind.{BootKind}
use Rattle.pico_board.specs.Content.{Content}
use Rattle.pico_board.specs.declared.step.Step.TheVariants as steps
use Rattle.pico_board.specs.Steps.{CutOf, Torn, after, after_all}
use Rattle.pico_board.proofs.CuttingLemmas.{length-after_all}
use Rattle.pico_board.proofs.StepLemmas.{CutOf-append_cases, CutOf-append_left, CutOf-append_right, after_all-append}
use Rattle.otp_roll.specs.Rows.{IsOutside}
use Rattle.otp_roll.specs.declared.flags.TheConstants.{BOOT_FLAGS}
use Rattle.otp_roll.specs.declared.rows.TheConstants.{FIRST_ROW}
use Rattle.image_def.specs.declared.started.Started.{Started}
use Rattle.image_check.specs.NotBelow.{NotBelow}
use Rattle.picoboot_cmd.specs.Commands.{command_in}
use Rattle.boot_rules.specs.Tables.{table_in}
use Rattle.boot_script.specs.Events.{EventView}
use Rattle.boot_machine.specs.Machines.{Host, Program, StateView, Off, InBootsel, Running, FromRam}
use Rattle.boot_machine.specs.Serving.{ServedEvent, command_served, uf2_served}
use Rattle.ram_start.specs.Sram.{zero_ram}
use Rattle.boot_session.specs.Sessions.{entered_host, going_on, session_from}
use Rattle.uf2_place.specs.Blocks.{uf2_of}
use Rattle.law_updates.specs.Again.{NamesRow, NamesRowsOnce}
use Rattle.law_updates.specs.Raised.{ram_started, ram_started_on}
use Rattle.law_updates.specs.Targets.{HaveSameTargets, then_on}
use Rattle.law_updates.proofs.BelowLemmas.{below-stays}
use Rattle.law_updates.proofs.DownloadLemmas.{block-same, block-unnamed}
use Rattle.law_updates.proofs.RowBitLemmas.{LiesIn, added, added-append, lies-after, none-left}
use Rattle.law_updates.proofs.ServedLemmas.{IsExact, IsIdle, runs-idle, served-done, served-same, served-unnamed}

-- the steps behind an event that has led to this content
abbrev behind : Cpu → List EventView → Content → Option BootKind → StateView → List Step
behind cpu events x boot place = going_on (λ next. session_from x cpu next events) boot place

-- the image in RAM that starts behind it
abbrev ram_behind : Cpu → List EventView → Content → Option BootKind → StateView → Option Started
ram_behind cpu events x boot place = ram_started_on (λ next. ram_started x cpu next events) boot place

nothing-behind : (cpu : Cpu) (events : List EventView) (x : Content) (boot : Option BootKind) (place : StateView)
    (p : Program) → place ≡ Running p → behind cpu events x boot place ≡ []
nothing-behind cpu events x boot place p is = ap (behind cpu events x boot) is ∙ go boot
  where
    go : (o : Option BootKind) → behind cpu events x o (Running p) ≡ []
    go None = refl
    go (Some kind) = refl

-- other steps come to the same end from d, and what a loss of power in them leaves, one in these steps leaves too
pub record ComesTo (d : Content) (steps other : List Step) : Type 0 where
  pub end : after_all d other ≡ after_all d steps
  pub lost : (e : Content) → CutOf d other e → CutOf d steps e

pub comes-same : (d : Content) (steps other : List Step) → other ≡ steps → ComesTo d steps other
comes-same d steps other same = record {
  end = ap (after_all d) same;
  lost = λ e cut. subst (λ (xs : List Step). CutOf d xs e) same cut;
}

-- behind the same first steps
comes-behind : (d : Content) (first steps other : List Step) → ComesTo (after_all d first) steps other
    → ComesTo d (first ++ steps) (first ++ other)
comes-behind d first steps other comes = record {
  end = after_all-append d first other ∙ (comes.end ∙ sym (after_all-append d first steps));
  lost = λ e cut. elim (CutOf-append_cases d first other e cut) [
    | inl early ↦ CutOf-append_left d first steps e early
    | inr late ↦ CutOf-append_right d first steps e (comes.lost e late)
  ];
}

-- behind first steps that change nothing, and are left out
comes-past : (d : Content) (first steps other : List Step) → after_all d first ≡ d → ComesTo d steps other
    → ComesTo d (first ++ steps) other
comes-past d first steps other idle comes = record {
  end = comes.end ∙ (ap (λ x. after_all x steps) (sym idle) ∙ sym (after_all-append d first steps));
  lost = λ e cut.
      CutOf-append_right d first steps e (subst (λ x. CutOf x steps e) (sym idle) (comes.lost e cut));
}

-- a row that no event names is not raised
behind-unnamed : (n : ℕ) (cpu : Cpu) (events : List EventView) (c : Content) (row k : ℕ)
    → ((host : Host) → added n (session_from c cpu host events) row k ≡ 0)
    → (boot : Option BootKind) (place : StateView)
    → added n (behind cpu events c boot place) row k ≡ 0
behind-unnamed n cpu events c row k rest (Some kind) place = refl
behind-unnamed n cpu events c row k rest None Off = refl
behind-unnamed n cpu events c row k rest None (Running p) = refl
behind-unnamed n cpu events c row k rest None (InBootsel host) = rest host

unnamed : (n : ℕ) (cpu : Cpu) (events : List EventView) (host : Host) (c : Content) (row k : ℕ)
    → AllByRecursion (λ (other : EventView). NamesRow other row → ⊥) events
    → added n (session_from c cpu host events) row k ≡ 0
unnamed n cpu [] host c row k others = refl
unnamed n cpu (EventView.Command command payload ∷ events) host c row k others =
    let s = command_served c cpu host (command_in command) payload in
    let first = served-unnamed n c cpu host (command_in command) payload row k others.0 in
    let rest = behind-unnamed n cpu events (after_all c s.steps) row k
    (λ next. unnamed n cpu events next (after_all c s.steps) row k others.1) s.boot s.place in
    let parts = added-append n s.steps (behind cpu events (after_all c s.steps) s.boot s.place) row k in
    omega (arith, first, rest, parts)
unnamed n cpu (EventView.Uf2 block ∷ events) host c row k others =
    let s = uf2_served c cpu host (uf2_of block) in
    let first = block-unnamed n row k c cpu host (uf2_of block) in
    let rest = behind-unnamed n cpu events (after_all c s.steps) row k
    (λ next. unnamed n cpu events next (after_all c s.steps) row k others.1) s.boot s.place in
    let parts = added-append n s.steps (behind cpu events (after_all c s.steps) s.boot s.place) row k in
    omega (arith, first, rest, parts)
unnamed n cpu (EventView.End ∷ events) host c row k others = unnamed n cpu events host c row k others.1
unnamed n cpu (EventView.Cut after within pattern ∷ events) host c row k others =
    unnamed n cpu events host c row k others.1
unnamed n cpu (EventView.PowerOn ∷ events) host c row k others = unnamed n cpu events host c row k others.1
unnamed n cpu (EventView.Reset kind ∷ events) host c row k others = unnamed n cpu events host c row k others.1
unnamed n cpu (EventView.Buy ∷ events) host c row k others = unnamed n cpu events host c row k others.1

-- Rows that are free may have more bits. They are none of the flags.
module _ (Free : ℕ → Type 0) (listed : (row : ℕ) → Free row → FIRST_ROW ≤ row) where
  -- an image that starts lists none of them
  abbrev pub IsClear : Option Started → Type 0
  IsClear o = (image : Started) → o ≡ Some image → (row r : ℕ) → Free row → Contains image.rows.items r → IsOutside row r

  -- no event names one of them
  abbrev pub AreUnnamed : List EventView → Type 0
  AreUnnamed events = (row : ℕ) → Free row → AllByRecursion (λ (other : EventView). NamesRow other row → ⊥) events

  -- what is done behind an event, from both contents
  behind-again : (n : ℕ) (cpu : Cpu) (events : List EventView) (c d : Content) (Kept : Host → Type 0)
      → ((host : Host) → Kept host → IsClear (ram_started c cpu host events)
      → LiesIn Free n (session_from c cpu host events) c d
      → ComesTo d (session_from c cpu host events) (session_from d cpu host events))
      → (boot : Option BootKind) (place : StateView) → then_on Kept boot place
      → IsClear (ram_behind cpu events c boot place)
      → LiesIn Free n (behind cpu events c boot place) c d
      → ComesTo d (behind cpu events c boot place) (behind cpu events d boot place)
  behind-again n cpu events c d Kept rest (Some kind) place kept clear lies = comes-same d [] [] refl
  behind-again n cpu events c d Kept rest None Off kept clear lies = comes-same d [] [] refl
  behind-again n cpu events c d Kept rest None (Running p) kept clear lies = comes-same d [] [] refl
  behind-again n cpu events c d Kept rest None (InBootsel host) kept clear lies = rest host kept clear lies

  behind-once : (n : ℕ) (cpu : Cpu) (events : List EventView) (c d : Content) (Kept : Host → Type 0)
      → ((host : Host) → Kept host → IsClear (ram_started c cpu host events)
      → LiesIn Free n (session_from c cpu host events) c d
      → session_from d cpu host events ≡ session_from c cpu host events)
      → (boot : Option BootKind) (place : StateView) → then_on Kept boot place
      → IsClear (ram_behind cpu events c boot place)
      → LiesIn Free n (behind cpu events c boot place) c d
      → behind cpu events d boot place ≡ behind cpu events c boot place
  behind-once n cpu events c d Kept rest (Some kind) place kept clear lies = refl
  behind-once n cpu events c d Kept rest None Off kept clear lies = refl
  behind-once n cpu events c d Kept rest None (Running p) kept clear lies = refl
  behind-once n cpu events c d Kept rest None (InBootsel host) kept clear lies = rest host kept clear lies

  -- one event of a host and what follows it
  module _ (n : ℕ) (cpu : Cpu) (events : List EventView) (host : Host) (c d : Content)
      (flash : length d.flash ≡ length c.flash) (s t : ServedEvent) where
    abbrev left : List Step
    left = behind cpu events (after_all c s.steps) s.boot s.place

    -- what follows it from another content
    abbrev right : Content → List Step
    right x = behind cpu events x s.boot s.place

    -- the targets behind it, where it leads from d to this content
    abbrev Kept : Content → Host → Type 0
    Kept x next = HaveSameTargets (after_all c s.steps) x cpu next events

    abbrev Clear : Type 0
    Clear = IsClear (ram_behind cpu events (after_all c s.steps) s.boot s.place)

    abbrev Rest : Type 0
    Rest = (next : Host) → Kept (after_all d s.steps) next
        → IsClear (ram_started (after_all c s.steps) cpu next events)
        → LiesIn Free n (session_from (after_all c s.steps) cpu next events) (after_all c s.steps) (after_all d s.steps)
        → ComesTo (after_all d s.steps) (session_from (after_all c s.steps) cpu next events)
        (session_from (after_all d s.steps) cpu next events)

    comes-on : then_on (Kept (after_all d s.steps)) s.boot s.place → Clear → LiesIn Free n (s.steps ++ left) c d → Rest
        → ComesTo (after_all d s.steps) left (right (after_all d s.steps))
    comes-on kept clear lies rest =
        behind-again n cpu events (after_all c s.steps) (after_all d s.steps) (Kept (after_all d s.steps)) rest
        s.boot s.place kept clear (lies-after Free n s.steps left c d lies)

    -- the second time as it leads on from a content
    led-alike : (x : Content) → t.boot ≡ s.boot → t.place ≡ s.place
        → behind cpu events x t.boot t.place ≡ right x
    led-alike x boot place =
        ap (λ o. behind cpu events x o t.place) boot ∙ ap (λ p. behind cpu events x s.boot p) place

    step-again : IsExact s t ⊎ IsIdle d s t → then_on (Kept (after_all d t.steps)) s.boot s.place → Clear
        → LiesIn Free n (s.steps ++ left) c d → Rest
        → ComesTo d (s.steps ++ left) (t.steps ++ behind cpu events (after_all d t.steps) t.boot t.place)
    step-again (inl exact) kept clear lies rest =
        subst (λ (xs : List Step). ComesTo d (s.steps ++ left) xs)
        (sym (ap (λ xs. xs ++ behind cpu events (after_all d xs) t.boot t.place) exact.steps
        ∙ ap (λ xs. s.steps ++ xs) (led-alike (after_all d s.steps) exact.boot exact.place)))
        (comes-behind d s.steps left (right (after_all d s.steps))
        (comes-on (subst (λ xs. then_on (Kept (after_all d xs)) s.boot s.place) exact.steps kept) clear lies rest))
    step-again (inr idle) kept clear lies rest =
        subst (λ (xs : List Step). ComesTo d (s.steps ++ left) xs)
        (sym (ap (λ xs. xs ++ behind cpu events (after_all d xs) t.boot t.place) idle.none
        ∙ led-alike d idle.boot idle.place))
        (comes-past d s.steps left (right d) idle.done
        (subst (λ x. ComesTo x left (right x)) idle.done
        (comes-on (subst (λ x. then_on (Kept x) s.boot s.place) (ap (after_all d) idle.none ∙ sym idle.done) kept)
        clear lies rest)))

    step-once : IsExact s t → then_on (Kept (after_all d t.steps)) s.boot s.place → Clear
        → LiesIn Free n (s.steps ++ left) c d
        → ((next : Host) → Kept (after_all d s.steps) next
        → IsClear (ram_started (after_all c s.steps) cpu next events)
        → LiesIn Free n (session_from (after_all c s.steps) cpu next events) (after_all c s.steps) (after_all d s.steps)
        → session_from (after_all d s.steps) cpu next events ≡ session_from (after_all c s.steps) cpu next events)
        → t.steps ++ behind cpu events (after_all d t.steps) t.boot t.place ≡ s.steps ++ left
    step-once exact kept clear lies rest =
        ap (λ xs. xs ++ behind cpu events (after_all d xs) t.boot t.place) exact.steps
        ∙ (ap (λ xs. s.steps ++ xs) (led-alike (after_all d s.steps) exact.boot exact.place)
        ∙ ap (λ xs. s.steps ++ xs)
        (behind-once n cpu events (after_all c s.steps) (after_all d s.steps) (Kept (after_all d s.steps)) rest
        s.boot s.place
        (subst (λ xs. then_on (Kept (after_all d xs)) s.boot s.place) exact.steps kept) clear
        (lies-after Free n s.steps left c d lies)))

    -- where an image in RAM starts, nothing is left to be done, and its triples are the same
    stays : s.steps ≡ [] → Clear → LiesIn Free n (s.steps ++ left) c d → (image : Started)
        → s.place ≡ Running (FromRam image) → NotBelow c.otp image → NotBelow d.otp image
    stays none clear lies image is not =
        below-stays c.otp d.otp image
        (λ row r among inside. none-left Free n c d nothing row (λ free. inside (apart row r free among)))
        (none-left Free n c d nothing BOOT_FLAGS (λ free. low (listed BOOT_FLAGS free))) not
      where
        nothing : LiesIn Free n [] c d
        nothing =
            subst (λ xs. LiesIn Free n xs c d)
            (ap (λ xs. xs ++ left) none
            ∙ nothing-behind cpu events (after_all c s.steps) s.boot s.place (FromRam image) is) lies

        apart : (row r : ℕ) → Free row → Contains image.rows.items r → IsOutside row r
        apart = clear image (ap (ram_behind cpu events (after_all c s.steps) s.boot) is)

        low : FIRST_ROW ≤ BOOT_FLAGS → ⊥
        low le = omega (arith, le)

  -- the lengths of the flashes after steps
  same-long : (c d : Content) (steps : List Step) → length d.flash ≡ length c.flash
      → length (after_all d steps).flash ≡ length (after_all c steps).flash
  same-long c d steps flash = length-after_all d steps ∙ (flash ∙ sym (length-after_all c steps))

  -- events whose blocks have the same targets, from a content whose rows have more bits
  pub again : (n : ℕ) (cpu : Cpu) (events : List EventView) (host : Host) (c d : Content)
      → HaveSameTargets c d cpu host events → AreUnnamed events → IsClear (ram_started c cpu host events)
      → length d.flash ≡ length c.flash → LiesIn Free n (session_from c cpu host events) c d
      → ComesTo d (session_from c cpu host events) (session_from d cpu host events)
  again n cpu [] host c d kept named clear flash lies = comes-same d [] [] refl
  again n cpu (EventView.Command command payload ∷ events) host c d kept named clear flash lies =
      let s = command_served c cpu host (command_in command) payload in
      let t = command_served d cpu host (command_in command) payload in
      let rest = left n cpu events host c d flash s t in
      let starts = λ (image : Started) (is : s.place ≡ Running (FromRam image)). stays n cpu events host c d flash s t
      (runs-idle c cpu host (command_in command) payload image is) clear lies image is in
      step-again n cpu events host c d flash s t
      (elim (lies.ordered s.steps rest refl) [
        | inl few ↦ inl (served-same n c d cpu host flash lies.risen (command_in command) payload
            (λ row k is. few row k (λ free. (named row free).0 is)) starts)
        | inr done ↦ served-done n c d cpu host flash lies.risen lies.long (command_in command) payload done starts
      ])
      kept.1 clear lies
      (λ next later_kept later_clear later. again n cpu events next (after_all c s.steps) (after_all d s.steps)
      later_kept (λ row free. (named row free).1) later_clear (same-long c d s.steps flash) later)
  again n cpu (EventView.Uf2 block ∷ events) host c d kept named clear flash lies =
      let s = uf2_served c cpu host (uf2_of block) in
      let t = uf2_served d cpu host (uf2_of block) in
      step-again n cpu events host c d flash s t
      (inl (block-same c d cpu host flash (uf2_of block) kept.0.same))
      kept.1 clear lies
      (λ next later_kept later_clear later. again n cpu events next (after_all c s.steps) (after_all d s.steps)
      later_kept (λ row free. (named row free).1) later_clear (same-long c d s.steps flash) later)
  again n cpu (EventView.End ∷ events) host c d kept named clear flash lies =
      again n cpu events host c d kept (λ row free. (named row free).1) clear flash lies
  again n cpu (EventView.Cut after within pattern ∷ events) host c d kept named clear flash lies =
      again n cpu events host c d kept (λ row free. (named row free).1) clear flash lies
  again n cpu (EventView.PowerOn ∷ events) host c d kept named clear flash lies =
      again n cpu events host c d kept (λ row free. (named row free).1) clear flash lies
  again n cpu (EventView.Reset kind ∷ events) host c d kept named clear flash lies =
      again n cpu events host c d kept (λ row free. (named row free).1) clear flash lies
  again n cpu (EventView.Buy ∷ events) host c d kept named clear flash lies =
      again n cpu events host c d kept (λ row free. (named row free).1) clear flash lies

  -- where no two writes name one row, the very steps are done again
  pub once : (n : ℕ) (cpu : Cpu) (events : List EventView) (host : Host) (c d : Content)
      → HaveSameTargets c d cpu host events → NamesRowsOnce events → AreUnnamed events
      → IsClear (ram_started c cpu host events) → length d.flash ≡ length c.flash
      → LiesIn Free n (session_from c cpu host events) c d
      → session_from d cpu host events ≡ session_from c cpu host events
  once n cpu [] host c d kept one named clear flash lies = refl
  once n cpu (EventView.Command command payload ∷ events) host c d kept one named clear flash lies =
      let s = command_served c cpu host (command_in command) payload in
      let t = command_served d cpu host (command_in command) payload in
      let rest = left n cpu events host c d flash s t in
      step-once n cpu events host c d flash s t
      (served-same n c d cpu host flash lies.risen (command_in command) payload
      (λ row k is.
      (let whole = lies.few row k (λ free. (named row free).0 is) in
      let parts = added-append n s.steps rest row k in
      let later = behind-unnamed n cpu events (after_all c s.steps) row k
      (λ next. unnamed n cpu events next (after_all c s.steps) row k (one.0 row is)) s.boot s.place in
      omega (arith, whole, parts, later)))
      (λ image is. stays n cpu events host c d flash s t
      (runs-idle c cpu host (command_in command) payload image is) clear lies image is))
      kept.1 clear lies
      (λ next later_kept later_clear later. once n cpu events next (after_all c s.steps) (after_all d s.steps)
      later_kept one.1 (λ row free. (named row free).1) later_clear (same-long c d s.steps flash) later)
  once n cpu (EventView.Uf2 block ∷ events) host c d kept one named clear flash lies =
      let s = uf2_served c cpu host (uf2_of block) in
      let t = uf2_served d cpu host (uf2_of block) in
      step-once n cpu events host c d flash s t (block-same c d cpu host flash (uf2_of block) kept.0.same) kept.1
      clear lies
      (λ next later_kept later_clear later. once n cpu events next (after_all c s.steps) (after_all d s.steps)
      later_kept one.1 (λ row free. (named row free).1) later_clear (same-long c d s.steps flash) later)
  once n cpu (EventView.End ∷ events) host c d kept one named clear flash lies =
      once n cpu events host c d kept one.1 (λ row free. (named row free).1) clear flash lies
  once n cpu (EventView.Cut after within pattern ∷ events) host c d kept one named clear flash lies =
      once n cpu events host c d kept one.1 (λ row free. (named row free).1) clear flash lies
  once n cpu (EventView.PowerOn ∷ events) host c d kept one named clear flash lies =
      once n cpu events host c d kept one.1 (λ row free. (named row free).1) clear flash lies
  once n cpu (EventView.Reset kind ∷ events) host c d kept one named clear flash lies =
      once n cpu events host c d kept one.1 (λ row free. (named row free).1) clear flash lies
  once n cpu (EventView.Buy ∷ events) host c d kept one named clear flash lies =
      once n cpu events host c d kept one.1 (λ row free. (named row free).1) clear flash lies

torn-flash : (c : Content) (step : Step) (d : Content) → Torn c step d → length d.flash ≡ length c.flash
torn-flash c (steps.Erase s) d torn = torn.outside.long
torn-flash c (steps.Program p d) e torn = torn.outside.long
torn-flash c (steps.Raise r b) d torn = ap (λ (xs : List ℕ). length xs) torn.bytes

pub cut-flash : (c : Content) (list : List Step) (d : Content) → CutOf c list d → length d.flash ≡ length c.flash
cut-flash c [] d cut = absurd cut
cut-flash c (step ∷ list) d (inl torn) = torn-flash c step d torn
cut-flash c (step ∷ list) d (inr later) =
    cut-flash (after c step) list d later ∙ length-after_all c (step ∷ [])

-- BOOTSEL as it is entered where the table is the same
pub same-host : (c d : Content) → table_in d ≡ table_in c → entered_host d ≡ entered_host c
same-host c d table = ap (λ f. let h : Host = record { found = f; placing = None; ram = zero_ram } in h) table
