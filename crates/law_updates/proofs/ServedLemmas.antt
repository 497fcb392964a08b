-- What BOOTSEL does for a host's command on a content whose rows have more bits.
use Rattle.std.proofs.Common.{◌≡◌, ◌⊎◌, inl, inr, ℕ, ◌≤◌, ◌==◌, Bool, true, false, cond, List, [], ◌∷◌, length, Option, Some, None, Result, Ok, Err, refl, sym, ap, ◌∙◌}
use Rattle.std.specs.Prelude.{◌&&◌, ◌||◌, is_some, max, not}
use Rattle.std.specs.Result.{result_ok}
use Rattle.pico_board.specs.declared.boot.Cpu.{Cpu}
use Rattle.pico_board.specs.Content.{Content}
use Rattle.pico_board.specs.Steps.{after_all}
use Rattle.otp_roll.specs.Rows.{Rises}
use Rattle.image_def.specs.declared.started.Started.{Started}
use Rattle.image_check.specs.declared.why.Why.{Why}
use Rattle.image_check.specs.Addressing.{in_ram}
use Rattle.image_check.specs.Image.{image_in}
use Rattle.image_check.specs.NotBelow.{NotBelow}
use Rattle.image_check.specs.Valid.{IsValidImage}
use Rattle.image_check.proofs.LawLemmas.{not-below, valid-exactly}
use Rattle.image_check.proofs.RollbackLemmas.{raised-below, valid-elsewhere}
use Rattle.load_map.specs.Addresses.{in_sram}
use Rattle.picoboot_cmd.specs.declared.cmd.Cmd.{Cmd}
use Rattle.picoboot_cmd.specs.declared.cmd.CmdFault.{CmdFault}
use Rattle.picoboot_cmd.specs.declared.kinds.TheConstants.{ADDRESS, INVALID_ARGUMENT, INVALID_STATE, REBOOT, TRANSFER_LENGTH, WRITE}
use Rattle.picoboot_cmd.specs.Arguments.{address, reboot_p0, size}
use Rattle.picoboot_cmd.specs.Checks.{check, first_failing, has_transfer}
use Rattle.info_reply.specs.declared.kinds.TheConstants.{INFO}
use Rattle.ram_start.specs.declared.kinds.TheConstants.{PRECONDITION}
use Rattle.ram_start.specs.Images.{ram_window}
use Rattle.ram_start.specs.Serving.{RamServed, is_ram_command, is_range, ram_reply, ram_stored, reboot_range}
use Rattle.boot_machine.specs.Machines.{Host, StateView, InBootsel, Running, FromRam}
use Rattle.boot_machine.specs.Serving.{ServedEvent, command_served, ram_place, serves_host, serves_info, serves_ram, table_of_found}
use Rattle.law_updates.specs.Again.{IsRowNamed}
use Rattle.law_updates.proofs.RowBitLemmas.{added, row_bit}
use Rattle.law_updates.proofs.WriteLemmas.{IsSame, IsSkipped, command-done, command-same, command-unnamed}

-- the second event does what the first one does
pub record IsExact (s t : ServedEvent) : Type 0 where
  pub steps : t.steps ≡ s.steps
  pub place : t.place ≡ s.place
  pub boot : t.boot ≡ s.boot

-- or it does nothing, since what the first one does is done
pub record IsIdle (d : Content) (s t : ServedEvent) : Type 0 where
  pub none : t.steps ≡ []
  pub done : after_all d s.steps ≡ d
  pub place : t.place ≡ s.place
  pub boot : t.boot ≡ s.boot

exact-self : (s : ServedEvent) → IsExact s s
exact-self s = record { steps = refl; place = refl; boot = refl }

-- a RAM command by its checks and the image that a reboot names
abbrev ram_by : Bool → Bool → Bool → Bool → Bool → Option Started → List ℕ → List ℕ → List ℕ → RamServed
ram_by b1 b2 b3 b4 e o ram stored reply =
    let status = first_failing (check INVALID_STATE b1 ∷ check TRANSFER_LENGTH b2 ∷ check ADDRESS b3
    ∷ check INVALID_ARGUMENT b4 ∷ check PRECONDITION (not e || is_some o) ∷ []) in
    cond {A = RamServed} (status == 0)
    (record { status = 0; ram = stored; reply = reply; start = cond e o None })
    (record { status = status; ram = ram; reply = []; start = None })

-- where no image starts, it does the same with another image or none
place-same : (host : Host) (b1 b2 b3 b4 e : Bool) (x : Started) (o : Option Started) (ram stored reply : List ℕ)
    → (ram_by b1 b2 b3 b4 e (Some x) ram stored reply).start ≡ None
    → ram_place host (ram_by b1 b2 b3 b4 e o ram stored reply).start (ram_by b1 b2 b3 b4 e o ram stored reply).ram
    ≡ ram_place host (ram_by b1 b2 b3 b4 e (Some x) ram stored reply).start
    (ram_by b1 b2 b3 b4 e (Some x) ram stored reply).ram
place-same host false b2 b3 b4 e x o ram stored reply none = refl
place-same host true false b3 b4 e x o ram stored reply none = refl
place-same host true true false b4 e x o ram stored reply none = refl
place-same host true true true false e x o ram stored reply none = refl
place-same host true true true true false x o ram stored reply none = refl
place-same host true true true true true x o ram stored reply none = some-none x none
  where
    some-none : {P : Type 0} (y : Started) → Some y ≡ None → P
    some-none y f = cc

no-start : {P : Type 0} (y : Started) → None ≡ Some y → P
no-start y f = cc

some-same : (x y : Started) → Some x ≡ Some y → x ≡ y
some-same x y f = cc

-- an image that starts is the image that was found
start-same : (b1 b2 b3 b4 e : Bool) (x image : Started) (ram stored reply : List ℕ)
    → (ram_by b1 b2 b3 b4 e (Some x) ram stored reply).start ≡ Some image → x ≡ image
start-same false b2 b3 b4 e x image ram stored reply is = no-start image is
start-same true false b3 b4 e x image ram stored reply is = no-start image is
start-same true true false b4 e x image ram stored reply is = no-start image is
start-same true true true false e x image ram stored reply is = no-start image is
start-same true true true true false x image ram stored reply is = no-start image is
start-same true true true true true x image ram stored reply is = some-same x image is

module _ (n : ℕ) (c d : Content) (cpu : Cpu) (host : Host) (flash : length d.flash ≡ length c.flash)
    (less : (r k : ℕ) → row_bit c r k ≤ row_bit d r k) where
  -- an image of which this holds is not below the rows of d where it is not below those of c
  abbrev pub Stays : (Started → Type 0) → Type 0
  Stays Is = (image : Started) → Is image → NotBelow c.otp image → NotBelow d.otp image

  module _ (cmd : Cmd) (payload : List ℕ) where
    abbrev image_of : List ℕ → Option Started
    image_of otp =
        result_ok (image_in (in_ram (reboot_p0 cmd)) (ram_window (reboot_p0 cmd) (reboot_range host.ram cmd)) cpu false
        otp (reboot_range host.ram cmd))

    abbrev by : Option Started → RamServed
    by o =
        ram_by (not (cmd.id == WRITE && is_some host.placing)) (has_transfer cmd payload)
        (cmd.id == REBOOT || in_sram (address cmd) (size cmd)) (not (cmd.id == REBOOT) || is_range cmd)
        (cmd.id == REBOOT) o
        host.ram (ram_stored host.ram cmd payload) (ram_reply host.ram cmd)

    abbrev place_by : Option Started → StateView
    place_by o = ram_place host (by o).start (by o).ram

    ok-is : (r : Result Started Why) (s : Started) → result_ok r ≡ Some s → r ≡ Ok s
    ok-is (Ok x) s e = cc
    ok-is (Err y) s e = cc

    abbrev valid-in : List ℕ → Started → Type 0
    valid-in otp s =
        IsValidImage (in_ram (reboot_p0 cmd)) (ram_window (reboot_p0 cmd) (reboot_range host.ram cmd)) cpu false otp
        (reboot_range host.ram cmd) s

    valid-of : (otp : List ℕ) (s : Started) → image_of otp ≡ Some s → valid-in otp s
    valid-of otp s is =
        (valid-exactly (in_ram (reboot_p0 cmd)) (ram_window (reboot_p0 cmd) (reboot_range host.ram cmd)) cpu false otp
        (reboot_range host.ram cmd) s).1 (ok-is (image_in (in_ram (reboot_p0 cmd))
        (ram_window (reboot_p0 cmd) (reboot_range host.ram cmd)) cpu false otp (reboot_range host.ram cmd)) s is)

    below-of : (otp : List ℕ) (s : Started) → image_of otp ≡ Some s → NotBelow otp s
    below-of otp s is =
        not-below (in_ram (reboot_p0 cmd)) (ram_window (reboot_p0 cmd) (reboot_range host.ram cmd)) cpu false otp
        (reboot_range host.ram cmd) s (valid-of otp s is)

    -- an image that is valid is valid on other rows that it is not below
    image-on : (otp other : List ℕ) (s : Started) → image_of otp ≡ Some s → NotBelow other s → image_of other ≡ Some s
    image-on otp other s is not =
        let bytes = reboot_range host.ram cmd in
        let base = reboot_p0 cmd in
        let w = ram_window base bytes in
        ap result_ok ((valid-exactly (in_ram base) w cpu false other bytes s).0
        (valid-elsewhere (in_ram base) w cpu false otp other bytes s (valid-of otp s is) not))

    -- an image that is valid on more bits was valid before
    image-back : (s : Started) → image_of d.otp ≡ Some s → image_of c.otp ≡ Some s
    image-back s is =
        let rises : Rises c.otp d.otp = record { bits = λ r k. less r k } in
        image-on d.otp c.otp s is (raised-below c.otp d.otp s rises (below-of d.otp s is))

    some-none : {P : Type 0} (o : Option Started) (s : Started) → o ≡ None → o ≡ Some s → P
    some-none o s e f = cc

    none-stays : image_of c.otp ≡ None → image_of d.otp ≡ None
    none-stays none = go (image_of d.otp) refl
      where
        go : (o : Option Started) → image_of d.otp ≡ o → o ≡ None
        go None is = refl
        go (Some s) is = some-none (image_of c.otp) s none (image-back s is)

    ram-place : Stays (λ image. place_by (image_of c.otp) ≡ Running (FromRam image))
        → place_by (image_of d.otp) ≡ place_by (image_of c.otp)
    ram-place stays = go (image_of c.otp) refl
      where
        started : (o : Option Started) (x : Started) → image_of c.otp ≡ Some x → (by (Some x)).start ≡ o
            → place_by (image_of d.otp) ≡ place_by (image_of c.otp)
        started (Some image) x is starts =
            let same : x ≡ image = start-same (not (cmd.id == WRITE && is_some host.placing)) (has_transfer cmd payload)
            (cmd.id == REBOOT || in_sram (address cmd) (size cmd)) (not (cmd.id == REBOOT) || is_range cmd)
            (cmd.id == REBOOT) x image host.ram (ram_stored host.ram cmd payload) (ram_reply host.ram cmd) starts in
            let on = stays x (ap place_by is ∙ (ap (λ y. ram_place host y (by (Some x)).ram) starts
            ∙ ap (λ y. Running (FromRam y)) (sym same))) (below-of c.otp x is) in
            ap place_by (image-on c.otp d.otp x is on ∙ sym is)
        started None x is starts =
            place-same host (not (cmd.id == WRITE && is_some host.placing)) (has_transfer cmd payload)
            (cmd.id == REBOOT || in_sram (address cmd) (size cmd)) (not (cmd.id == REBOOT) || is_range cmd)
            (cmd.id == REBOOT) x (image_of d.otp) host.ram (ram_stored host.ram cmd payload) (ram_reply host.ram cmd)
            starts
            ∙ sym (ap place_by is)

        go : (o : Option Started) → image_of c.otp ≡ o → place_by (image_of d.otp) ≡ place_by (image_of c.otp)
        go None is = ap place_by (none-stays is ∙ sym is)
        go (Some x) is = started (by (Some x)).start x is refl

    ram-exact : Stays (λ image. (serves_ram c cpu host cmd payload).place ≡ Running (FromRam image))
        → IsExact (serves_ram c cpu host cmd payload) (serves_ram d cpu host cmd payload)
    ram-exact stays = record { steps = refl; place = ram-place stays; boot = refl }

    abbrev Same : Type 0
    Same = IsSame n c d (table_of_found host.found) (is_some host.placing) cmd payload flash less

    abbrev Skipped : Type 0
    Skipped = IsSkipped n c d (table_of_found host.found) (is_some host.placing) cmd payload flash less

    host-exact : Same → IsExact (serves_host c host cmd payload) (serves_host d host cmd payload)
    host-exact same = record { steps = same.steps; place = refl; boot = same.boot }

    host-idle : Skipped → IsIdle d (serves_host c host cmd payload) (serves_host d host cmd payload)
    host-idle skipped = record { none = skipped.none; done = skipped.done; place = refl; boot = skipped.boot }

    -- a command by its kind
    abbrev kinds : Content → Bool → Bool → ServedEvent
    kinds x a b =
        cond {A = ServedEvent} a (serves_info x cpu host cmd payload)
        (cond {A = ServedEvent} b (serves_ram x cpu host cmd payload) (serves_host x host cmd payload))

    kinds-same : (a b : Bool)
        → ((r k : ℕ) → IsRowNamed (Ok cmd) r → row_bit d r k ≤ max (row_bit c r k) (added n (kinds c a b).steps r k))
        → Stays (λ image. (kinds c a b).place ≡ Running (FromRam image))
        → IsExact (kinds c a b) (kinds d a b)
    kinds-same true b few stays = record { steps = refl; place = refl; boot = refl }
    kinds-same false true few stays = ram-exact stays
    kinds-same false false few stays =
        host-exact (command-same n c d (table_of_found host.found) (is_some host.placing) cmd payload flash less
        (λ r k id low high. few r k (id, low, high)))

    kinds-done : length d.otp ≡ n → (a b : Bool) → ((r k : ℕ) → added n (kinds c a b).steps r k ≤ row_bit d r k)
        → Stays (λ image. (kinds c a b).place ≡ Running (FromRam image))
        → IsExact (kinds c a b) (kinds d a b) ⊎ IsIdle d (kinds c a b) (kinds d a b)
    kinds-done long true b done stays = inl (record { steps = refl; place = refl; boot = refl })
    kinds-done long false true done stays = inl (ram-exact stays)
    kinds-done long false false done stays =
        elim (command-done n c d (table_of_found host.found) (is_some host.placing) cmd payload flash less long done) [
          | inl same ↦ inl (host-exact same)
          | inr skipped ↦ inr (host-idle skipped)
        ]

  pub served-same : (r : Result Cmd CmdFault) (payload : List ℕ)
      → ((row k : ℕ) → IsRowNamed r row
      → row_bit d row k ≤ max (row_bit c row k) (added n (command_served c cpu host r payload).steps row k))
      → Stays (λ image. (command_served c cpu host r payload).place ≡ Running (FromRam image))
      → IsExact (command_served c cpu host r payload) (command_served d cpu host r payload)
  served-same (Ok cmd) payload few stays = kinds-same cmd payload (cmd.id == INFO) (is_ram_command cmd) few stays
  served-same (Err fault) payload few stays = record { steps = refl; place = refl; boot = refl }

  pub served-done : length d.otp ≡ n → (r : Result Cmd CmdFault) (payload : List ℕ)
      → ((row k : ℕ) → added n (command_served c cpu host r payload).steps row k ≤ row_bit d row k)
      → Stays (λ image. (command_served c cpu host r payload).place ≡ Running (FromRam image))
      → IsExact (command_served c cpu host r payload) (command_served d cpu host r payload)
      ⊎ IsIdle d (command_served c cpu host r payload) (command_served d cpu host r payload)
  served-done long (Ok cmd) payload done stays =
      kinds-done cmd payload long (cmd.id == INFO) (is_ram_command cmd) done stays
  served-done long (Err fault) payload done stays = inl (record { steps = refl; place = refl; boot = refl })

-- a command raises no row that it does not name
pub served-unnamed : (n : ℕ) (c : Content) (cpu : Cpu) (host : Host) (r : Result Cmd CmdFault) (payload : List ℕ)
    (row k : ℕ) → (IsRowNamed r row → ⊥) → added n (command_served c cpu host r payload).steps row k ≡ 0
served-unnamed n c cpu host (Err fault) payload row k unnamed = refl
served-unnamed n c cpu host (Ok cmd) payload row k unnamed = go (cmd.id == INFO) (is_ram_command cmd)
  where
    go : (a b : Bool)
        → added n (cond {A = ServedEvent} a (serves_info c cpu host cmd payload)
        (cond {A = ServedEvent} b (serves_ram c cpu host cmd payload) (serves_host c host cmd payload))).steps row k ≡ 0
    go true b = refl
    go false true = refl
    go false false =
        command-unnamed n c (table_of_found host.found) (is_some host.placing) cmd payload row k
        (λ id low high. unnamed (id, low, high))

-- a command that starts an image in RAM does no step
pub runs-idle : (c : Content) (cpu : Cpu) (host : Host) (r : Result Cmd CmdFault) (payload : List ℕ) (image : Started)
    → (command_served c cpu host r payload).place ≡ Running (FromRam image)
    → (command_served c cpu host r payload).steps ≡ []
runs-idle c cpu host (Err fault) payload image is = refl
runs-idle c cpu host (Ok cmd) payload image is = go (cmd.id == INFO) (is_ram_command cmd) is
  where
    go : (a b : Bool)
        → (cond {A = ServedEvent} a (serves_info c cpu host cmd payload)
        (cond {A = ServedEvent} b (serves_ram c cpu host cmd payload) (serves_host c host cmd payload))).place
        ≡ Running (FromRam image)
        → (cond {A = ServedEvent} a (serves_info c cpu host cmd payload)
        (cond {A = ServedEvent} b (serves_ram c cpu host cmd payload) (serves_host c host cmd payload))).steps ≡ []
    go true b e = refl
    go false true e = refl
    go false false e = stays host e
      where
        stays : {P : Type 0} (h : Host) → InBootsel h ≡ Running (FromRam image) → P
        stays h f = cc
