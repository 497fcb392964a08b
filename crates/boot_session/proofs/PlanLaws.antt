-- The session of a plan is gated.
use Rattle.std.proofs.Common.{◌≡◌, ◌⊎◌, inl, inr, ℕ, ◌+◌, ◌-◌, ◌*◌, ◌/◌, ◌%◌, ◌<◌, ◌≤◌, Bool, true, false, List, [], ◌∷◌, ◌++◌, length, drop, take, Result, Ok, refl, sym, ap, ◌∙◌, subst, arith, append-nil, append_assoc, length-drop}
use Rattle.std.proofs.lemmas.Bool.{cases_lt}
use Rattle.std.proofs.lemmas.List.{length-take-le}
use Rattle.pico_board.specs.declared.window.TheConstants.{MOST_FLASH_BYTES}
use Rattle.pico_board.specs.declared.Step.{Step}
use Rattle.pico_board.specs.declared.Step.TheVariants.{Erase}
use Rattle.pico_board.specs.declared.boot.BootKind.TheVariants.{Bootsel}
use Rattle.pico_board.specs.declared.boot.Cpu.{Cpu}
use Rattle.pico_board.specs.declared.window.Window.{Window}
use Rattle.pico_board.specs.Content.{Content, IsContent}
use Rattle.pico_board.specs.Sessions.{Confined, Gated, IsElsewhere}
use Rattle.pico_board.specs.Steps.{after_all}
use Rattle.pico_board.proofs.ConfinementLemmas.{Confined-append, confined-after_all}
use Rattle.part_table.specs.declared.table.Right.TheVariants.{BootWrite}
use Rattle.part_table.specs.Rights.{allowed_by}
use Rattle.picoboot_cmd.specs.Pages.{programs}
use Rattle.picoboot_cmd.specs.Sectors.{erases}
use Rattle.picoboot_cmd.specs.WellFormed.{MayWrite}
use Rattle.boot_script.specs.declared.event.ScriptFault.{ScriptFault}
use Rattle.boot_script.specs.Events.{EventView, PowerOn, Reset}
use Rattle.boot_script.specs.Scripts.{events}
use Rattle.boot_rules.specs.Tables.{table_in}
use Rattle.boot_machine.specs.Machines.{Host}
use Rattle.boot_machine.specs.Serving.{table_of_found}
use Rattle.script_plan.specs.Commands.{erase_cmd, sent, update_cmd, write_cmd}
use Rattle.script_plan.specs.Plans.{in_sectors, plan_text}
use Rattle.boot_session.specs.Sessions.{IsSlotOf, entered_host, session}
use Rattle.boot_session.proofs.PlanServedLemmas.{Known, erase-done, erase-refused, event, reboot-event, write-done, write-refused}
use Rattle.boot_session.proofs.PlanSlotLemmas.{IsSlot, slot-is}
use Rattle.boot_session.proofs.PlanStepLemmas.{all-append, erases-confined, erases-elsewhere, programs-confined, programs-distinct, programs-elsewhere, programs-in}

module _ (known : Known) (c : Content) (cpu : Cpu) (w : Window) (right : IsContent c) (slot : IsSlot c w)
    (image : List ℕ) (some : 0 < length image) (room : length image ≤ w.len) where
  -- the first sector of the window
  abbrev s : ℕ
  s = w.start / 4096

  abbrev host : Host
  host = entered_host c

  starts : w.start ≡ 4096 * s
  starts = let whole = slot.placed.starts in omega (arith, whole)

  inside : w.start + w.len ≤ length c.flash
  inside =
      let in_sectors = slot.placed.inside in
      let whole = right.flash_length.whole in
      omega (arith, in_sectors, whole)

  small : length c.flash ≤ MOST_FLASH_BYTES
  small = right.flash_length.most

  may-write : slot.may ≡ true → (at n : ℕ) → w.start ≤ at → at + n ≤ w.start + w.len
      → MayWrite (table_of_found (table_in c)) at n
  may-write is_so at n low high i lt = slot.rights (at + i) (omega (arith, low)) (omega (arith, high, lt)) ∙ is_so

  barred : slot.may ≡ false → (sector : ℕ) → w.start ≤ 4096 * sector → 4096 * sector < w.start + w.len
      → allowed_by (table_of_found (table_in c)) sector BootWrite ≡ false
  barred never sector low high =
      let same : 4096 * sector / 4096 ≡ sector = omega arith in
      ap (λ k. allowed_by (table_of_found (table_in c)) k BootWrite) (sym same) ∙ slot.rights (4096 * sector) low high
      ∙ never

  -- confined steps keep the length of the flash
  kept : (d : Content) (xs : List Step) → length d.flash ≡ length c.flash → Confined xs w
      → length (after_all d xs).flash ≡ length c.flash
  kept d xs long confined = (confined-after_all d w xs confined).outside.long ∙ long

  first-confined : Confined (erases s 1) w
  first-confined =
      let least = slot.placed.some in
      erases-confined w s 1 (omega (arith, starts)) (omega (arith, starts, least))

  -- an image of at most a sector
  module _ (few : length image ≤ 4096) where
    -- the events from the third one on, from the second one on, and all
    abbrev reboot : List EventView
    reboot = event c cpu (update_cmd 3 w.start) [] ∷ []

    abbrev write : List EventView
    write = event c cpu (write_cmd 2 (256 * (16 * s)) (length image)) image ∷ reboot

    abbrev pub short_list : List EventView
    short_list = PowerOn ∷ Reset Bootsel ∷ event c cpu (erase_cmd 1 (4096 * s) (4096 * 1)) [] ∷ write

    abbrev pages : List Step
    pages = programs (16 * s) image

    pages-confined : Confined pages w
    pages-confined =
        let least = slot.placed.some in
        programs-confined w ((length image + 255) / 256) (16 * s) image (omega (arith, starts))
        (omega (arith, starts, least, few))

    pub short-done : slot.may ≡ true → session c cpu short_list ≡ Erase s ∷ pages
    short-done is_so =
        let least = slot.placed.some in
        let middle = after_all c (erases s 1) in
        let long = kept c (erases s 1) refl first-confined in
        erase-done c cpu known c refl small 1 s 1 write (omega arith) (omega (arith, starts, inside, least))
        (may-write is_so (4096 * s) (4096 * 1) (omega (arith, starts)) (omega (arith, starts, least)))
        ∙ ap (λ xs. erases s 1 ++ xs)
        (write-done c cpu known middle long small 2 (16 * s) image reboot (omega arith) some
        (omega (arith, starts, inside, room, long))
        (may-write is_so (256 * (16 * s)) (length image) (omega (arith, starts)) (omega (arith, starts, room)))
        ∙ ap (λ xs. pages ++ xs) (reboot-event c cpu known (after_all middle pages) 3 w.start (omega arith))
        ∙ append-nil pages)

    pub short-barred : slot.may ≡ false → session c cpu short_list ≡ []
    short-barred never =
        let least = slot.placed.some in
        let page : 256 * (16 * s) / 4096 ≡ s = omega arith in
        let off = barred never s (omega (arith, starts)) (omega (arith, starts, least)) in
        erase-refused c cpu known c refl small 1 s 1 write (omega arith) (omega arith)
        (omega (arith, starts, inside, least)) off
        ∙ write-refused c cpu known c refl small 2 (16 * s) image reboot (omega arith) some
        (omega (arith, starts, inside, room))
        (ap (λ k. allowed_by (table_of_found (table_in c)) k BootWrite) page ∙ off)
        ∙ reboot-event c cpu known c 3 w.start (omega arith)

    short-gated : Gated (session c cpu short_list) w
    short-gated = go slot.may refl
      where
        go : (b : Bool) → slot.may ≡ b → Gated (session c cpu short_list) w
        go false never = inl (short-barred never)
        go true is_so = inr (
          s,
          [],
          pages,
          record {
            whole = short-done is_so;
            first = sym starts;
            confined = subst (λ xs. Confined xs w) (sym (short-done is_so))
                (Confined-append (erases s 1) pages w first-confined pages-confined);
            apart = tt;
            final = programs-in s ((length image + 255) / 256) (16 * s) image (omega arith) (omega (arith, few));
            distinct = programs-distinct ((length image + 255) / 256) (16 * s) image;
          },
        )

    abbrev sent_short : ℕ → ℕ → List EventView
    sent_short a b =
        PowerOn ∷ Reset Bootsel ∷ sent (erase_cmd 1 a 4096) [] ∷ sent (write_cmd 2 b (length image)) image
        ∷ sent (update_cmd 3 w.start) [] ∷ []

    pub short-is : sent_short w.start w.start ≡ short_list
    unfolding sent
    short-is =
        let page : w.start ≡ 256 * (16 * s) = omega (arith, starts) in
        ap (λ a. sent_short a w.start) starts ∙ ap (sent_short (4096 * s)) page

  -- a longer one
  module _ (more : 4096 < length image) where
    abbrev rest : List ℕ
    rest = drop 4096 image

    abbrev first : List ℕ
    first = take 4096 image

    abbrev k : ℕ
    k = (length rest + 4095) / 4096

    -- the events from the fifth one on, from the fourth one on, and so forth
    abbrev reboot' : List EventView
    reboot' = event c cpu (update_cmd 5 w.start) [] ∷ []

    abbrev write_first : List EventView
    write_first = event c cpu (write_cmd 4 (256 * (16 * s)) (length first)) first ∷ reboot'

    abbrev write_rest : List EventView
    write_rest = event c cpu (write_cmd 3 (256 * (16 * (s + 1))) (length rest)) rest ∷ write_first

    abbrev erase_rest : List EventView
    erase_rest = event c cpu (erase_cmd 2 (4096 * (s + 1)) (4096 * k)) [] ∷ write_rest

    abbrev pub long_list : List EventView
    long_list = PowerOn ∷ Reset Bootsel ∷ event c cpu (erase_cmd 1 (4096 * s) (4096 * 1)) [] ∷ erase_rest

    abbrev others : List Step
    others = programs (16 * (s + 1)) rest

    abbrev pages' : List Step
    pages' = programs (16 * s) first

    left : length rest ≡ length image - 4096
    left = length-drop 4096 image

    full : length first ≡ 4096
    full = length-take-le 4096 image (omega (arith, more))

    sectors-confined : Confined (erases (s + 1) k) w
    sectors-confined =
        let whole = slot.placed.whole in
        erases-confined w (s + 1) k (omega (arith, starts)) (omega (arith, starts, whole, room, left, more))

    others-confined : Confined others w
    others-confined =
        let whole = slot.placed.whole in
        programs-confined w ((length rest + 255) / 256) (16 * (s + 1)) rest (omega (arith, starts))
        (omega (arith, starts, whole, room, left, more))

    pages-confined' : Confined pages' w
    pages-confined' =
        let least = slot.placed.some in
        programs-confined w ((length first + 255) / 256) (16 * s) first (omega (arith, starts))
        (omega (arith, starts, least, full))

    pub long-done : slot.may ≡ true
        → session c cpu long_list ≡ Erase s ∷ ((erases (s + 1) k ++ others) ++ pages')
    long-done is_so =
        let whole = slot.placed.whole in
        let least = slot.placed.some in
        let c1 = after_all c (erases s 1) in
        let c2 = after_all c1 (erases (s + 1) k) in
        let c3 = after_all c2 others in
        let l1 = kept c (erases s 1) refl first-confined in
        let l2 = kept c1 (erases (s + 1) k) l1 sectors-confined in
        let l3 = kept c2 others l2 others-confined in
        erase-done c cpu known c refl small 1 s 1 erase_rest (omega arith) (omega (arith, starts, inside, least))
        (may-write is_so (4096 * s) (4096 * 1) (omega (arith, starts)) (omega (arith, starts, least)))
        ∙ ap (λ xs. erases s 1 ++ xs)
        (erase-done c cpu known c1 l1 small 2 (s + 1) k write_rest (omega arith)
        (omega (arith, starts, inside, whole, room, left, more, l1))
        (may-write is_so (4096 * (s + 1)) (4096 * k) (omega (arith, starts))
        (omega (arith, starts, whole, room, left, more)))
        ∙ ap (λ xs. erases (s + 1) k ++ xs)
        (write-done c cpu known c2 l2 small 3 (16 * (s + 1)) rest write_first (omega arith) (omega (arith, left, more))
        (omega (arith, starts, inside, room, left, more, l2))
        (may-write is_so (256 * (16 * (s + 1))) (length rest) (omega (arith, starts))
        (omega (arith, starts, room, left, more)))
        ∙ ap (λ xs. others ++ xs)
        (write-done c cpu known c3 l3 small 4 (16 * s) first reboot' (omega arith) (omega (arith, full))
        (omega (arith, starts, inside, least, full, l3))
        (may-write is_so (256 * (16 * s)) (length first) (omega (arith, starts)) (omega (arith, starts, least, full)))
        ∙ ap (λ xs. pages' ++ xs) (reboot-event c cpu known (after_all c3 pages') 5 w.start (omega arith))
        ∙ append-nil pages'))
        ∙ sym (append_assoc (erases (s + 1) k) others pages'))

    pub long-barred : slot.may ≡ false → session c cpu long_list ≡ []
    long-barred never =
        let whole = slot.placed.whole in
        let least = slot.placed.some in
        let page : 256 * (16 * s) / 4096 ≡ s = omega arith in
        let next : 256 * (16 * (s + 1)) / 4096 ≡ s + 1 = omega arith in
        let off = barred never s (omega (arith, starts)) (omega (arith, starts, least)) in
        let off' = barred never (s + 1) (omega (arith, starts)) (omega (arith, starts, room, more)) in
        erase-refused c cpu known c refl small 1 s 1 erase_rest (omega arith) (omega arith)
        (omega (arith, starts, inside, least)) off
        ∙ erase-refused c cpu known c refl small 2 (s + 1) k write_rest (omega arith) (omega (arith, left, more))
        (omega (arith, starts, inside, whole, room, left, more)) off'
        ∙ write-refused c cpu known c refl small 3 (16 * (s + 1)) rest write_first (omega arith)
        (omega (arith, left, more))
        (omega (arith, starts, inside, room, left, more))
        (ap (λ x. allowed_by (table_of_found (table_in c)) x BootWrite) next ∙ off')
        ∙ write-refused c cpu known c refl small 4 (16 * s) first reboot' (omega arith) (omega (arith, full))
        (omega (arith, starts, inside, least, full))
        (ap (λ x. allowed_by (table_of_found (table_in c)) x BootWrite) page ∙ off)
        ∙ reboot-event c cpu known c 5 w.start (omega arith)

    long-gated : Gated (session c cpu long_list) w
    long-gated = go slot.may refl
      where
        go : (b : Bool) → slot.may ≡ b → Gated (session c cpu long_list) w
        go false never = inl (long-barred never)
        go true is_so = inr (
          s,
          erases (s + 1) k ++ others,
          pages',
          record {
            whole = long-done is_so;
            first = sym starts;
            confined = subst (λ xs. Confined xs w) (sym (long-done is_so))
                (Confined-append (erases s 1) ((erases (s + 1) k ++ others) ++ pages') w first-confined
                (Confined-append (erases (s + 1) k ++ others) pages' w
                (Confined-append (erases (s + 1) k) others w sectors-confined others-confined) pages-confined'));
            apart = all-append (IsElsewhere s) (erases (s + 1) k) others
                (erases-elsewhere s (s + 1) k (omega arith))
                (programs-elsewhere s ((length rest + 255) / 256) (16 * (s + 1)) rest (omega arith));
            final = programs-in s ((length first + 255) / 256) (16 * s) first (omega arith) (omega (arith, full));
            distinct = programs-distinct ((length first + 255) / 256) (16 * s) first;
          },
        )

    abbrev sent_long : ℕ → ℕ → ℕ → ℕ → ℕ → List EventView
    sent_long a b d e n =
        PowerOn ∷ Reset Bootsel ∷ sent (erase_cmd 1 a 4096) [] ∷ sent (erase_cmd 2 b (4096 * k)) []
        ∷ sent (write_cmd 3 d (length rest)) rest ∷ sent (write_cmd 4 e n) first
        ∷ sent (update_cmd 5 w.start) [] ∷ []

    pub long-is : sent_long w.start (w.start + 4096) (w.start + 4096) w.start 4096 ≡ long_list
    unfolding sent
    long-is =
        let page : w.start ≡ 256 * (16 * s) = omega (arith, starts) in
        let next : w.start + 4096 ≡ 4096 * (s + 1) = omega (arith, starts) in
        let behind : w.start + 4096 ≡ 256 * (16 * (s + 1)) = omega (arith, starts) in
        ap (λ a. sent_long a (w.start + 4096) (w.start + 4096) w.start 4096) starts
        ∙ ap (λ b. sent_long (4096 * s) b (w.start + 4096) w.start 4096) next
        ∙ ap (λ d. sent_long (4096 * s) (4096 * (s + 1)) d w.start 4096) behind
        ∙ ap (λ e. sent_long (4096 * s) (4096 * (s + 1)) (256 * (16 * (s + 1))) e 4096) page
        ∙ ap (sent_long (4096 * s) (4096 * (s + 1)) (256 * (16 * (s + 1))) (256 * (16 * s))) (sym full)

same-ok : (xs ys : List EventView) → ◌≡◌ {A = Result (List EventView) ScriptFault} (Ok xs) (Ok ys) → xs ≡ ys
same-ok xs ys e = cc

-- what the law on the events of a plan says
pub record KnownEvents : Type 0 where
  pub short : (w : Window) (image : List ℕ) → length image ≤ 4096 → length image ≤ w.len
      → w.start % 4096 ≡ 0 → w.len % 4096 ≡ 0 → w.start + w.len ≤ MOST_FLASH_BYTES
      → events (plan_text w.start image)
      ≡ Ok (PowerOn ∷ Reset Bootsel ∷ sent (erase_cmd 1 w.start 4096) []
      ∷ sent (write_cmd 2 w.start (length image)) image ∷ sent (update_cmd 3 w.start) [] ∷ [])
  pub long : (w : Window) (image : List ℕ) → 4096 < length image → length image ≤ w.len
      → w.start % 4096 ≡ 0 → w.len % 4096 ≡ 0 → w.start + w.len ≤ MOST_FLASH_BYTES
      → events (plan_text w.start image)
      ≡ Ok (PowerOn ∷ Reset Bootsel ∷ sent (erase_cmd 1 w.start 4096) []
      ∷ sent (erase_cmd 2 (w.start + 4096) (in_sectors (length (drop 4096 image)))) []
      ∷ sent (write_cmd 3 (w.start + 4096) (length (drop 4096 image))) (drop 4096 image)
      ∷ sent (write_cmd 4 w.start 4096) (take 4096 image) ∷ sent (update_cmd 5 w.start) [] ∷ [])

pub plan-gated : Known → KnownEvents → (c : Content) (cpu : Cpu) (w : Window) (image : List ℕ) (es : List EventView)
    → IsContent c → IsSlotOf c cpu w → 0 < length image → length image ≤ w.len
    → events (plan_text w.start image) ≡ Ok es → Gated (session c cpu es) w
plan-gated known says c cpu w image es right of some room is = go (cases_lt 4096 (length image))
  where
    slot : IsSlot c w
    slot = slot-is c cpu w right of

    low : w.start + w.len ≤ MOST_FLASH_BYTES
    low = let ends = inside known c cpu w right slot image some room in
        let most = right.flash_length.most in omega (arith, ends, most)

    go : (4096 < length image) ⊎ (length image ≤ 4096) → Gated (session c cpu es) w
    go (inl more) =
        subst (λ xs. Gated (session c cpu xs) w)
        (sym (long-is known c cpu w right slot image some room more)
        ∙ sym (same-ok es _ (sym is ∙ says.long w image more room slot.placed.starts slot.placed.whole low)))
        (long-gated known c cpu w right slot image some room more)
    go (inr few) =
        subst (λ xs. Gated (session c cpu xs) w)
        (sym (short-is known c cpu w right slot image some room few)
        ∙ sym (same-ok es _ (sym is ∙ says.short w image few room slot.placed.starts slot.placed.whole low)))
        (short-gated known c cpu w right slot image some room few)
