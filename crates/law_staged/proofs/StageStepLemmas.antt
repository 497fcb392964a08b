-- The session of a script of `stage`: its steps keep to the window, and they are gated on it.
use Rattle.std.proofs.Common.{◌≡◌, ◌⊎◌, inl, inr, ℕ, zero, suc, ◌+◌, ◌-◌, ◌*◌, ◌/◌, ◌%◌, ◌<◌, ◌≤◌, min, Bool, true, false, nat_eq, List, [], ◌∷◌, ◌++◌, length, drop, take, refl, sym, ap, ◌∙◌, arith, append_assoc, length-drop, length-take}
use Rattle.std.specs.Prelude.{◌≢◌, slice_range}
use Rattle.std.specs.List.{AllByRecursion, IsDistinct}
use Rattle.std.proofs.lemmas.Bool.{ne_eqb}
use Rattle.pico_board.specs.declared.window.TheConstants.{MOST_FLASH_BYTES}
use Rattle.pico_board.specs.declared.Step.{Step}
use Rattle.pico_board.specs.declared.Step.TheVariants.{Erase, Program}
use Rattle.pico_board.specs.declared.boot.Cpu.{Cpu}
use Rattle.pico_board.specs.declared.window.Window.{Window}
use Rattle.pico_board.specs.Content.{Content, IsContent}
use Rattle.pico_board.specs.Sessions.{Confined, IsElsewhere, IsGated, IsProgramIn, pages_of}
use Rattle.pico_board.specs.Steps.{after_all}
use Rattle.pico_board.proofs.ConfinementLemmas.{Confined-append, confined-after_all}
use Rattle.pico_board.proofs.GateLemmas.{IsDistinct-more}
use Rattle.picoboot_cmd.specs.Pages.{padded_page, programs, programs_of}
use Rattle.picoboot_cmd.specs.Sectors.{erases}
use Rattle.picoboot_cmd.specs.WellFormed.{MayWrite}
use Rattle.boot_script.specs.Events.{EventView}
use Rattle.boot_rules.specs.Tables.{table_in}
use Rattle.boot_machine.specs.Serving.{table_of_found}
use Rattle.script_stage.specs.Stages.{Call, buy_events, erase_call, last_calls, part_calls, rest_calls, stage_calls, stage_events}
use Rattle.boot_session.specs.Sessions.{session}
use Rattle.boot_session.proofs.PlanServedLemmas.{Known}
use Rattle.boot_session.proofs.PlanSlotLemmas.{IsSlot}
use Rattle.boot_session.proofs.PlanStepLemmas.{all-append, erases-confined, erases-elsewhere, programs-confined, programs-distinct, programs-elsewhere, programs-in}
use Rattle.check_laws.specs.Staged.{IsOffPage}
use Rattle.law_staged.specs.StagedPlans.{rest_steps, stage_steps}
use Rattle.law_staged.proofs.StageSessionLemmas.{erase-then, last-served, part-served, rest-served, run}

-- pages that are not among n pages from p on
abbrev AreOutside : ℕ → ℕ → List ℕ → Type 0
AreOutside p n pages = AllByRecursion (λ q. (q < p) ⊎ (p + n ≤ q)) pages

fewer-outside : (p n : ℕ) (pages : List ℕ) → AreOutside p (suc n) pages → AreOutside (p + 1) n pages
fewer-outside p n [] out = tt
fewer-outside p n (q ∷ pages) out = (near out.0, fewer-outside p n pages out.1)
  where
    near : (q < p) ⊎ (p + suc n ≤ q) → (q < p + 1) ⊎ (p + 1 + n ≤ q)
    near (inl low) = inl (omega (arith, low))
    near (inr high) = inr (omega (arith, high))

other-than : (p n : ℕ) (pages : List ℕ) → AreOutside p (suc n) pages → AllByRecursion (λ q. nat_eq p q ≡ false) pages
other-than p n [] out = tt
other-than p n (q ∷ pages) out = (ne_eqb p q (differ out.0), other-than p n pages out.1)
  where
    differ : (q < p) ⊎ (p + suc n ≤ q) → p ≢ q
    differ (inl low) e = omega (arith, low, e)
    differ (inr high) e = omega (arith, high, e)

above-all : (x n p : ℕ) (bytes : List ℕ) (others : List Step) → x < p
    → AllByRecursion (λ q. nat_eq x q ≡ false) (pages_of others)
    → AllByRecursion (λ q. nat_eq x q ≡ false) (pages_of (programs_of n p bytes ++ others))
above-all x zero p bytes others lt off = off
above-all x (suc n) p bytes others lt off =
    (ne_eqb x p (λ e. omega (arith, lt, e)), above-all x n (p + 1) (drop 256 bytes) others (omega (arith, lt)) off)

-- programs of n pages from p on, and others of pages outside
front-distinct : (n p : ℕ) (bytes : List ℕ) (others : List Step) → AreOutside p n (pages_of others)
    → IsDistinct nat_eq (pages_of others) → IsDistinct nat_eq (pages_of (programs_of n p bytes ++ others))
front-distinct zero p bytes others out distinct = distinct
front-distinct (suc n) p bytes others out distinct =
    IsDistinct-more p (pages_of (programs_of n (p + 1) (drop 256 bytes) ++ others))
    (above-all p n (p + 1) (drop 256 bytes) others (omega arith) (other-than p n (pages_of others) out))
    (front-distinct n (p + 1) (drop 256 bytes) others (fewer-outside p n (pages_of others) out) distinct)

-- programs from page q on, and others, lie behind the pages before q
above-outside : (p n m q : ℕ) (bytes : List ℕ) (others : List Step) → p + n ≤ q → AreOutside p n (pages_of others)
    → AreOutside p n (pages_of (programs_of m q bytes ++ others))
above-outside p n zero q bytes others past out = out
above-outside p n (suc m) q bytes others past out =
    (inr past, above-outside p n m (q + 1) (drop 256 bytes) others (omega (arith, past)) out)

-- programs that lie behind pages, and programs that lie before them
above-alone : (p n m q : ℕ) (bytes : List ℕ) → p + n ≤ q → AreOutside p n (pages_of (programs_of m q bytes))
above-alone p n zero q bytes past = tt
above-alone p n (suc m) q bytes past = (inr past, above-alone p n m (q + 1) (drop 256 bytes) (omega (arith, past)))

below-alone : (p n m q : ℕ) (bytes : List ℕ) → q + m ≤ p → AreOutside p n (pages_of (programs_of m q bytes))
below-alone p n zero q bytes low = tt
below-alone p n (suc m) q bytes low =
    (inl (omega (arith, low)), below-alone p n m (q + 1) (drop 256 bytes) (omega (arith, low)))

-- steps that program no byte of a page
erases-off : (x s n : ℕ) → AllByRecursion (IsOffPage x) (erases s n)
erases-off x s zero = tt
erases-off x s (suc n) = (tt, erases-off x (s + 1) n)

programs-off : (x n p : ℕ) (bytes : List ℕ) → (x < p) ⊎ (p + n ≤ x) → AllByRecursion (IsOffPage x) (programs_of n p bytes)
programs-off x zero p bytes off = tt
programs-off x (suc n) p bytes off = (differ off, programs-off x n (p + 1) (drop 256 bytes) (next off))
  where
    differ : (x < p) ⊎ (p + suc n ≤ x) → p ≢ x
    differ (inl low) e = omega (arith, low, e)
    differ (inr high) e = omega (arith, high, e)

    next : (x < p) ⊎ (p + suc n ≤ x) → (x < p + 1) ⊎ (p + 1 + n ≤ x)
    next (inl low) = inl (omega (arith, low))
    next (inr high) = inr (omega (arith, high))

-- how long the parts of an image are
pub length-range : (xs : List ℕ) (i j : ℕ) → length (slice_range xs i j) ≡ min (j - i) (length xs - i)
length-range xs i j =
    let e = length-take (j - i) (drop i xs) in let f = length-drop i xs in omega (arith, e, f)

-- at most a page of bytes is one program
one-page : (p : ℕ) (bytes : List ℕ) → 0 < length bytes → length bytes ≤ 256
    → programs p bytes ≡ Program p (padded_page (take 256 bytes)) ∷ []
one-page p bytes some few =
    ap (λ n. programs_of n p bytes) (let one : (length bytes + 255) / 256 ≡ 1 = omega (arith, some, few) in one)

module _ (known : Known) (c : Content) (cpu : Cpu) (w : Window) (right : IsContent c) (slot : IsSlot c w)
    (image : List ℕ) (room : length image ≤ w.len) (page : ℕ) (low : page < 16) (holds : 256 * page < length image)
    (is_bought : Bool) where
  abbrev s : ℕ
  s = w.start / 4096

  abbrev rest : List ℕ
  rest = slice_range image 4096 (length image)

  abbrev before : List ℕ
  before = slice_range image 0 (256 * page)

  abbrev behind : List ℕ
  behind = slice_range image (256 * (page + 1)) 4096

  abbrev last : List ℕ
  last = slice_range image (256 * page) (256 * (page + 1))

  abbrev sectors : ℕ
  sectors = (length rest + 4095) / 4096

  starts : w.start ≡ 4096 * s
  starts = let whole = slot.placed.starts in omega (arith, whole)

  inside : w.start + w.len ≤ length c.flash
  inside =
      let in_sectors = slot.placed.inside in
      let whole = right.flash_length.whole in
      omega (arith, in_sectors, whole)

  small : length c.flash ≤ MOST_FLASH_BYTES
  small = right.flash_length.most

  rest_long : length rest ≡ length image - 4096
  rest_long = let e = length-range image 4096 (length image) in omega (arith, e)

  before_long : length before ≡ 256 * page
  before_long = let e = length-range image 0 (256 * page) in omega (arith, e, holds)

  behind_few : 256 * (page + 1) + length behind ≤ 4096
  behind_few = let e = length-range image (256 * (page + 1)) 4096 in omega (arith, e, low)

  last_some : 0 < length last
  last_some = let e = length-range image (256 * page) (256 * (page + 1)) in omega (arith, e, holds)

  last_few : length last ≤ 256
  last_few = let e = length-range image (256 * page) (256 * (page + 1)) in omega (arith, e)

  may-write : slot.may ≡ true → (at n : ℕ) → w.start ≤ at → at + n ≤ w.start + w.len
      → MayWrite (table_of_found (table_in c)) at n
  may-write is_so at n from to i lt = slot.rights (at + i) (omega (arith, from)) (omega (arith, to, lt)) ∙ is_so

  abbrev first_step : List Step
  first_step = erases s 1

  abbrev rest_done : List Step
  rest_done = rest_steps (s + 1) rest

  abbrev before_done : List Step
  before_done = programs (16 * s) before

  abbrev behind_done : List Step
  behind_done = programs (16 * s + (page + 1)) behind

  abbrev last_done : List Step
  last_done = programs (16 * s + page) last

  first_confined : Confined first_step w
  first_confined =
      let least = slot.placed.some in
      erases-confined w s 1 (omega (arith, starts)) (omega (arith, starts, least))

  sectors_confined : Confined (erases (s + 1) sectors) w
  sectors_confined = go sectors refl
    where
      go : (k : ℕ) → k ≡ sectors → Confined (erases (s + 1) k) w
      go zero e = tt
      go (suc k) e =
          let whole = slot.placed.whole in
          erases-confined w (s + 1) (suc k) (omega (arith, starts))
          (omega (arith, starts, whole, room, rest_long, e))

  rest_confined : Confined rest_done w
  rest_confined =
      Confined-append (erases (s + 1) sectors) (programs (16 * (s + 1)) rest) w sectors_confined
      (go ((length rest + 255) / 256) refl)
    where
      go : (n : ℕ) → n ≡ (length rest + 255) / 256 → Confined (programs_of n (16 * (s + 1)) rest) w
      go zero e = tt
      go (suc n) e =
          let whole = slot.placed.whole in
          programs-confined w (suc n) (16 * (s + 1)) rest (omega (arith, starts))
          (omega (arith, starts, whole, room, rest_long, e))

  before_confined : Confined before_done w
  before_confined =
      let least = slot.placed.some in
      programs-confined w ((length before + 255) / 256) (16 * s) before (omega (arith, starts))
      (omega (arith, starts, least, before_long, low))

  behind_confined : Confined behind_done w
  behind_confined =
      let least = slot.placed.some in
      programs-confined w ((length behind + 255) / 256) (16 * s + (page + 1)) behind (omega (arith, starts))
      (omega (arith, starts, least, behind_few, low))

  last_confined : Confined last_done w
  last_confined =
      let least = slot.placed.some in
      programs-confined w ((length last + 255) / 256) (16 * s + page) last (omega (arith, starts))
      (omega (arith, starts, least, last_few, low))

  sectors_fit : 4096 + 4096 * sectors ≤ w.len
  sectors_fit =
      let least = slot.placed.some in
      let whole = slot.placed.whole in
      go (length image) (length rest) w.len least whole room rest_long
    where
      go : (n r len : ℕ) → 4096 ≤ len → len % 4096 ≡ 0 → n ≤ len → r ≡ n - 4096
          → 4096 + 4096 * ((r + 4095) / 4096) ≤ len
      go n r len least whole fits is = omega (arith, least, whole, fits, is)

  abbrev tail : List EventView
  tail = buy_events is_bought

  abbrev sent_calls : (a0 a1 a2 a3 a4 : ℕ) → List Call
  sent_calls a0 a1 a2 a3 a4 =
      erase_call a0 4096
      ∷ (rest_calls a1 rest
      ++ (part_calls a2 before
      ++ (part_calls a3 behind
      ++ last_calls w.start a4 last)))

  addresses : stage_calls w.start page image ≡ sent_calls (4096 * s) (4096 * (s + 1)) (256 * (16 * s))
      (256 * (16 * s + (page + 1))) (256 * (16 * s + page))
  addresses =
      let second : w.start + 4096 ≡ 4096 * (s + 1) = omega (arith, starts) in
      let third : w.start ≡ 256 * (16 * s) = omega (arith, starts) in
      let fourth : w.start + 256 * (page + 1) ≡ 256 * (16 * s + (page + 1)) = omega (arith, starts) in
      let fifth : w.start + 256 * page ≡ 256 * (16 * s + page) = omega (arith, starts) in
      ap (λ a. sent_calls a (w.start + 4096) w.start (w.start + 256 * (page + 1)) (w.start + 256 * page)) starts
      ∙ ap (λ a. sent_calls (4096 * s) a w.start (w.start + 256 * (page + 1)) (w.start + 256 * page)) second
      ∙ ap (λ a. sent_calls (4096 * s) (4096 * (s + 1)) a (w.start + 256 * (page + 1)) (w.start + 256 * page)) third
      ∙ ap (λ a. sent_calls (4096 * s) (4096 * (s + 1)) (256 * (16 * s)) a (w.start + 256 * page)) fourth
      ∙ ap (sent_calls (4096 * s) (4096 * (s + 1)) (256 * (16 * s)) (256 * (16 * s + (page + 1)))) fifth

  -- confined steps keep the length of the flash
  kept : (d : Content) (xs : List Step) → length d.flash ≡ length c.flash → Confined xs w
      → length (after_all d xs).flash ≡ length c.flash
  kept d xs long confined = (confined-after_all d w xs confined).outside.long ∙ long

  pub session-steps : slot.may ≡ true
      → session c cpu (stage_events w.start page is_bought image) ≡ stage_steps s page image
  session-steps is_so =
      let least = slot.placed.some in
      let m1 = after_all c first_step in
      let l1 = kept c first_step refl first_confined in
      let m2 = after_all m1 rest_done in
      let l2 = kept m1 rest_done l1 rest_confined in
      let m3 = after_all m2 before_done in
      let l3 = kept m2 before_done l2 before_confined in
      let m4 = after_all m3 behind_done in
      let l4 = kept m3 behind_done l3 behind_confined in
      let final = last_calls w.start (256 * (16 * s + page)) last in
      let behind_calls = part_calls (256 * (16 * s + (page + 1))) behind ++ final in
      let before_calls = part_calls (256 * (16 * s)) before ++ behind_calls in
      let second = rest-served known c cpu small m1 l1 w 2 (s + 1) rest before_calls tail (omega arith) inside
      sectors_confined (omega (arith, starts, inside, sectors_fit))
      (may-write is_so (4096 * (s + 1)) (4096 * sectors) (omega (arith, starts)) (omega (arith, starts, sectors_fit)))
      (may-write is_so (256 * (16 * (s + 1))) (length rest) (omega (arith, starts))
      (omega (arith, starts, least, room, rest_long))) in
      let few2 = second.few in
      let third = part-served known c cpu small m2 l2 second.next (16 * s) before behind_calls tail
      (omega (arith, few2)) (omega (arith, starts, inside, room, before_long, holds))
      (may-write is_so (256 * (16 * s)) (length before) (omega (arith, starts))
      (omega (arith, starts, room, before_long, holds))) in
      let few3 = third.few in
      let fourth = part-served known c cpu small m3 l3 third.next (16 * s + (page + 1)) behind final tail
      (omega (arith, few2, few3)) (omega (arith, starts, inside, least, behind_few))
      (may-write is_so (256 * (16 * s + (page + 1))) (length behind) (omega (arith, starts))
      (omega (arith, starts, least, behind_few))) in
      let few4 = fourth.few in
      ap (λ calls. run known c cpu small c 1 calls tail) addresses
      ∙ erase-then known c cpu small c refl 1 s 1 (rest_calls (4096 * (s + 1)) rest ++ before_calls) tail (omega arith)
      (omega (arith, starts, inside, least))
      (may-write is_so (4096 * s) (4096 * 1) (omega (arith, starts)) (omega (arith, starts, least)))
      ∙ ap (λ xs. first_step ++ xs) (second.is
      ∙ ap (λ xs. rest_done ++ xs) (third.is
      ∙ ap (λ xs. before_done ++ xs) (fourth.is
      ∙ ap (λ xs. behind_done ++ xs)
      (last-served known c cpu small m4 l4 fourth.next (16 * s + page) w.start last tail (omega (arith, few2, few3, few4))
      last_some (omega (arith, starts, inside, least, last_few, low))
      (may-write is_so (256 * (16 * s + page)) (length last) (omega (arith, starts))
      (omega (arith, starts, least, last_few, low)))))))

  -- the steps are gated on the window
  pub steps-gated : IsGated (stage_steps s page image) w s rest_done (before_done ++ (behind_done ++ last_done))
  steps-gated = record {
    whole = refl;
    first = sym starts;
    confined = Confined-append first_step (rest_done ++ (before_done ++ (behind_done ++ last_done))) w first_confined
        (Confined-append rest_done (before_done ++ (behind_done ++ last_done)) w rest_confined
        (Confined-append before_done (behind_done ++ last_done) w before_confined
        (Confined-append behind_done last_done w behind_confined last_confined)));
    apart = all-append (IsElsewhere s) (erases (s + 1) sectors) (programs (16 * (s + 1)) rest)
        (erases-elsewhere s (s + 1) sectors (omega arith))
        (programs-elsewhere s ((length rest + 255) / 256) (16 * (s + 1)) rest (omega arith));
    final = all-append (IsProgramIn s) before_done (behind_done ++ last_done)
        (programs-in s ((length before + 255) / 256) (16 * s) before (omega arith) (omega (arith, before_long, low)))
        (all-append (IsProgramIn s) behind_done last_done
        (programs-in s ((length behind + 255) / 256) (16 * s + (page + 1)) behind (omega arith)
        (omega (arith, behind_few)))
        (programs-in s ((length last + 255) / 256) (16 * s + page) last (omega arith) (omega (arith, last_few, low))));
    distinct = front-distinct ((length before + 255) / 256) (16 * s) before (behind_done ++ last_done)
        (above-outside (16 * s) ((length before + 255) / 256) ((length behind + 255) / 256) (16 * s + (page + 1)) behind
        last_done (omega (arith, before_long))
        (above-alone (16 * s) ((length before + 255) / 256) ((length last + 255) / 256) (16 * s + page) last
        (omega (arith, before_long))))
        (front-distinct ((length behind + 255) / 256) (16 * s + (page + 1)) behind last_done
        (below-alone (16 * s + (page + 1)) ((length behind + 255) / 256) ((length last + 255) / 256) (16 * s + page) last
        (omega (arith, last_few)))
        (programs-distinct ((length last + 255) / 256) (16 * s + page) last));
  }

  abbrev pub front : List Step
  front = Erase s ∷ (rest_done ++ (before_done ++ behind_done))

  abbrev pub last_bytes : List ℕ
  last_bytes = padded_page (take 256 last)

  -- the page is programmed last, and not before
  pub steps-last : stage_steps s page image ≡ front ++ Program (16 * s + page) last_bytes ∷ []
  steps-last =
      ap (λ xs. Erase s ∷ (rest_done ++ (before_done ++ (behind_done ++ xs)))) (one-page (16 * s + page) last last_some last_few)
      ∙ ap (λ xs. Erase s ∷ (rest_done ++ xs))
      (sym (append_assoc before_done behind_done (Program (16 * s + page) last_bytes ∷ [])))
      ∙ ap (λ xs. Erase s ∷ xs)
      (sym (append_assoc rest_done (before_done ++ behind_done) (Program (16 * s + page) last_bytes ∷ [])))

  pub front-off : AllByRecursion (IsOffPage (16 * s + page)) front
  front-off = (
    tt,
    all-append (IsOffPage (16 * s + page)) rest_done (before_done ++ behind_done)
        (all-append (IsOffPage (16 * s + page)) (erases (s + 1) sectors) (programs (16 * (s + 1)) rest)
        (erases-off (16 * s + page) (s + 1) sectors)
        (programs-off (16 * s + page) ((length rest + 255) / 256) (16 * (s + 1)) rest (inl (omega (arith, low)))))
        (all-append (IsOffPage (16 * s + page)) before_done behind_done
        (programs-off (16 * s + page) ((length before + 255) / 256) (16 * s) before
        (inr (omega (arith, before_long))))
        (programs-off (16 * s + page) ((length behind + 255) / 256) (16 * s + (page + 1)) behind (inl (omega arith)))),
  )
