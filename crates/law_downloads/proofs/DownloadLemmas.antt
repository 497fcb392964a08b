-- A copied download: its steps are gated, and what its window holds afterwards.
use Rattle.std.proofs.Common.{◌≡◌, ◌≢◌, ℕ, ◌+◌, ◌*◌, ◌/◌, ◌%◌, ◌^◌, ◌<◌, ◌≤◌, true, ◌==◌, List, [], ◌∷◌, length, get_or, refl, sym, ap, ◌∙◌, subst, arith, inl, inr}
use Rattle.std.specs.Prelude.{if◌then◌else◌}
use Rattle.std.specs.List.{AllByRecursion}
use Rattle.std.proofs.lemmas.Bool.Decides.{nat_tests}
use Rattle.pico_board.specs.declared.window.TheConstants.{MOST_FLASH_BYTES}
use Rattle.pico_board.specs.declared.Step.{Step}
use Rattle.pico_board.specs.declared.Window.{Window}
use Rattle.pico_board.specs.declared.boot.Cpu.{Cpu}
use Rattle.pico_board.specs.Content.{Content, window_bytes}
use Rattle.pico_board.specs.Sessions.{Confined, Gated, SameButWindow}
use Rattle.pico_board.specs.Steps.{after_all}
use Rattle.pico_board.proofs.ConfinementLemmas.{confined-after_all}
use Rattle.pico_board.proofs.RangeLemmas.{get_or-window_bytes, length-window_bytes}
use Rattle.otp_roll.specs.Flags.{slot_size}
use Rattle.part_table.specs.declared.Target.{Target}
use Rattle.part_table.specs.Windows.{IsPlacedIn}
use Rattle.part_table.proofs.TestLemmas.{mapped_some}
use Rattle.slot_choice.specs.declared.unit.SlotUnit.{SlotUnit}
use Rattle.slot_choice.specs.LoadUnits.{load_unit}
use Rattle.uf2_place.specs.declared.block.Uf2.{Uf2}
use Rattle.uf2_place.specs.Files.{file_blocks, page_count}
use Rattle.uf2_place.specs.Placement.{HasWholeSectors, IsPageInside, gated_steps, in_turn, is_whole_download, own_steps, download_steps}
use Rattle.uf2_place.proofs.GatingLemmas.{gated-download}
use Rattle.boot_rules.specs.Starts.{table_of_content}
use Rattle.boot_rules.specs.Tables.{table_in}
use Rattle.boot_rules.specs.Targets.{unit_target}
use Rattle.boot_rules.proofs.PlaceLemmas.{table-sound, target-placed}
use Rattle.law_downloads.specs.Copied.{IsDownload, copied_session, downloaded}
use Rattle.law_downloads.proofs.ByteLemmas.{byte-is, byte_after}
use Rattle.law_downloads.proofs.CopyLemmas.{copy-placed, family-low}
use Rattle.law_downloads.proofs.FileLemmas.{are-blocks, block-inside, blocks-long, each-block}
use Rattle.law_downloads.proofs.LeftLemmas.{gated-left}
use Rattle.law_downloads.proofs.WindowLemmas.{kept, window-is}

-- the window of a download's target
pub is-placed : (c : Content) (cpu : Cpu) (family : ℕ) (target : Target) (image : List ℕ)
    → IsDownload c cpu family target image → IsPlacedIn c target.window
is-placed c cpu family target image is =
    let t = table_of_content c in
    let at = mapped_some (λ (u : SlotUnit). unit_target c t cpu family u u.b)
    (load_unit t (length c.flash) (slot_size c.otp (length c.flash)) family) target is.aimed in
    subst (λ (x : Target). IsPlacedIn c x.window) (sym at.2)
    (target-placed c t cpu family is.right (table-sound c (table_in c) refl) at.0 at.1)

-- steps that are gated are confined
pub gated-confined : (steps : List Step) (w : Window) → Gated steps w → Confined steps w
gated-confined steps w (inl none) = subst (λ xs. Confined xs w) (sym none) tt
gated-confined steps w (inr (s, others, last, whole)) = whole.confined

whole-blocks : (n : ℕ) (bs : List Uf2) → bs ≢ [] → AllByRecursion (λ (b : Uf2). b.count ≡ n) bs → length bs ≡ n
    → is_whole_download bs ≡ true
whole-blocks n [] some all long = absurd (some refl)
whole-blocks n (b ∷ bs) some all long = same (length (b ∷ bs)) b.count (long ∙ sym all.0)
  where
    same : (x y : ℕ) → x ≡ y → (x == y) ≡ true
    same x y e = grind (arith, nat_tests, e)

placed-gated : (t : Target) (bs : List Uf2) → bs ≢ [] → t.gated ≡ true → download_steps t bs ≡ gated_steps t.window bs
placed-gated t [] some gated = absurd (some refl)
placed-gated t (b ∷ bs) some gated = ap (λ x. if x then gated_steps t.window (b ∷ bs)
    else in_turn (own_steps t.window) [] (b ∷ bs)) gated

module _ (c : Content) (cpu : Cpu) (family : ℕ) (target : Target) (image : List ℕ)
    (is : IsDownload c cpu family target image) where
  abbrev w : Window
  w = target.window

  abbrev n : ℕ
  n = page_count (length image)

  abbrev blocks : List Uf2
  blocks = file_blocks image family

  stands : IsPlacedIn c w
  stands = is-placed c cpu family target image is

  whole : HasWholeSectors w
  whole = record { start = stands.starts; len = stands.whole; some = stands.some }

  few : length image ≤ MOST_FLASH_BYTES
  few =
      let inside = stands.inside in
      let most = is.right.flash_length.most in
      let room = is.room in
      omega (arith, room, inside, most)

  low : family < 2 ^ 32
  low = family-low family is.executable

  pub session-placed : copied_session c cpu family image ≡ download_steps target blocks
  session-placed = copy-placed c cpu family target image is stands

  placed-is-gated : Gated (download_steps target blocks) w
  placed-is-gated =
      gated-download target family n blocks is.gated (are-blocks image family few low target whole)
      (each-block image family few low (IsPageInside w) (block-inside image family few low target whole is.room))

  pub session-gated : Gated (copied_session c cpu family image) w
  session-gated = subst (λ xs. Gated xs w) (sym session-placed) placed-is-gated

  not-none : blocks ≢ []
  not-none e =
      let none : length blocks ≡ 0 = ap (λ (bs : List Uf2). length bs) e in
      let some = is.some in
      omega (arith, none, some, blocks-long image family few low)

  all-there : is_whole_download blocks ≡ true
  all-there =
      whole-blocks n blocks not-none
      (each-block image family few low (λ (b : Uf2). b.count ≡ n) (λ i lt. refl)) (blocks-long image family few low)

  abbrev end : Content
  end = after_all c (download_steps target blocks)

  left : SameButWindow w c end
  left = confined-after_all c w (download_steps target blocks)
      (gated-confined (download_steps target blocks) w placed-is-gated)

  inside-c : w.start + w.len ≤ length c.flash
  inside-c = let inside = stands.inside in omega (arith, inside)

  inside-end : w.start + w.len ≤ length end.flash
  inside-end = let long = left.outside.long in omega (arith, long, inside-c)

  each : (j : ℕ) → j < w.len
      → get_or (window_bytes end w) j 0 ≡ kept image j (get_or (window_bytes c w) j 0)
  each j lt =
      get_or-window_bytes end w j lt
      ∙ byte-is (w.start + j) c (download_steps target blocks) (omega (arith, lt, inside-c))
      ∙ ap (λ xs. byte_after (w.start + j) xs (get_or c.flash (w.start + j) 0))
      (placed-gated target blocks not-none is.gated)
      ∙ gated-left w (w.start / 4096) (starts stands.starts) image family j n (get_or c.flash (w.start + j) 0)
      (count-some is.some) all-there
      ∙ ap (kept image j) (sym (get_or-window_bytes c w j lt))
    where
      starts : w.start % 4096 ≡ 0 → w.start ≡ 4096 * (w.start / 4096)
      starts e = omega (arith, e)

      count-some : 0 < length image → 0 < n
      count-some some = omega (arith, some)

  pub session-holds : window_bytes (after_all c (copied_session c cpu family image)) w
      ≡ downloaded image (window_bytes c w)
  session-holds =
      let long-c = length-window_bytes c w inside-c in
      let long-end = length-window_bytes end w inside-end in
      ap (λ xs. window_bytes (after_all c xs) w) session-placed
      ∙ window-is image is.bytes (window_bytes c w) (window_bytes end w) (long-end ∙ sym long-c)
      (ap (λ k. k % 4096) long-c ∙ stands.whole) (subst (λ k. length image ≤ k) (sym long-c) is.room)
      (λ j lt. each j (subst (λ k. j < k) long-c lt))
