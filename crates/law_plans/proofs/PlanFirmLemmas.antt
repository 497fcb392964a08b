-- What a plan writes of an image is valid in its slot, and a sealed image is firm there.
use Rattle.std.proofs.Common.{◌≡◌, ℕ, ◌+◌, ◌/◌, ◌%◌, ◌<◌, ◌≤◌, Bool, true, false, List, [], ◌∷◌, All, length, Some, Ok, refl, sym, ◌∙◌, subst, arith}
use Rattle.std.proofs.lemmas.List.Elements.{All-from_get_or}
use Rattle.pico_board.specs.declared.window.TheConstants.{MOST_FLASH_BYTES}
use Rattle.pico_board.specs.declared.Step.{Step}
use Rattle.pico_board.specs.declared.boot.Cpu.{Cpu}
use Rattle.pico_board.specs.declared.window.Window.{Window}
use Rattle.pico_board.specs.Content.{Content, IsContent, window_bytes}
use Rattle.pico_board.specs.Steps.{after_all}
use Rattle.pico_board.proofs.ContentLemmas.{byte_at}
use Rattle.pico_board.proofs.RangeLemmas.{length-window_bytes}
use Rattle.part_table.specs.declared.table.Right.TheVariants.{BootWrite}
use Rattle.part_table.specs.Rights.{allowed_by}
use Rattle.picoboot_cmd.specs.WellFormed.{MayWrite}
use Rattle.boot_script.specs.Events.{EventView}
use Rattle.boot_script.specs.Scripts.{events}
use Rattle.image_def.specs.declared.started.Started.{Started}
use Rattle.load_map.specs.Stored.{AreStoredIn}
use Rattle.image_check.specs.Addressing.{in_flash}
use Rattle.image_check.specs.Changes.{moved_to}
use Rattle.image_check.specs.Valid.{IsValidImage, Valid}
use Rattle.image_pack.specs.declared.spec.SealSpec.{SealSpec}
use Rattle.image_pack.specs.Faults.{IsSealed, block_offset}
use Rattle.image_pack.specs.Filling.{padded, round_up, whole_sectors}
use Rattle.image_pack.specs.ReadBack.{IsHalves, MeetsRollback}
use Rattle.image_pack.specs.Sealing.{sealed_text}
use Rattle.image_pack.specs.Unsealable.{KeepsRules}
use Rattle.image_pack.proofs.ReadBackLemmas.{meets-exactly}
use Rattle.script_plan.specs.Plans.{plan_text}
use Rattle.boot_rules.specs.Tables.{table_in}
use Rattle.boot_rules.specs.declared.tables.Found.{Found}
use Rattle.boot_machine.specs.Serving.{table_of_found}
use Rattle.boot_sweep.specs.Firms.{Firm}
use Rattle.boot_session.specs.Sessions.{IsSlotOf, session}
use Rattle.boot_session.specs.Slots as swept
use Rattle.boot_session.proofs.PlanSlotLemmas.{IsSlot, slot-is}
use Rattle.law_plans.specs.Written.{HasNoLowBlockPast, planned}
use Rattle.law_plans.proofs.PlannedLemmas.{low-planned}
use Rattle.law_plans.proofs.PlannedValidLemmas.{planned-valid}
use Rattle.law_plans.proofs.SealedLemmas.{text-long}
use Rattle.law_plans.specs.Lone.{HasLoneLoop}
use Rattle.law_plans.proofs.HomeSlotLemmas.{home-slot}
use Rattle.law_plans.proofs.SealedByteLemmas.{text-bytes}
use Rattle.law_plans.proofs.SealedFirmLemmas.{firm-planned}

-- what the law on the session of a plan says
pub record KnownSession : Type 0 where
  pub barred : (c : Content) (cpu : Cpu) (w : Window) (image : List ℕ) (es : List EventView)
      → IsContent c → IsSlotOf c cpu w → 0 < length image → length image ≤ w.len
      → events (plan_text w.start image) ≡ Ok es
      → allowed_by (table_of_found (table_in c)) (w.start / 4096) BootWrite ≡ false → session c cpu es ≡ []
  pub bytes : (c : Content) (cpu : Cpu) (w : Window) (image : List ℕ) (es : List EventView)
      → IsContent c → IsSlotOf c cpu w → 0 < length image → length image ≤ w.len
      → All (λ b. b < 256) image → events (plan_text w.start image) ≡ Ok es
      → MayWrite (table_of_found (table_in c)) w.start w.len
      → window_bytes (after_all c (session c cpu es)) w ≡ planned image (window_bytes c w)
  pub rows : (c : Content) (cpu : Cpu) (w : Window) (image : List ℕ) (es : List EventView)
      → IsContent c → IsSlotOf c cpu w → 0 < length image → length image ≤ w.len
      → events (plan_text w.start image) ≡ Ok es → (after_all c (session c cpu es)).otp ≡ c.otp

not-nil : (x : Step) (xs : List Step) → [] ≡ x ∷ xs → ⊥
not-nil x xs e = cc

module _ (says : KnownSession) (c : Content) (by : Cpu) (w : Window) (image : List ℕ) (es : List EventView)
    (right : IsContent c) (of : IsSlotOf c by w) (some : 0 < length image) (room : length image ≤ w.len)
    (is : events (plan_text w.start image) ≡ Ok es) where
  abbrev slot : IsSlot c w
  slot = slot-is c by w right of

  abbrev z : Content
  z = after_all c (session c by es)

  inside : w.start + w.len ≤ length c.flash
  inside =
      let in_sectors = slot.placed.inside in
      let whole = right.flash_length.whole in
      omega (arith, in_sectors, whole)

  pub whole : w.len % 4096 ≡ 0
  whole = slot.placed.whole

  pub most : w.len ≤ MOST_FLASH_BYTES
  most = let all = right.flash_length.most in omega (arith, inside, all)

  pub was : length (window_bytes c w) ≡ w.len
  was = length-window_bytes c w inside

  pub rows-stay : z.otp ≡ c.otp
  rows-stay = says.rows c by w image es right of some room is

  -- a session that does something may write all of the slot
  pub may-write : (step : Step) (others : List Step) → session c by es ≡ step ∷ others
      → MayWrite (table_of_found (table_in c)) w.start w.len
  may-write step others does = go slot.may refl
    where
      least : 1 ≤ w.len
      least = omega (arith, some, room)

      first-right : allowed_by (table_of_found (table_in c)) (w.start / 4096) BootWrite ≡ slot.may
      first-right = slot.rights w.start (omega arith) (omega (arith, least))

      go : (b : Bool) → slot.may ≡ b → MayWrite (table_of_found (table_in c)) w.start w.len
      go true may = λ i lt. slot.rights (w.start + i) (omega arith) (omega (arith, lt)) ∙ may
      go false never =
          let wrong : [] ≡ step ∷ others =
          sym (says.barred c by w image es right of some room is (first-right ∙ never)) ∙ does in
          absurd (not-nil step others wrong)

  module _ (small : All (λ b. b < 256) image) (may : MayWrite (table_of_found (table_in c)) w.start w.len) where
    pub wrote : window_bytes z w ≡ planned image (window_bytes c w)
    wrote = says.bytes c by w image es right of some room small is may

    pub low-after : 4096 < length image → HasNoLowBlockPast (round_up 4096 (length image)) (window_bytes z w)
    low-after more =
        subst (HasNoLowBlockPast (round_up 4096 (length image))) (sym wrote) (low-planned image (window_bytes c w) more)

    pub valid-after : (cpu : Cpu) (trial : Bool) (s : Started)
        (v : IsValidImage in_flash w cpu trial c.otp (padded w.len image) s) → AreStoredIn (length image) v.sound.loads
        → HasNoLowBlockPast (round_up 4096 (length image)) (window_bytes z w) → Valid z w cpu trial s
    valid-after cpu trial s v stored none =
        let low = subst (HasNoLowBlockPast (round_up 4096 (length image))) wrote none in
        let k = planned-valid w image (window_bytes c w) whole most room was low cpu trial c.otp s v stored in
        subst (λ otp. IsValidImage in_flash w cpu trial otp (window_bytes z w) s) (sym rows-stay)
        (subst (λ bytes. IsValidImage in_flash w cpu trial c.otp bytes s) (sym wrote) k.valid)

-- the session of a plan of a sealed image that is swept leaves a firm image
pub swept-firm : KnownSession → (binary : List ℕ) (spec : SealSpec) (sealed : IsSealed binary spec)
    (own : KeepsRules spec.cpu (whole_sectors binary)) (c : Content) (w : Window) (es : List EventView) (found : Found)
    → IsHalves spec.version → All (λ b. b < 256) binary → 4096 ≤ length binary
    → HasLoneLoop (sealed_text binary spec) → AreStoredIn (block_offset binary) own.loads
    → IsContent c → table_in c ≡ Some found → MeetsRollback c.otp spec → length (sealed_text binary spec) ≤ w.len
    → events (plan_text w.start (sealed_text binary spec)) ≡ Ok es
    → swept.IsSlot c spec.cpu (session c spec.cpu es) w
    → Firm (after_all c (session c spec.cpu es)) w spec.cpu (moved_to w sealed.started)
swept-firm says binary spec sealed own c w es found halves small long lone stored right table meets room is slot =
    let text = sealed_text binary spec in
    let of = home-slot c w spec.cpu found right slot.boot_member table in
    let more = text-long binary spec sealed long in
    let some : 0 < length text = omega (arith, more) in
    let bytes = text-bytes binary spec sealed (byte_at binary small) in
    let all = All-from_get_or (λ b. b < 256) text 0 (λ i lt. bytes i) in
    let may = may-write says c spec.cpu w text es right of some room is slot.first slot.others slot.whole in
    let rows = rows-stay says c spec.cpu w text es right of some room is in
    firm-planned binary spec sealed halves long lone w (window_bytes c w)
    (whole says c spec.cpu w text es right of some room is) (most says c spec.cpu w text es right of some room is) room
    (was says c spec.cpu w text es right of some room is) own stored (after_all c (session c spec.cpu es))
    (wrote says c spec.cpu w text es right of some room is all may)
    ((meets-exactly binary spec sealed halves (after_all c (session c spec.cpu es)).otp).1
    (subst (λ otp. MeetsRollback otp spec) (sym rows) meets))
