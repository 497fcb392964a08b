-- How BOOTSEL serves a block that is taken into a download, and the session of the blocks of a whole download.
use Rattle.std.proofs.Common.{◌≡◌, ◌≢◌, ℕ, Bool, true, false, ◌&&◌, ◌||◌, ◌==◌, nat_eq, List, [], ◌∷◌, ◌++◌, length, map, Option, Some, None, Ok, Err, refl, sym, ap, ◌∙◌, subst, arith, append-nil, append_assoc, length-append}
use Rattle.std.specs.Prelude.{if◌then◌else◌, not}
use Rattle.std.specs.List.{AllByRecursion, IsDistinct, list_any}
use Rattle.std.specs.Set.{is_member}
use Rattle.std.proofs.lemmas.Bool.Decides.{nat_tests}
use Rattle.std.proofs.lemmas.List.{map-append}
use Rattle.pico_board.specs.declared.Step.{Step}
use Rattle.pico_board.specs.declared.boot.BootKind.{BootKind}
use Rattle.pico_board.specs.declared.boot.Cpu.{Cpu}
use Rattle.pico_board.specs.Content.{Content}
use Rattle.pico_board.specs.Steps.{after_all}
use Rattle.pico_board.proofs.GateLemmas.{IsDistinct-first, IsDistinct-rest}
use Rattle.part_table.specs.declared.table.Right.TheVariants.{BootWrite}
use Rattle.part_table.specs.declared.table.Table.{Table}
use Rattle.part_table.specs.declared.Target.{Target}
use Rattle.part_table.specs.Rights.{allowed_by}
use Rattle.uf2_place.specs.declared.answer.Accepted.TheVariants.{Again, Done, Skipped, Taken}
use Rattle.uf2_place.specs.declared.answer.PlaceFault.TheVariants.{NotPermitted, Outside}
use Rattle.uf2_place.specs.declared.answer.Ruling.{Ruling}
use Rattle.uf2_place.specs.declared.answer.Ruling.TheVariants.{Answered, Begins, Continues}
use Rattle.uf2_place.specs.declared.block.Uf2.{Uf2}
use Rattle.uf2_place.specs.Blocks.{uf2_of, written_block}
use Rattle.uf2_place.specs.Placement.{AreBlocks, IsBlockOf, grown, is_whole_download, numbers_of, download_steps, sector_in}
use Rattle.uf2_place.specs.Rulings.{aimed, begun, is_skipped, is_page_within}
use Rattle.uf2_place.proofs.DistinctLemmas.{all-right}
use Rattle.uf2_place.proofs.GrowingLemmas.{first-blocks, grow, not-whole}
use Rattle.boot_rules.specs.Targets.{target_of}
use Rattle.boot_script.specs.Events.{EventView}
use Rattle.boot_machine.specs.Machines.{Host, StateView, Placing, InBootsel, Off, Running}
use Rattle.boot_machine.specs.Serving.{ServedEvent, block_served, carried_on, done_boot, is_like, ruled_on, ruling_on, table_of_found, taken_in, uf2_served, with_placing}
use Rattle.text_lines.specs.Outcomes.{accepted_outcome}
use Rattle.boot_rules.specs.declared.tables.Found.{Found}
use Rattle.boot_session.specs.Sessions.{going_on, session_from}

-- a block that goes into the window of a target: it is not skipped, its page lies in the window, and its sector
-- may be written
pub record Goes (table : Option Table) (target : Target) (b : Uf2) : Type 0 where
  pub kept : (n : ℕ) → is_skipped n b ≡ false
  pub inside : is_page_within target.window.len b ≡ true
  pub right : allowed_by table (sector_in target.window b) BootWrite ≡ true

aimed-is : (table : Option Table) (target : Target) (b : Uf2) (go : Ruling) → Goes table target b
    → aimed table b target go ≡ go
aimed-is table target b go goes =
    ap (λ x. if not x then Answered (Err Outside)
    else if not (allowed_by table (sector_in target.window b) BootWrite) then Answered (Err NotPermitted)
    else go) goes.inside
    ∙ ap (λ x. if not x then Answered (Err NotPermitted) else go) goes.right

first-ruling : (n : ℕ) (table : Option Table) (target : Target) (b : Uf2) → Goes table target b
    → ruling_on n table (Some target) None b ≡ Begins target
first-ruling n table target b goes =
    ap (λ x. if x then Answered (Ok Skipped) else ruled_on table (Some target) None b) (goes.kept n)
    ∙ aimed-is table target b (Begins target) goes

next-ruling : (n : ℕ) (table : Option Table) (given : Option Target) (placing : Placing) (b : Uf2)
    → Goes table placing.target b → is_like placing.blocks b ≡ true
    → is_member nat_eq (numbers_of placing.blocks) b.number ≡ false
    → ruling_on n table given (Some placing) b ≡ Continues placing.target
next-ruling n table given placing b goes like new =
    ap (λ x. if x then Answered (Ok Skipped) else ruled_on table given (Some placing) b) (goes.kept n)
    ∙ ap (λ x. if x then carried_on table placing b else begun table b given) like
    ∙ ap (λ x. if x then Answered (Ok Again) else aimed table b placing.target (Continues placing.target)) new
    ∙ aimed-is table placing.target b (Continues placing.target) goes

-- a number that differs from those before it
new-number : (xs : List ℕ) (y : ℕ) (ys : List ℕ) → IsDistinct nat_eq (xs ++ y ∷ ys) → is_member nat_eq xs y ≡ false
new-number [] y ys distinct = refl
new-number (x ∷ xs) y ys distinct =
    let others = all-right (λ z. nat_eq x z ≡ false) xs (y ∷ ys) (IsDistinct-first x (xs ++ y ∷ ys) distinct) in
    either (others.0) (new-number xs y ys (IsDistinct-rest x (xs ++ y ∷ ys) distinct))
  where
    swapped : (x y : ℕ) → nat_eq x y ≡ false → nat_eq y x ≡ false
    swapped x y e = grind (arith, nat_tests, e)

    either : nat_eq x y ≡ false → is_member nat_eq xs y ≡ false → is_member nat_eq (x ∷ xs) y ≡ false
    either first rest =
        ap (λ b. b || list_any (nat_eq y) xs) (swapped x y first) ∙ rest

like-block : (family count : ℕ) (former : List Uf2) (b : Uf2) → former ≢ []
    → AllByRecursion (IsBlockOf family count) former → IsBlockOf family count b → is_like former b ≡ true
like-block family count [] b some all is = absurd (some refl)
like-block family count (a ∷ former) b some all is =
    same a.family b.family a.count b.count (all.0.same_family ∙ sym is.same_family)
    (all.0.same_count ∙ sym is.same_count)
  where
    same : (x y n m : ℕ) → x ≡ y → n ≡ m → (x == y && n == m) ≡ true
    same x y n m p q = grind (arith, nat_tests, p, q)

-- no event does no step
nothing-more : (boot : Option BootKind) (place : StateView) → going_on (λ next. []) boot place ≡ []
nothing-more (Some kind) place = refl
nothing-more None Off = refl
nothing-more None (Running program) = refl
nothing-more None (InBootsel next) = refl

module _ (cpu : Cpu) (found : Option Found) (ram : List ℕ) (target : Target) (family count : ℕ) where
  abbrev table : Option Table
  table = table_of_found found

  -- the host with a download of these blocks
  abbrev pub hosting : Option Placing → Host
  hosting placing = record { found = found; placing = placing; ram = ram }

  abbrev pub busy : List Uf2 → Host
  busy former = hosting (Some (record { target = target; blocks = former }))

  abbrev pub events_of : List Uf2 → List EventView
  events_of bs = map (λ b. EventView.Uf2 (written_block b)) bs

  -- the steps of an event that was served, and of those behind it
  abbrev rest_of : List EventView → Content → ServedEvent → List Step
  rest_of es d s = s.steps ++ going_on (λ next. session_from (after_all d s.steps) cpu next es) s.boot s.place

  -- what is served of the last block of a download, and of another one
  abbrev done : Host → Uf2 → List Step → ServedEvent
  done host b steps = record {
    steps = steps;
    place = InBootsel (with_placing host None);
    outcome = accepted_outcome b.number (Done target);
    boot = done_boot b.family target;
  }

  abbrev going : Host → List Uf2 → Uf2 → List Step → ServedEvent
  going host now b steps = record {
    steps = steps;
    place = InBootsel (with_placing host (Some (record { target = target; blocks = now })));
    outcome = accepted_outcome b.number Taken;
    boot = None;
  }

  -- a block that is not the last one
  block-more : (d : Content) (placing : Option Placing) (now : List Uf2) (b : Uf2) (steps : List Step)
      (es : List EventView) → is_whole_download now ≡ false
      → rest_of es d (taken_in (hosting placing) target now b steps)
      ≡ steps ++ session_from (after_all d steps) cpu (busy now) es
  block-more d placing now b steps es open_ =
      ap (λ x. rest_of es d (if x then done (hosting placing) b steps else going (hosting placing) now b steps)) open_

  -- the last one
  block-last : (d : Content) (placing : Option Placing) (now : List Uf2) (b : Uf2) (steps : List Step)
      → rest_of [] d (taken_in (hosting placing) target now b steps) ≡ steps
  block-last d placing now b steps = go (is_whole_download now)
    where
      go : (x : Bool)
          → rest_of [] d (if x then done (hosting placing) b steps else going (hosting placing) now b steps) ≡ steps
      go true = ap (λ xs. steps ++ xs) (nothing-more (done_boot b.family target) (InBootsel (hosting None)))
          ∙ append-nil steps
      go false = append-nil steps

  -- the first block, for its own target
  first-event : (d : Content) (b : Uf2) (es : List EventView) → uf2_of (written_block b) ≡ Ok b
      → target_of d table cpu b.family ≡ Some target → Goes table target b
      → session_from d cpu (hosting None) (EventView.Uf2 (written_block b) ∷ es)
      ≡ rest_of es d (taken_in (hosting None) target (b ∷ []) b (grown target [] (b ∷ [])))
  first-event d b es read aims goes =
      ap (λ r. rest_of es d (uf2_served d cpu (hosting None) r)) read
      ∙ ap (λ o. rest_of es d (block_served (hosting None) b (ruling_on (length d.flash) table o None b))) aims
      ∙ ap (λ r. rest_of es d (block_served (hosting None) b r)) (first-ruling (length d.flash) table target b goes)

  -- a block that continues a download
  next-event : (d : Content) (former : List Uf2) (b : Uf2) (es : List EventView) → uf2_of (written_block b) ≡ Ok b
      → Goes table target b → is_like former b ≡ true → is_member nat_eq (numbers_of former) b.number ≡ false
      → session_from d cpu (busy former) (EventView.Uf2 (written_block b) ∷ es)
      ≡ rest_of es d (taken_in (busy former) target (former ++ b ∷ []) b (grown target former (former ++ b ∷ [])))
  next-event d former b es read goes like new =
      ap (λ r. rest_of es d (uf2_served d cpu (busy former) r)) read
      ∙ ap (λ r. rest_of es d (block_served (busy former) b r))
      (next-ruling (length d.flash) table (target_of d table cpu b.family)
      (record { target = target; blocks = former }) b goes like new)

  abbrev IsRead : Uf2 → Type 0
  IsRead b = uf2_of (written_block b) ≡ Ok b

  -- the blocks behind the first ones, up to the last
  more-blocks : (d : Content) (former bs : List Uf2) → former ≢ [] → AreBlocks target family count (former ++ bs)
      → length (former ++ bs) ≡ count → AllByRecursion IsRead bs → AllByRecursion (Goes table target) bs
      → download_steps target former ++ session_from d cpu (busy former) (events_of bs)
      ≡ download_steps target (former ++ bs)
  more-blocks d former [] some are whole reads goes =
      append-nil (download_steps target former) ∙ ap (download_steps target) (sym (append-nil former))
  more-blocks d former (b ∷ bs) some are whole reads goes =
      ap (λ xs. download_steps target former ++ xs)
      (next-event d former b (events_of bs) reads.0 goes.0
      (like-block family count former b some first.each here)
      (new-number (numbers_of former) b.number (numbers_of bs)
      (subst (IsDistinct nat_eq) (map-append (λ (x : Uf2). x.number) former (b ∷ bs)) are.distinct)))
      ∙ by bs refl (λ e d'. more-blocks d' now bs e again (ap (λ xs. length xs) same ∙ whole) reads.1 goes.1)
    where
      now : List Uf2
      now = former ++ b ∷ []

      same : now ++ bs ≡ former ++ b ∷ bs
      same = append_assoc former (b ∷ []) bs

      first : AreBlocks target family count former
      first = first-blocks target family count former (b ∷ bs) are

      here : IsBlockOf family count b
      here = (all-right (IsBlockOf family count) former (b ∷ bs) are.each).0

      again : AreBlocks target family count (now ++ bs)
      again = subst (AreBlocks target family count) (sym same) are

      step : List Step
      step = grown target former now

      one : download_steps target former ++ step ≡ download_steps target now
      one = sym (grow target family count former (b ∷ []) (first-blocks target family count now bs again))

      not-none : (xs : List Uf2) (x : Uf2) → xs ++ x ∷ [] ≢ []
      not-none [] x e = cc
      not-none (y ∷ ys) x e = cc

      by : (rest : List Uf2) → bs ≡ rest
          → (now ≢ [] → (d' : Content)
          → download_steps target now ++ session_from d' cpu (busy now) (events_of bs)
          ≡ download_steps target (now ++ bs))
          → download_steps target former ++ rest_of (events_of bs) d (taken_in (busy former) target now b step)
          ≡ download_steps target (former ++ b ∷ bs)
      by [] none later =
          ap (λ xs. download_steps target former
          ++ rest_of (events_of xs) d (taken_in (busy former) target now b step)) none
          ∙ ap (λ xs. download_steps target former ++ xs)
          (block-last d (Some (record { target = target; blocks = former })) now b step)
          ∙ one ∙ ap (λ xs. download_steps target (former ++ b ∷ xs)) (sym none)
      by (x ∷ xs) more later =
          ap (λ ys. download_steps target former ++ ys)
          (block-more d (Some (record { target = target; blocks = former })) now b step (events_of bs)
          (not-whole family count now (first-blocks target family count now bs again).each
          (omega (
            arith,
            whole,
            ap (λ (ys : List Uf2). length ys) same,
            length-append now bs,
            ap (λ (ys : List Uf2). length ys) more,
          ))))
          ∙ sym (append_assoc (download_steps target former) step
          (session_from (after_all d step) cpu (busy now) (events_of bs)))
          ∙ ap (λ ys. ys ++ session_from (after_all d step) cpu (busy now) (events_of bs)) one
          ∙ later (not-none former b) (after_all d step)
          ∙ ap (download_steps target) same

  -- all blocks of a download
  pub whole-download : (c : Content) (b : Uf2) (bs : List Uf2) → target_of c table cpu b.family ≡ Some target
      → AreBlocks target family count (b ∷ bs) → length (b ∷ bs) ≡ count → AllByRecursion IsRead (b ∷ bs)
      → AllByRecursion (Goes table target) (b ∷ bs)
      → session_from c cpu (hosting None) (events_of (b ∷ bs)) ≡ download_steps target (b ∷ bs)
  whole-download c b bs aims are whole reads goes =
      first-event c b (events_of bs) reads.0 aims goes.0
      ∙ by bs refl
    where
      by : (rest : List Uf2) → bs ≡ rest
          → rest_of (events_of bs) c (taken_in (hosting None) target (b ∷ []) b (grown target [] (b ∷ [])))
          ≡ download_steps target (b ∷ bs)
      by [] none =
          ap (λ xs. rest_of (events_of xs) c (taken_in (hosting None) target (b ∷ []) b (grown target [] (b ∷ []))))
          none
          ∙ block-last c None (b ∷ []) b (grown target [] (b ∷ []))
          ∙ ap (λ xs. download_steps target (b ∷ xs)) (sym none)
      by (x ∷ xs) more =
          block-more c None (b ∷ []) b (grown target [] (b ∷ [])) (events_of bs)
          (not-whole family count (b ∷ []) (are.each.0, tt)
          (omega (arith, whole, ap (λ (ys : List Uf2). length ys) more)))
          ∙ more-blocks (after_all c (grown target [] (b ∷ []))) (b ∷ []) bs (λ e. cc) are whole reads.1 goes.1
