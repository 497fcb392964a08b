-- What is to be looked up of the windows that a boot looks at, and of owned partitions, by the functions and in the
-- words of the rules.
use Rattle.std.proofs.Common.{◌≡◌, ◌⊎◌, ℕ, ◌+◌, ◌<◌, ◌==◌, ◌&&◌, ◌||◌, not, nat_lt, Bool, true, false, cond, List, [], slice_get, Option, Some, None, Result, Ok, Err, option_and_then, refl, sym, ap, ◌∙◌, subst, inl, inr, arith}
use Rattle.std.specs.Prelude.{option_to_list}
use Rattle.std.specs.Bool.{Decides}
use Rattle.std.specs.List.{filter_map, flat_map}
use Rattle.std.specs.Option.{option_map_or}
use Rattle.std.specs.Result.{result_ok}
use Rattle.std.proofs.lemmas.Bool.{eqb-true}
use Rattle.std.proofs.lemmas.Bool.Decides.{nat_tests}
use Rattle.std.proofs.lemmas.Option.{same_Some}
use Rattle.pico_board.specs.declared.boot.Cpu.{Cpu}
use Rattle.pico_board.specs.declared.boot.BootKind.{BootKind}
use Rattle.pico_board.specs.declared.window.Window.{Window}
use Rattle.pico_board.specs.declared.window.TheConstants.{SMALLEST_SLOT}
use Rattle.pico_board.specs.Content.{Content, window_bytes}
use Rattle.block_codec.specs.declared.items.Item.{Item}
use Rattle.block_codec.specs.declared.kinds.TheConstants.{IMAGE_TYPE, HASH_DEF, HASH_VALUE, VERSION}
use Rattle.block_codec.specs.Items.{items_of}
use Rattle.block_codec.specs.Kinds.{is_of_kind}
use Rattle.block_codec.specs.Blocks.{BlockView, block_size}
use Rattle.block_loop.specs.Loop.{first_block, loop_of}
use Rattle.block_loop.specs.declared.fault.LoopFault.{LoopFault}
use Rattle.block_loop.proofs.ChainLemmas.{first_block-found, first_block-stands, loop_of-loop}
use Rattle.block_loop.proofs.SameLoopLemmas.{IsLoop-from_answer}
use Rattle.image_def.specs.declared.started.Started.{Started}
use Rattle.image_def.specs.declared.fault.DefFault.TheVariants.{Repeated, BadItem, BadRow, RepeatedRow}
use Rattle.image_def.specs.Suits.{does_suit, last_suiting}
use Rattle.load_map.specs.declared.load.MapFault.TheVariants.{Storage, Runtime, CoversBlock}
use Rattle.image_check.specs.declared.why.Why.{Why}
use Rattle.image_check.specs.declared.why.Why.TheVariants.{NoBlock, Loop, NoDefinition, NotForProcessor, Items, Trial, RollbackRequired, Below, Map, Entry, Digest, Delta}
use Rattle.image_check.specs.Valid.{Valid}
use Rattle.image_check.proofs.LastLemmas.{found-last, last-found}
use Rattle.part_table.specs.declared.partition.Partition.{Partition}
use Rattle.part_table.specs.declared.table.Table.{Table}
use Rattle.part_table.specs.Links.{is_owned}
use Rattle.part_table.specs.Partitions.{part_at}
use Rattle.part_table.specs.Windows.{part_window}
use Rattle.boot_rules.specs.declared.decision.Decision.{Decision}
use Rattle.boot_rules.specs.declared.decision.Decision.TheVariants.{Start, Bootsel}
use Rattle.boot_rules.specs.declared.decision.Fall.TheVariants.{Requested, FlashOff, NoImage}
use Rattle.boot_reasons.specs.declared.looks.UnitReport.{UnitReport}
use Rattle.slot_caveats.specs.declared.caveat.Caveat.{Caveat}
use Rattle.slot_caveats.specs.declared.caveat.Caveat.TheVariants.{FirstBlock, ItemOrder, MayStart}
use Rattle.slot_caveats.specs.Listing.{AreOfEach, IsWhere, caveat_if}
use Rattle.boot_caveats.specs.ChoiceCaveats.{has_normal_image}
use Rattle.boot_caveats.specs.ImageCaveats.{begins_otherwise, definition_in, ends_late, first_places, is_at, is_doubtful, item_order, late_first, late_firsts, look_may_start, looked_windows, may_start, owned_image, owned_images, read_windows, reads_blocks, second_may_start}
use Rattle.boot_caveats.specs.ImageRules.{AreItemOrders, AreLateFirsts, AreMayStarts, AreOwnedImages, BeginsOtherwise, HasLateFirst, IsDoubtful, IsMayStart, IsOwnedImage, IsRollback, IsSecondMayStart, StartsUnread, ReadsBlocks, bad_row, repeated_row, bad_version, covers_block, runtime, bad_hash_def, bad_hash_value, entry, delta}
use Rattle.boot_caveats.proofs.WindowLemmas.{places-only, places-right}
use Rattle.boot_caveats.proofs.ChoiceCaveatLemmas.{normal-decides}
use Rattle.slot_caveats.proofs.TableCaveatLemmas.{no-parts, parts-just}
use Rattle.slot_caveats.proofs.ListingLemmas.{IsJust, and-decides, both-just, each-just, each-one-just, one-just, or-decides, where-just}
use Rattle.boot_caveats.specs.Unread.{is_rollback, unread_window}
use Rattle.boot_caveats.proofs.UnreadLemmas.{rolled-decides, unread-decides}

-- ---- first blocks that end late

pub reads-decides : (d : Decision) → Decides (reads_blocks d) (ReadsBlocks d)
reads-decides (Start choice) = (λ e. inl (choice, refl), λ is. refl)
reads-decides (Bootsel Requested) = (λ e. cc, λ is. absurd (never is))
  where
    never : ReadsBlocks (Bootsel Requested) → ⊥
    never (inl start) = let e = start.1 in cc
    never (inr none) = cc
reads-decides (Bootsel FlashOff) = (λ e. cc, λ is. absurd (never is))
  where
    never : ReadsBlocks (Bootsel FlashOff) → ⊥
    never (inl start) = let e = start.1 in cc
    never (inr none) = cc
reads-decides (Bootsel NoImage) = (λ e. inr refl, λ is. refl)

late-decides : (c : Content) (w : Window)
    → Decides (option_map_or ends_late (first_block (window_bytes c w)) false) (HasLateFirst c w)
late-decides c w = (to (first_block (window_bytes c w)) refl, from)
  where
    below : (m n : ℕ) → nat_lt m n ≡ true → m < n
    below m n h = grind (arith, nat_tests)

    is-below : (m n : ℕ) → m < n → nat_lt m n ≡ true
    is-below m n h = grind (arith, nat_tests)

    to : (o : Option BlockView) → first_block (window_bytes c w) ≡ o → option_map_or ends_late o false ≡ true
        → HasLateFirst c w
    to None is e = cc
    to (Some b) is e =
        (b, first_block-found (window_bytes c w) b is, below SMALLEST_SLOT (b.at + block_size b) e)

    from : HasLateFirst c w → option_map_or ends_late (first_block (window_bytes c w)) false ≡ true
    from is =
        ap (λ o. option_map_or ends_late o false) (first_block-stands (window_bytes c w) is.0 is.1)
        ∙ is-below SMALLEST_SLOT (is.0.at + block_size is.0) is.2

abbrev IsLate : Content → Window → List Caveat → Type 0
IsLate c w = IsWhere (HasLateFirst c w) (FirstBlock w)

pub late-just : (c : Content) (d : Decision) (size : ℕ) (looks : List UnitReport)
    → IsJust (AreLateFirsts c d size looks) (late_firsts c d size looks)
late-just c d size looks = go (reads_blocks d) refl
  where
    each : IsJust (AreOfEach (IsLate c) (first_places [] (read_windows size looks)))
        (filter_map (late_first c) (first_places [] (read_windows size looks)))
    each = each-one-just (IsLate c) (late_first c)
        (λ w. where-just (HasLateFirst c w) (FirstBlock w)
        (option_map_or ends_late (first_block (window_bytes c w)) false) (late-decides c w))
        (first_places [] (read_windows size looks))

    apart : (b : Bool) → b ≡ true → b ≡ false → ⊥
    apart b e f = cc

    go : (b : Bool) → reads_blocks d ≡ b
        → IsJust (AreLateFirsts c d size looks)
        (cond b (filter_map (late_first c) (first_places [] (read_windows size looks))) [])
    go true e = record {
      right = inl (
        (reads-decides d).0 e,
        (first_places [] (read_windows size looks), places-right [] (read_windows size looks), each.right),
      );
      only = λ other is. elim is [
        | inl told ↦ each.only other (subst (λ (xs : List Window). AreOfEach (IsLate c) xs other)
            (places-only [] (read_windows size looks) told.1.0 told.1.1) told.1.2)
        | inr none ↦ absurd (none.0 ((reads-decides d).0 e))
      ];
    }
    go false e = record {
      right = inr ((λ is. apart (reads_blocks d) ((reads-decides d).1 is) e), refl);
      only = λ other is. elim is [
        | inl told ↦ absurd (apart (reads_blocks d) ((reads-decides d).1 told.0) e)
        | inr none ↦ none.1
      ];
    }

-- ---- the order of a definition's items

not-says : (b : Bool) → not b ≡ true → b ≡ false
not-says true e = cc
not-says false e = refl

says-not : (b : Bool) → b ≡ false → not b ≡ true
says-not true e = cc
says-not false e = refl

item-says : (b : BlockView) → begins_otherwise b ≡ true → (item : Item) → slice_get (items_of b.items) 0 ≡ Some item
    → is_of_kind IMAGE_TYPE item ≡ false
item-says b e item at =
    ap (λ o. option_map_or (is_of_kind IMAGE_TYPE) o false) (sym at)
    ∙ not-says (option_map_or (is_of_kind IMAGE_TYPE) (slice_get (items_of b.items) 0) false) e

says-item : (b : BlockView)
    → ((item : Item) → slice_get (items_of b.items) 0 ≡ Some item → is_of_kind IMAGE_TYPE item ≡ false)
    → begins_otherwise b ≡ true
says-item b never = go (slice_get (items_of b.items) 0) refl
  where
    go : (o : Option Item) → slice_get (items_of b.items) 0 ≡ o → not (option_map_or (is_of_kind IMAGE_TYPE) o false)
        ≡ true
    go None at = refl
    go (Some item) at = says-not (is_of_kind IMAGE_TYPE item) (never item at)

pub order-decides : (c : Content) (cpu : Cpu) (w : Window)
    → Decides (option_map_or begins_otherwise (definition_in cpu (window_bytes c w)) false) (BeginsOtherwise c cpu w)
order-decides c cpu w = (to (loop_of (window_bytes c w)) refl, from)
  where
    by : (loop : List BlockView) → loop_of (window_bytes c w) ≡ Ok loop → (o : Option BlockView)
        → last_suiting cpu loop ≡ o → option_map_or begins_otherwise o false ≡ true → BeginsOtherwise c cpu w
    by loop closes None is e = cc
    by loop closes (Some b) is e = record {
      loop = loop;
      block = b;
      closes = IsLoop-from_answer (window_bytes c w) loop closes;
      defines = last-found (does_suit cpu) loop b is;
      order = item-says b e;
    }

    to : (r : Result (List BlockView) LoopFault) → loop_of (window_bytes c w) ≡ r
        → option_map_or begins_otherwise (option_and_then (last_suiting cpu) (result_ok r)) false ≡ true
        → BeginsOtherwise c cpu w
    to (Ok loop) closes e = by loop closes (last_suiting cpu loop) refl e
    to (Err fault) closes e = cc

    from : BeginsOtherwise c cpu w
        → option_map_or begins_otherwise (definition_in cpu (window_bytes c w)) false ≡ true
    from is =
        ap (λ (r : Result (List BlockView) LoopFault).
        option_map_or begins_otherwise (option_and_then (last_suiting cpu) (result_ok r)) false)
        (loop_of-loop (window_bytes c w) is.loop is.closes)
        ∙ (ap (λ o. option_map_or begins_otherwise o false) (found-last (does_suit cpu) is.loop is.block is.defines)
        ∙ says-item is.block is.order)

pub orders-just : (c : Content) (cpu : Cpu) (looks : List UnitReport)
    → IsJust (AreItemOrders c cpu looks) (filter_map (item_order c cpu) (looked_windows looks))
orders-just c cpu looks =
    each-one-just (λ w. IsWhere (BeginsOtherwise c cpu w) (ItemOrder w)) (item_order c cpu)
    (λ w. where-just _ _ _ (order-decides c cpu w)) (looked_windows looks)

-- ---- images that fail a rule by which the chip may not judge

either : (a b : Bool) → (a || b) ≡ true → (a ≡ true) ⊎ (b ≡ true)
either true b e = inl refl
either false true e = inr refl
either false false e = cc

pub doubt-says : (why : Why) → is_doubtful why ≡ true → IsDoubtful why
doubt-says NoBlock e = cc
doubt-says (Loop fault) e = cc
doubt-says NoDefinition e = cc
doubt-says NotForProcessor e = cc
doubt-says (Items (Repeated kind)) e = cc
doubt-says (Items (BadItem kind)) e =
    elim (either (kind == HASH_DEF) (kind == HASH_VALUE || kind == VERSION) e) [
      | inl one ↦ subst (λ k. IsDoubtful (Items (BadItem k))) (sym (eqb-true kind HASH_DEF one)) bad_hash_def
      | inr later ↦ elim (either (kind == HASH_VALUE) (kind == VERSION) later) [
        | inl two ↦ subst (λ k. IsDoubtful (Items (BadItem k))) (sym (eqb-true kind HASH_VALUE two)) bad_hash_value
        | inr three ↦ subst (λ k. IsDoubtful (Items (BadItem k))) (sym (eqb-true kind VERSION three)) bad_version
      ]
    ]
doubt-says (Items (BadRow row)) e = bad_row row
doubt-says (Items (RepeatedRow row)) e = repeated_row row
doubt-says Trial e = cc
doubt-says RollbackRequired e = cc
doubt-says (Below version count) e = cc
doubt-says (Map (Storage i)) e = cc
doubt-says (Map (Runtime i)) e = runtime i
doubt-says (Map (CoversBlock i)) e = covers_block i
doubt-says (Entry fault) e = entry fault
doubt-says Digest e = cc
doubt-says Delta e = delta

pub says-doubt : (why : Why) → IsDoubtful why → is_doubtful why ≡ true
says-doubt _ (bad_row row) = refl
says-doubt _ (repeated_row row) = refl
says-doubt _ bad_version = refl
says-doubt _ (covers_block i) = refl
says-doubt _ (runtime i) = refl
says-doubt _ bad_hash_def = refl
says-doubt _ bad_hash_value = refl
says-doubt _ (entry fault) = refl
says-doubt _ delta = refl

module _ (c : Content) (cpu : Cpu) (kind : BootKind) where
  abbrev MayStartBy : Window → Why → Type 0
  MayStartBy w why = IsDoubtful why ⊎ (IsRollback why × StartsUnread c cpu kind w)

  abbrev may_by : Window → Why → Bool
  may_by w why = is_doubtful why || (is_rollback why && is_at (unread_window c cpu kind) w)

  by-decides : (w : Window) (why : Why) → Decides (may_by w why) (MayStartBy w why)
  by-decides w why =
      or-decides _ _ _ _ (doubt-says why, says-doubt why)
      (and-decides _ _ _ _ (rolled-decides why) (unread-decides c cpu kind w))

  may-just : (w : Window) (image : Result Started Why)
      → IsJust (IsMayStart c cpu kind w image) (option_to_list (may_start (unread_window c cpu kind) w image))
  may-just w (Ok s) =
      one-just (λ why. (Ok s ≡ Err why) × MayStartBy w why) (MayStart w) None (λ caveat e. cc)
      (λ why is. absurd (apart s why is.0))
    where
      apart : (s : Started) (why : Why) → (let r : Result Started Why = Ok s in r ≡ Err why) → ⊥
      apart s why e = cc
  may-just w (Err y) =
      one-just (λ why. (Err y ≡ Err why) × MayStartBy w why) (MayStart w) (caveat_if (may_by w y) (MayStart w y))
      (to (may_by w y) refl)
      (λ why is. from why is.0 (may_by w y)
      ((by-decides w y).1 (subst (MayStartBy w) (sym (same-why y why is.0)) is.1)))
    where
      same-why : (a b : Why) → (let r : Result Started Why = Err a in r ≡ Err b) → a ≡ b
      same-why a b e = cc

      to : (b : Bool) → may_by w y ≡ b → (caveat : Caveat) → caveat_if b (MayStart w y) ≡ Some caveat
          → (why : Why) × ((let r : Result Started Why = Err y in r ≡ Err why) × MayStartBy w why)
          × (caveat ≡ MayStart w why)
      to true is caveat e = (y, (refl, (by-decides w y).0 is), sym (same_Some _ _ e))
      to false is caveat e = cc

      from : (why : Why) → (let r : Result Started Why = Err y in r ≡ Err why) → (b : Bool) → b ≡ true
          → caveat_if b (MayStart w y) ≡ Some (MayStart w why)
      from why same true e = ap (λ x. Some (MayStart w x)) (same-why y why same)
      from why same false e = cc

  second-just : (o : Option Window) (image : Option (Result Started Why))
      → IsJust (IsSecondMayStart c cpu kind o image)
      (option_to_list (second_may_start (unread_window c cpu kind) o image))
  second-just None image = record { right = refl; only = λ other is. is }
  second-just (Some w) None = record { right = refl; only = λ other is. is }
  second-just (Some w) (Some image) = may-just w image

  pub starts-just : (looks : List UnitReport)
      → IsJust (AreMayStarts c cpu kind looks) (flat_map (look_may_start (unread_window c cpu kind)) looks)
  starts-just looks =
      each-just _ (look_may_start (unread_window c cpu kind))
      (λ (look : UnitReport). both-just _ _ (may-just look.unit.a look.first)
      (second-just look.unit.b look.second)) looks

-- ---- owned partitions

parts-of : (a b : Bool) → (a && b) ≡ true → (a ≡ true) × (b ≡ true)
parts-of true true e = (refl, refl)
parts-of true false e = cc
parts-of false b e = cc

both : (a b : Bool) → a ≡ true → b ≡ true → (a && b) ≡ true
both true true e f = refl
both true false e f = cc
both false b e f = cc

pub owned-just : (c : Content) (cpu : Cpu) (table : Option Table)
    → IsJust (AreOwnedImages c cpu table) (owned_images c cpu table)
owned-just c cpu None = no-parts (IsOwnedImage c cpu)
owned-just c cpu (Some t) =
    parts-just (IsOwnedImage c cpu) (owned_image c cpu)
    (λ parts i. where-just _ _ _ (decides parts i)) t
  where
    decides : (parts : List Partition) (i : ℕ)
        → Decides (is_owned (part_at parts i) && has_normal_image c cpu (part_window (part_at parts i)))
        ((is_owned (part_at parts i) ≡ true) × ((s : Started) × Valid c (part_window (part_at parts i)) cpu false s))
    decides parts i = (
      λ e. (let two = parts-of _ _ e in
          (two.0, (normal-decides c cpu (part_window (part_at parts i))).0 two.1)),
      λ is. both _ _ is.0 ((normal-decides c cpu (part_window (part_at parts i))).1 is.1),
    )
