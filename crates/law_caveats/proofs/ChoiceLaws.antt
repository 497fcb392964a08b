-- No caveat, no doubt: ties, and updates that move a unit.
use Rattle.std.proofs.Common.{◌≡◌, ◌≢◌, ℕ, zero, suc, ◌-◌, nat_le, Bool, true, false, ◌||◌, cond, if◌then◌else◌, List, [], ◌∷◌, length, slice_get, position, Option, Some, None, is_some, option_map, option_and_then, refl, sym, ap, ◌∙◌, subst, inl, inr, arith}
use Rattle.std.specs.Prelude.{Contains, find, option_to_list}
use Rattle.std.specs.Option.{option_map_or, option_or}
use Rattle.std.specs.Result.{result_ok}
use Rattle.std.proofs.lemmas.Option.{same_Some}
use Rattle.std.proofs.lemmas.List.Elements.{Contains-append_left, Contains-append_right}
use Rattle.pico_board.specs.declared.boot.Cpu.{Cpu}
use Rattle.pico_board.specs.declared.boot.BootKind.{BootKind}
use Rattle.pico_board.specs.declared.boot.BootKind.TheVariants.{Normal, Update, Bootsel as AskBootsel}
use Rattle.pico_board.specs.declared.window.Window.{Window}
use Rattle.pico_board.specs.Content.{Content, flash_base}
use Rattle.image_def.specs.declared.started.Started.{Started}
use Rattle.image_check.specs.Image.{image_at}
use Rattle.otp_roll.specs.Flags.{slot_size}
use Rattle.part_table.specs.declared.table.Table.{Table}
use Rattle.part_table.proofs.TestLemmas.{search_of}
use Rattle.slot_choice.specs.declared.unit.Member.{Member}
use Rattle.slot_choice.specs.declared.unit.Member.TheVariants.{A, B}
use Rattle.slot_choice.specs.declared.unit.SlotUnit.{SlotUnit}
use Rattle.slot_choice.specs.declared.choice.Choice.{Choice}
use Rattle.slot_choice.specs.Units.{tableless_unit, units}
use Rattle.slot_choice.specs.Updates.{has_member_at, member_at, moved_to_front}
use Rattle.slot_choice.specs.Versions.{better, is_below}
use Rattle.slot_choice.proofs.PlaceLemmas.{boot_unit}
use Rattle.slot_choice.proofs.VersionLemmas.{first_of_two, irreflexive, transitive}
use Rattle.boot_rules.specs.Choosing.{boot_units_in, choose, images_in, of_better, order_of, ordered_choice, unit_choice, version_of_image}
use Rattle.boot_rules.specs.Chosen.{Chosen}
use Rattle.boot_rules.specs.Tables.{table_of_content}
use Rattle.boot_reasons.specs.declared.looks.UnitReport.{UnitReport}
use Rattle.boot_reasons.specs.declared.looks.UnitReason.TheVariants.{Version as Greater, Tie as IsTied}
use Rattle.boot_reasons.specs.Looks.{better_image, image_reason, report_on, reports_of, taken_image, taken_of, taken_of_pair}
use Rattle.boot_reasons.specs.Reasons.{reasons_in, reports_in, results_in}
use Rattle.boot_reasons.proofs.LookLemmas.{choice-of-unit, second-counted, takes-choice}
use Rattle.slot_caveats.specs.declared.caveat.Caveat.{Caveat}
use Rattle.slot_caveats.specs.declared.caveat.Caveat.TheVariants.{Tie, UpdateMovesUnit}
use Rattle.boot_caveats.specs.Caveats.{choice_caveats}
use Rattle.boot_caveats.specs.Rules.{AreCaveats}
use Rattle.boot_caveats.specs.ChoiceCaveats.{first_tie, moved_by, moved_part, slot_images, takes_image, tie_of, tied_in, update_moves, update_of_slot}
use Rattle.boot_caveats.specs.ProcessorCaveats.{looked_members, other_processors, updated_in}
use Rattle.law_caveats.specs.Alternatives.{better_last, choose_last, choose_unmoved, decision_last, decision_unmoved, ordered_choice_last, unit_choice_last, unmoved_from}
use Rattle.boot_caveats.proofs.CaveatLemmas.{caveats-only}
use Rattle.boot_caveats.proofs.ChoiceCaveatLemmas.{says-moved, tied-says}
use Rattle.law_caveats.proofs.DoubtLemmas.{contains-one, in-choice, reports-when, same-chosen}

-- ---- ties

apart : (b : Bool) → b ≡ true → b ≡ false → ⊥
apart b e f = cc

-- no two images of one version
abbrev IsUntied : Option Started → Option Started → Type 0
IsUntied a b = (s t : Started) → a ≡ Some s → b ≡ Some t → is_below s.version t.version ≡ false
    → is_below t.version s.version ≡ false → ⊥

last-same : (u : SlotUnit) (a b : Option Started) → IsUntied a b
    → of_better u (better_last (version_of_image a) (version_of_image b)) a b
    ≡ of_better u (better (version_of_image a) (version_of_image b)) a b
last-same u None None untied = refl
last-same u None (Some t) untied = refl
last-same u (Some s) None untied = refl
last-same u (Some s) (Some t) untied =
    ap (λ m. of_better u (Some m) (Some s) (Some t))
    (go (is_below s.version t.version) (is_below t.version s.version) refl refl)
  where
    go : (lower higher : Bool) → is_below s.version t.version ≡ lower → is_below t.version s.version ≡ higher
        → (if higher then A else B) ≡ (if lower then B else A)
    go true true l h =
        absurd (apart (is_below s.version s.version) (transitive s.version t.version s.version l h)
        (irreflexive s.version))
    go true false l h = refl
    go false true l h = refl
    go false false l h = absurd (untied s t refl refl l h)

none-last : (u : SlotUnit) (a b : Option Started)
    → of_better u (better (version_of_image a) (version_of_image b)) a b ≡ None
    → of_better u (better_last (version_of_image a) (version_of_image b)) a b ≡ None
none-last u None None e = refl
none-last u None (Some t) e = cc
none-last u (Some s) None e = cc
none-last u (Some s) (Some t) e = absurd (go (is_below s.version t.version) e)
  where
    go : (lower : Bool) → of_better u (Some (if lower then B else A)) (Some s) (Some t) ≡ None → ⊥
    go true h = cc
    go false h = cc

module _ (c : Content) (cpu : Cpu) where
  -- a unit without a tie
  untied-unit : (u : SlotUnit) (updated : Option Member)
      → tie_of (report_on (results_in c cpu) u updated) ≡ None
      → unit_choice_last (images_in c cpu) u updated ≡ unit_choice (images_in c cpu) u updated
  untied-unit u (Some m) none = refl
  untied-unit u None none =
      last-same u (images_in c cpu u.a false) (option_and_then (λ w. images_in c cpu w false) u.b) untied
    where
      tied : (s t : Started) → is_below s.version t.version ≡ false → is_below t.version s.version ≡ false
          → better_image (Some s) (Some t) ≡ taken_image A IsTied s
      tied s t l h =
          ap (λ m. taken_of_pair m (image_reason s.version t.version) s t) ((first_of_two s.version t.version).1 l)
          ∙ ap (λ b. taken_image A (if b then Greater else IsTied) s)
          (ap (λ b. b || is_below t.version s.version) l ∙ h)

      pair : (o : Option Window) → u.b ≡ o → (t : Started)
          → option_and_then (λ w. images_in c cpu w false) o ≡ Some t → (w : Window) × (u.b ≡ Some w)
      pair None e t has = cc
      pair (Some w) e t has = (w, e)

      some-none : (o : Option Caveat) (x : Caveat) → o ≡ None → o ≡ Some x → ⊥
      some-none o x e f = cc

      untied : IsUntied (images_in c cpu u.a false) (option_and_then (λ w. images_in c cpu w false) u.b)
      untied s t a b l h =
          let p = pair u.b refl t b in
          let taken : (report_on (results_in c cpu) u None).taken ≡ taken_image A IsTied s =
          ap (taken_of None (result_ok (image_at c u.a cpu false))) (second-counted c cpu u None u.b ∙ b)
          ∙ (ap (λ x. better_image x (Some t)) a ∙ tied s t l h) in
          some-none (tie_of (report_on (results_in c cpu) u None)) (Tie s.window p.0) none
          (ap (λ o. tied_in o (report_on (results_in c cpu) u None).taken) p.1 ∙ ap (tied_in (Some p.0)) taken)

  untied-choice : (us : List SlotUnit) (updated : Option Member)
      → first_tie (reports_of (results_in c cpu) us updated) ≡ None
      → ordered_choice_last (images_in c cpu) us updated ≡ ordered_choice (images_in c cpu) us updated
  untied-choice [] updated none = refl
  untied-choice (u ∷ us) updated none =
      go (is_some (report_on (results_in c cpu) u updated).taken) refl none (λ h. untied-choice us None h)
    where
      taking : is_some (report_on (results_in c cpu) u updated).taken
          ≡ is_some (unit_choice (images_in c cpu) u updated)
      taking =
          takes-choice u updated (report_on (results_in c cpu) u updated).first
          (report_on (results_in c cpu) u updated).second
          ∙ ap is_some (choice-of-unit c cpu u updated)

      chosen : (o p x y : Option Choice) → o ≡ p → is_some p ≡ true → option_or o x ≡ option_or p y
      chosen o None x y e some = cc
      chosen o (Some z) x y e some = ap (λ q. option_or q x) e

      passed : (o p x y : Option Choice) → o ≡ None → p ≡ None → x ≡ y → option_or o x ≡ option_or p y
      passed o p x y e f same = ap (λ q. option_or q x) e ∙ (same ∙ sym (ap (λ q. option_or q y) f))

      is-none : (o : Option Choice) → is_some o ≡ false → o ≡ None
      is-none None e = refl
      is-none (Some z) e = cc

      last-none : (updated : Option Member) → unit_choice (images_in c cpu) u updated ≡ None
          → unit_choice_last (images_in c cpu) u updated ≡ None
      last-none None e =
          none-last u (images_in c cpu u.a false) (option_and_then (λ w. images_in c cpu w false) u.b) e
      last-none (Some m) e = e

      go : (takes : Bool) → is_some (report_on (results_in c cpu) u updated).taken ≡ takes
          → option_and_then tie_of (cond (is_some (report_on (results_in c cpu) u updated).taken)
          (Some (report_on (results_in c cpu) u updated))
          (find takes_image (cond (is_some (report_on (results_in c cpu) u updated).taken) []
          (reports_of (results_in c cpu) us None)))) ≡ None
          → (first_tie (reports_of (results_in c cpu) us None) ≡ None
          → ordered_choice_last (images_in c cpu) us None ≡ ordered_choice (images_in c cpu) us None)
          → option_or (unit_choice_last (images_in c cpu) u updated) (ordered_choice_last (images_in c cpu) us None)
          ≡ option_or (unit_choice (images_in c cpu) u updated) (ordered_choice (images_in c cpu) us None)
      go true is untied more =
          chosen (unit_choice_last (images_in c cpu) u updated) (unit_choice (images_in c cpu) u updated) _ _
          (untied-unit u updated (sym (ap (λ b. option_and_then tie_of (cond b
          (Some (report_on (results_in c cpu) u updated))
          (find takes_image (cond b [] (reports_of (results_in c cpu) us None))))) is) ∙ untied))
          (sym taking ∙ is)
      go false is untied more =
          let none : unit_choice (images_in c cpu) u updated ≡ None =
          is-none (unit_choice (images_in c cpu) u updated) (sym taking ∙ is) in
          passed (unit_choice_last (images_in c cpu) u updated) (unit_choice (images_in c cpu) u updated) _ _
          (last-none updated none) none
          (more (sym (ap (λ b. option_and_then tie_of (cond b
          (Some (report_on (results_in c cpu) u updated))
          (find takes_image (cond b [] (reports_of (results_in c cpu) us None))))) is) ∙ untied))

-- ---- updates

-- a unit of a content that is not the first one is of a partition
of-part : (t : Option Table) (n z : ℕ) (cpu : Cpu) (k : ℕ) (u : SlotUnit) → k ≢ 0
    → slice_get (units t n z cpu) k ≡ Some u → (part : ℕ) × (u.a_part ≡ Some part)
of-part None n z cpu zero u some at = absurd (some refl)
of-part None n z cpu (suc k) u some at = absurd (nowhere k u at)
  where
    nowhere : (k : ℕ) (u : SlotUnit) → slice_get (tableless_unit n z ∷ []) (suc k) ≡ Some u → ⊥
    nowhere k u e = cc
of-part (Some t) n z cpu k u some at =
    let b = boot_unit t n z cpu k u at in (b.0, ap (λ (v : SlotUnit). v.a_part) b.1.unit)

module _ (images : Window → Bool → Option Started) (start : ℕ) where
  unmoved-none : (us : List SlotUnit)
      → ((k : ℕ) (u : SlotUnit) → slice_get us k ≡ Some u → has_member_at start u ≡ false)
      → unmoved_from images start us ≡ ordered_choice images us None
  unmoved-none [] fails = refl
  unmoved-none (u ∷ us) fails =
      ap (λ b. cond b
      (option_or (unit_choice images u (member_at start u)) (ordered_choice images us None))
      (option_or (unit_choice images u None) (unmoved_from images start us))) (fails 0 u refl)
      ∙ ap (λ o. option_or (unit_choice images u None) o) (unmoved-none us (λ k v at. fails (suc k) v at))

  unmoved-first : (us : List SlotUnit) (u : SlotUnit) → slice_get us 0 ≡ Some u → has_member_at start u ≡ true
      → unmoved_from images start us ≡ ordered_choice images (moved_to_front us 0) (member_at start u)
  unmoved-first [] u at is = cc
  unmoved-first (v ∷ vs) u at is =
      let same : v ≡ u = same_Some v u at in
      ap (λ b. cond b
      (option_or (unit_choice images v (member_at start v)) (ordered_choice images vs None))
      (option_or (unit_choice images v None) (unmoved_from images start vs))) (ap (has_member_at start) same ∙ is)
      ∙ (ap (λ (x : SlotUnit). option_or (unit_choice images v (member_at start x)) (ordered_choice images vs None))
      same
      ∙ ap (λ xs. ordered_choice images xs (member_at start u)) (sym (front v vs)))
    where
      front : (v : SlotUnit) (vs : List SlotUnit) → moved_to_front (v ∷ vs) 0 ≡ v ∷ vs
      front v vs = refl

-- an update that moves no unit
unmoved : (c : Content) (cpu : Cpu) (base : ℕ) → ((part : ℕ) → moved_by (boot_units_in c cpu) base ≡ Some part → ⊥)
    → choose_unmoved (images_in c cpu) (Update base) (boot_units_in c cpu)
    ≡ choose (images_in c cpu) (order_of (Update base) (boot_units_in c cpu))
unmoved c cpu base stays = go (nat_le flash_base base) refl
  where
    go : (b : Bool) → nat_le flash_base base ≡ b
        → cond b (unmoved_from (images_in c cpu) (base - flash_base) (boot_units_in c cpu))
        (ordered_choice (images_in c cpu) (boot_units_in c cpu) None)
        ≡ ordered_choice (images_in c cpu)
        (cond b (option_map_or (moved_to_front (boot_units_in c cpu))
        (position (has_member_at (base - flash_base)) (boot_units_in c cpu)) (boot_units_in c cpu))
        (boot_units_in c cpu))
        (cond b (option_and_then (member_at (base - flash_base))
        (find (has_member_at (base - flash_base)) (boot_units_in c cpu))) None)
    go false above = refl
    go true above =
        elim (search_of (has_member_at (base - flash_base)) (boot_units_in c cpu)) [
          | inl absent ↦ unmoved-none (images_in c cpu) (base - flash_base) (boot_units_in c cpu) absent.fails
              ∙ (ap (λ o. ordered_choice (images_in c cpu)
              (option_map_or (moved_to_front (boot_units_in c cpu)) o (boot_units_in c cpu)) None)
              (sym absent.placeless)
              ∙ ap (λ o. ordered_choice (images_in c cpu) (option_map_or (moved_to_front (boot_units_in c cpu))
              (position (has_member_at (base - flash_base)) (boot_units_in c cpu)) (boot_units_in c cpu))
              (option_and_then (member_at (base - flash_base)) o)) (sym absent.unfound))
          | inr found ↦ by found.0 found.1 found.2.place found.2.sought found.2.at found.2.passes
        ]
      where
        moves : (k part : ℕ) → position (has_member_at (base - flash_base)) (boot_units_in c cpu) ≡ Some k
            → moved_part (boot_units_in c cpu) k ≡ Some part → moved_by (boot_units_in c cpu) base ≡ Some part
        moves k part place moved =
            ap (λ b. cond b (option_and_then (moved_part (boot_units_in c cpu))
            (position (has_member_at (base - flash_base)) (boot_units_in c cpu))) None) above
            ∙ (ap (option_and_then (moved_part (boot_units_in c cpu))) place ∙ moved)

        by : (k : ℕ) (u : SlotUnit)
            → position (has_member_at (base - flash_base)) (boot_units_in c cpu) ≡ Some k
            → find (has_member_at (base - flash_base)) (boot_units_in c cpu) ≡ Some u
            → slice_get (boot_units_in c cpu) k ≡ Some u → has_member_at (base - flash_base) u ≡ true
            → unmoved_from (images_in c cpu) (base - flash_base) (boot_units_in c cpu)
            ≡ ordered_choice (images_in c cpu) (option_map_or (moved_to_front (boot_units_in c cpu))
            (position (has_member_at (base - flash_base)) (boot_units_in c cpu)) (boot_units_in c cpu))
            (option_and_then (member_at (base - flash_base))
            (find (has_member_at (base - flash_base)) (boot_units_in c cpu)))
        by zero u place sought at passes =
            unmoved-first (images_in c cpu) (base - flash_base) (boot_units_in c cpu) u at passes
            ∙ (ap (λ o. ordered_choice (images_in c cpu)
            (option_map_or (moved_to_front (boot_units_in c cpu)) o (boot_units_in c cpu))
            (member_at (base - flash_base) u)) (sym place)
            ∙ ap (λ o. ordered_choice (images_in c cpu) (option_map_or (moved_to_front (boot_units_in c cpu))
            (position (has_member_at (base - flash_base)) (boot_units_in c cpu)) (boot_units_in c cpu))
            (option_and_then (member_at (base - flash_base)) o)) (sym sought))
        by (suc k) u place sought at passes =
            let some : suc k ≢ 0 = (λ e. absurd (omega (arith, e))) in
            let part = of-part (table_of_content c) (length c.flash) (slot_size c.otp (length c.flash)) cpu (suc k) u
            some at in
            absurd (stays part.0 (moves (suc k) part.0 place
            (says-moved (boot_units_in c cpu) (suc k) part.0 u some at part.1)))

module _ (c : Content) (cpu : Cpu) (kind : BootKind) (list : List Caveat) (are : AreCaveats c cpu kind list) where
  listed : (x : Caveat) → Contains (choice_caveats c cpu kind (reasons_in c cpu kind)) x → Contains list x
  listed x is =
      subst (λ (xs : List Caveat). Contains xs x) (sym (caveats-only c cpu kind list are)) (in-choice c cpu kind x is)

  pub tie-doubt : ((w v : Window) → Contains list (Tie w v) → ⊥) → Chosen c cpu kind (decision_last c cpu kind)
  unfolding reasons_in
  tie-doubt never =
      same-chosen c cpu kind (choose_last (images_in c cpu) (order_of kind (boot_units_in c cpu))) (λ does.
      untied-choice c cpu (order_of kind (boot_units_in c cpu)).units (order_of kind (boot_units_in c cpu)).updated
      (sym (ap first_tie (reports-when c cpu kind does)) ∙ none (first_tie (reports_in c cpu kind)) refl))
    where
      none : (o : Option Caveat) → first_tie (reports_in c cpu kind) ≡ o → o ≡ None
      none None e = refl
      none (Some x) e = absurd (by (find takes_image (reports_in c cpu kind)) e)
        where
          by : (o : Option UnitReport) → option_and_then tie_of o ≡ Some x → ⊥
          by None same = cc
          by (Some look) same =
              let t = tied-says look.unit.b look.taken x same in
              never t.1.window t.0 (subst (λ (y : Caveat). Contains list y) t.5
              (listed x (Contains-append_right
              (other_processors c cpu kind (reasons_in c cpu kind).decision
              (looked_members (reasons_in c cpu kind).looks.items (updated_in c cpu kind))) _ x
              (Contains-append_right (slot_images c cpu (reasons_in c cpu kind).decision
              (reasons_in c cpu kind).size (reasons_in c cpu kind).table) _ x
              (Contains-append_left _ _ x (contains-one _ x e))))))

  pub update-doubt : ((part : ℕ) → Contains list (UpdateMovesUnit part) → ⊥)
      → Chosen c cpu kind (decision_unmoved c cpu kind)
  update-doubt never =
      same-chosen c cpu kind (choose_unmoved (images_in c cpu) kind (boot_units_in c cpu))
      (λ does. by-kind kind (λ part e. never part (listed (UpdateMovesUnit part) (there part e))))
    where
      there : (part : ℕ) → update_moves kind (boot_units_in c cpu) ≡ Some (UpdateMovesUnit part)
          → Contains (choice_caveats c cpu kind (reasons_in c cpu kind)) (UpdateMovesUnit part)
      there part e =
          Contains-append_right
          (other_processors c cpu kind (reasons_in c cpu kind).decision
          (looked_members (reasons_in c cpu kind).looks.items (updated_in c cpu kind))) _ _
          (Contains-append_right (slot_images c cpu (reasons_in c cpu kind).decision
          (reasons_in c cpu kind).size (reasons_in c cpu kind).table) _ _
          (Contains-append_right (option_to_list (first_tie (reasons_in c cpu kind).looks.items)) _ _
          (Contains-append_right (option_to_list
          (update_of_slot kind (reasons_in c cpu kind).size (reasons_in c cpu kind).table)) _ _
          (Contains-append_left _ _ _ (contains-one _ _ e)))))

      by-kind : (kind : BootKind)
          → ((part : ℕ) → update_moves kind (boot_units_in c cpu) ≡ Some (UpdateMovesUnit part) → ⊥)
          → choose_unmoved (images_in c cpu) kind (boot_units_in c cpu)
          ≡ choose (images_in c cpu) (order_of kind (boot_units_in c cpu))
      by-kind Normal stays = refl
      by-kind AskBootsel stays = refl
      by-kind (Update base) stays =
          unmoved c cpu base (λ part e. stays part (ap (λ o. option_map UpdateMovesUnit o) e))
