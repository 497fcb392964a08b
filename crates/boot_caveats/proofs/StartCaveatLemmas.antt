-- What is to be looked up of the image that a boot starts, by the functions and in the words of the rules.
use Rattle.std.proofs.Common.{◌≡◌, ℕ, ◌*◌, not, Bool, true, false, List, [], ◌∷◌, ◌++◌, length, Option, Some, None, Result, Ok, Err, option_map, option_and_then, refl, sym, ap, ◌∙◌, subst}
use Rattle.std.specs.Prelude.{find, option_to_list}
use Rattle.std.specs.Bool.{Decides}
use Rattle.std.specs.List.{AllByRecursion}
use Rattle.std.specs.Result.{result_ok}
use Rattle.std.proofs.lemmas.Bool.{eqb-true, eq-eqb}
use Rattle.std.proofs.lemmas.Option.{same_Some}
use Rattle.pico_board.specs.declared.window.Window.{Window}
use Rattle.pico_board.specs.Content.{Content, window_bytes}
use Rattle.block_codec.specs.Blocks.{BlockView}
use Rattle.block_loop.specs.Loop.{loop_of}
use Rattle.block_loop.specs.declared.fault.LoopFault.{LoopFault}
use Rattle.block_loop.proofs.ChainLemmas.{loop_of-loop}
use Rattle.block_loop.proofs.SameLoopLemmas.{IsLoop-from_answer}
use Rattle.image_def.specs.declared.started.Started.{Started}
use Rattle.otp_roll.specs.Rows.{majority}
use Rattle.part_table.specs.TableOf.{has_table}
use Rattle.slot_choice.specs.declared.choice.Choice.{Choice}
use Rattle.boot_rules.specs.declared.decision.Decision.{Decision}
use Rattle.boot_rules.specs.declared.decision.Decision.TheVariants.{Start, Bootsel}
use Rattle.boot_rules.specs.declared.decision.Fall.{Fall}
use Rattle.slot_caveats.specs.declared.caveat.Caveat.{Caveat}
use Rattle.slot_caveats.specs.declared.caveat.Caveat.TheVariants.{TableInImage, RollbackRows, RollbackFull, RollbackGap}
use Rattle.slot_caveats.specs.Listing.{caveat_if}
use Rattle.boot_caveats.specs.StartCaveats.{has_gap, is_filled, is_full, row_caveats, started_rows, table_in_image, table_place}
use Rattle.boot_caveats.specs.ChoiceRules.{StartsIn}
use Rattle.boot_caveats.specs.StartRules.{AreRowCaveats, HasTableAt, IsFilled, IsFirstGap, IsRollbackFull, IsRollbackGap, IsRollbackRows, IsTableInImage, StartsWithRows}
use Rattle.boot_caveats.proofs.FilledLemmas.{filled-decides}
use Rattle.slot_caveats.proofs.ListingLemmas.{IsJust, both-just, first-found, found-first, one-just}

start-same : (a b : Choice) → Start a ≡ Start b → a ≡ b
start-same a b e = cc

fall-start : (fall : Fall) (b : Choice) → Bootsel fall ≡ Start b → ⊥
fall-start fall b e = cc

-- ---- a table in the loop of the image

place-says : (bytes : List ℕ) (at : ℕ) → table_place bytes ≡ Some at → HasTableAt bytes at
place-says bytes at e = go (loop_of bytes) refl e
  where
    by : (loop : List BlockView) → loop_of bytes ≡ Ok loop → (o : Option BlockView) → find has_table loop ≡ o
        → option_map (λ (b : BlockView). b.at) o ≡ Some at → HasTableAt bytes at
    by loop closes None is same = cc
    by loop closes (Some b) is same = record {
      loop = loop;
      block = b;
      closes = IsLoop-from_answer bytes loop closes;
      first = first-found has_table loop b is;
      place = same_Some b.at at same;
    }

    go : (r : Result (List BlockView) LoopFault) → loop_of bytes ≡ r
        → option_map (λ (b : BlockView). b.at) (option_and_then (find has_table) (result_ok r)) ≡ Some at
        → HasTableAt bytes at
    go (Ok loop) closes same = by loop closes (find has_table loop) refl same
    go (Err fault) closes same = cc

says-place : (bytes : List ℕ) (at : ℕ) → HasTableAt bytes at → table_place bytes ≡ Some at
says-place bytes at is =
    ap (λ (r : Result (List BlockView) LoopFault).
    option_map (λ (b : BlockView). b.at) (option_and_then (find has_table) (result_ok r)))
    (loop_of-loop bytes is.loop is.closes)
    ∙ (ap (option_map (λ (b : BlockView). b.at)) (found-first has_table is.loop is.block is.first) ∙ ap Some is.place)

pub table-just : (c : Content) (d : Decision) → IsJust (IsTableInImage c d) (option_to_list (table_in_image c d))
table-just c (Bootsel fall) =
    one-just (λ (place : Window × ℕ). StartsIn (Bootsel fall) place.0 × HasTableAt (window_bytes c place.0) place.1)
    (λ place. TableInImage place.0 place.1) None (λ caveat e. cc) (λ place is. absurd (fall-start fall is.0.0 is.0.1))
table-just c (Start choice) =
    one-just (λ (place : Window × ℕ). StartsIn (Start choice) place.0 × HasTableAt (window_bytes c place.0) place.1)
    (λ place. TableInImage place.0 place.1)
    (option_map (TableInImage w) (table_place (window_bytes c w))) (to (table_place (window_bytes c w)) refl)
    (λ place is. from place.0 place.1 is.0 is.1)
  where
    w : Window
    w = choice.image.window

    to : (o : Option ℕ) → table_place (window_bytes c choice.image.window) ≡ o → (caveat : Caveat)
        → option_map (TableInImage choice.image.window) o ≡ Some caveat
        → (place : Window × ℕ) × (StartsIn (Start choice) place.0 × HasTableAt (window_bytes c place.0) place.1)
        × (caveat ≡ TableInImage place.0 place.1)
    to None is caveat e = cc
    to (Some at) is caveat e = (
      (choice.image.window, at),
      ((choice, refl, refl), place-says (window_bytes c choice.image.window) at is),
      sym (same_Some _ _ e),
    )

    from : (v : Window) (at : ℕ) → StartsIn (Start choice) v → HasTableAt (window_bytes c v) at
        → option_map (TableInImage choice.image.window) (table_place (window_bytes c choice.image.window))
        ≡ Some (TableInImage v at)
    from v at starts is =
        let same : v ≡ choice.image.window =
        sym starts.2 ∙ ap (λ (x : Choice). x.image.window) (sym (start-same choice starts.0 starts.1)) in
        subst (λ (x : Window). option_map (TableInImage x) (table_place (window_bytes c x))
        ≡ Some (TableInImage v at)) same
        (ap (option_map (TableInImage v)) (says-place (window_bytes c v) at is))

-- ---- rollback rows

not-is : (b : Bool) → (b ≡ true → ⊥) → not b ≡ true
not-is true never = absurd (never refl)
not-is false never = refl

not-true : (b : Bool) → not b ≡ true → b ≡ true → ⊥
not-true true e f = cc
not-true false e f = cc

not-false : (b : Bool) → not b ≡ false → b ≡ true
not-false true e = refl
not-false false e = cc

true-not : (b : Bool) → b ≡ true → not b ≡ false
true-not true e = refl
true-not false e = cc

module _ (otp rows : List ℕ) where
  filled : (row : ℕ) → Decides (is_filled (majority otp row)) (IsFilled otp row)
  filled row = filled-decides (majority otp row)

  gap-says : (row : ℕ) → find (has_gap otp) rows ≡ Some row → IsFirstGap otp rows row
  gap-says row e =
      let is = first-found (has_gap otp) rows row e in record {
        before = is.before;
        behind = is.behind;
        whole = is.whole;
        here = λ f. not-true (is_filled (majority otp row)) is.here ((filled row).1 f);
        earlier = go is.before is.earlier;
      }
    where
      go : (xs : List ℕ) → AllByRecursion (λ r. has_gap otp r ≡ false) xs → AllByRecursion (λ r. IsFilled otp r) xs
      go [] all = tt
      go (x ∷ xs) all = ((filled x).0 (not-false (is_filled (majority otp x)) all.0), go xs all.1)

  says-gap : (row : ℕ) → IsFirstGap otp rows row → find (has_gap otp) rows ≡ Some row
  says-gap row is =
      found-first (has_gap otp) rows row (record {
        before = is.before;
        behind = is.behind;
        whole = is.whole;
        here = not-is (is_filled (majority otp row)) (λ h. is.here ((filled row).0 h));
        earlier = go is.before is.earlier;
      })
    where
      go : (xs : List ℕ) → AllByRecursion (λ r. IsFilled otp r) xs → AllByRecursion (λ r. has_gap otp r ≡ false) xs
      go [] all = tt
      go (x ∷ xs) all = (true-not (is_filled (majority otp x)) ((filled x).1 all.0), go xs all.1)

full-says : (o : Option ℕ) (n : ℕ) → is_full o n ≡ true → o ≡ Some (24 * n)
full-says None n e = cc
full-says (Some v) n e = ap Some (eqb-true v (24 * n) e)

says-full : (o : Option ℕ) (n : ℕ) → o ≡ Some (24 * n) → is_full o n ≡ true
says-full None n e = cc
says-full (Some v) n e = eq-eqb v (24 * n) (same_Some v (24 * n) e)

-- no image with rows starts
module _ (otp : List ℕ) (d : Decision) (never : (s : Started) → StartsWithRows d s → ⊥) where
  no-rows : IsJust (IsRollbackRows d) []
  no-rows = one-just (λ w. (s : Started) × StartsWithRows d s × (s.window ≡ w)) RollbackRows None (λ caveat e. cc)
      (λ w is. absurd (never is.0 is.1))

  no-full : IsJust (IsRollbackFull d) []
  no-full =
      one-just
      (λ w. (s : Started) × StartsWithRows d s × (s.rollback ≡ Some (24 * length s.rows.items)) × (s.window ≡ w))
      RollbackFull None (λ caveat e. cc) (λ w is. absurd (never is.0 is.1))

  no-gap : IsJust (IsRollbackGap otp d) []
  no-gap =
      one-just (λ row. (s : Started) × StartsWithRows d s × IsFirstGap otp s.rows.items row) RollbackGap None
      (λ caveat e. cc) (λ row is. absurd (never is.0 is.1))

  pub none-just : IsJust (AreRowCaveats otp d) []
  none-just = both-just [] [] no-rows (both-just [] [] no-full no-gap)

-- an image with rows starts
module _ (otp : List ℕ) (d : Decision) (s : Started) (starts : StartsWithRows d s)
    (once : (t : Started) → StartsWithRows d t → t ≡ s) where
  some-rows : IsJust (IsRollbackRows d) (option_to_list (Some (RollbackRows s.window)))
  some-rows =
      one-just (λ w. (t : Started) × StartsWithRows d t × (t.window ≡ w)) RollbackRows (Some (RollbackRows s.window))
      (λ caveat e. (s.window, (s, starts, refl), sym (same_Some _ _ e)))
      (λ w is. ap (λ (t : Started). Some (RollbackRows t.window)) (sym (once is.0 is.1))
      ∙ ap (λ v. Some (RollbackRows v)) is.2)

  some-full : IsJust (IsRollbackFull d)
      (option_to_list (caveat_if (is_full s.rollback (length s.rows.items)) (RollbackFull s.window)))
  some-full =
      one-just
      (λ w. (t : Started) × StartsWithRows d t × (t.rollback ≡ Some (24 * length t.rows.items)) × (t.window ≡ w))
      RollbackFull (caveat_if (is_full s.rollback (length s.rows.items)) (RollbackFull s.window))
      (to (is_full s.rollback (length s.rows.items)) refl)
      (λ w is. from w (is_full s.rollback (length s.rows.items)) (says-full s.rollback (length s.rows.items)
      (subst (λ (t : Started). t.rollback ≡ Some (24 * length t.rows.items)) (once is.0 is.1) is.2))
      (ap (λ (t : Started). t.window) (sym (once is.0 is.1)) ∙ is.3))
    where
      to : (b : Bool) → is_full s.rollback (length s.rows.items) ≡ b → (caveat : Caveat)
          → caveat_if b (RollbackFull s.window) ≡ Some caveat
          → (w : Window) × ((t : Started) × StartsWithRows d t × (t.rollback ≡ Some (24 * length t.rows.items))
          × (t.window ≡ w)) × (caveat ≡ RollbackFull w)
      to true is caveat e =
          (s.window, (s, starts, full-says s.rollback (length s.rows.items) is, refl), sym (same_Some _ _ e))
      to false is caveat e = cc

      from : (w : Window) (b : Bool) → b ≡ true → s.window ≡ w
          → caveat_if b (RollbackFull s.window) ≡ Some (RollbackFull w)
      from w true e same = ap (λ v. Some (RollbackFull v)) same
      from w false e same = cc

  some-gap : IsJust (IsRollbackGap otp d) (option_to_list (option_map RollbackGap (find (has_gap otp) s.rows.items)))
  some-gap =
      one-just (λ row. (t : Started) × StartsWithRows d t × IsFirstGap otp t.rows.items row) RollbackGap
      (option_map RollbackGap (find (has_gap otp) s.rows.items)) (to (find (has_gap otp) s.rows.items) refl)
      (λ row is. ap (option_map RollbackGap) (says-gap otp s.rows.items row
      (subst (λ (t : Started). IsFirstGap otp t.rows.items row) (once is.0 is.1) is.2)))
    where
      to : (o : Option ℕ) → find (has_gap otp) s.rows.items ≡ o → (caveat : Caveat) → option_map RollbackGap o
          ≡ Some caveat
          → (row : ℕ) × ((t : Started) × StartsWithRows d t × IsFirstGap otp t.rows.items row)
          × (caveat ≡ RollbackGap row)
      to None is caveat e = cc
      to (Some row) is caveat e = (row, (s, starts, gap-says otp s.rows.items row is), sym (same_Some _ _ e))

  pub some-just : IsJust (AreRowCaveats otp d)
      (option_to_list (Some (RollbackRows s.window))
      ++ (option_to_list (caveat_if (is_full s.rollback (length s.rows.items)) (RollbackFull s.window))
      ++ option_to_list (option_map RollbackGap (find (has_gap otp) s.rows.items))))
  some-just = both-just _ _ some-rows (both-just _ _ some-full some-gap)

pub rows-just : (otp : List ℕ) (d : Decision) → IsJust (AreRowCaveats otp d) (started_rows otp d)
rows-just otp (Bootsel fall) = none-just otp (Bootsel fall) (λ s is. fall-start fall is.choice is.starts)
rows-just otp (Start choice) = go choice.image.rows.items refl
  where
    image-is : (s : Started) → StartsWithRows (Start choice) s → s ≡ choice.image
    image-is s is = sym is.image ∙ ap (λ (x : Choice). x.image) (sym (start-same choice is.choice is.starts))

    go : (rows : List ℕ) → choice.image.rows.items ≡ rows
        → IsJust (AreRowCaveats otp (Start choice))
        (row_caveats otp choice.image.window choice.image.rollback rows)
    go [] e = none-just otp (Start choice) (λ s is. is.lists (ap (λ (t : Started). t.rows.items) (image-is s is) ∙ e))
    go (row ∷ rows) e =
        subst (λ (xs : List ℕ). IsJust (AreRowCaveats otp (Start choice))
        (option_to_list (Some (RollbackRows choice.image.window))
        ++ (option_to_list (caveat_if (is_full choice.image.rollback (length xs)) (RollbackFull choice.image.window))
        ++ option_to_list (option_map RollbackGap (find (has_gap otp) xs))))) e
        (some-just otp (Start choice) choice.image
        (record { choice = choice; starts = refl; image = refl; lists = λ none. lists none e }) image-is)
      where
        lists : choice.image.rows.items ≡ [] → choice.image.rows.items ≡ row ∷ rows → ⊥
        lists f h = cc
