-- An image runs on other data exactly where the function says so.
use Rattle.std.proofs.Common.{◌≡◌, ◌≢◌, ◌⊎◌, inl, inr, Bool, true, false, List, [], ◌∷◌, refl, sym, ap, ◌∙◌, subst}
use Rattle.std.specs.Prelude.{◌↔◌, ◌||◌, Contains, bytes_eq, filter, if◌then◌else◌, map, not}
use Rattle.std.proofs.lemmas.Bool.{and_from, and_parts}
use Rattle.std.proofs.lemmas.List.Elements.{Contains-append_cases}
use Rattle.std.proofs.lemmas.Slice.Eq.{bytes_eq-Decides}
use Rattle.pico_board.specs.declared.boot.Cpu.{Cpu}
use Rattle.pico_board.specs.declared.boot.BootKind.TheVariants.{Normal}
use Rattle.pico_board.specs.declared.window.Window.{Window}
use Rattle.pico_board.specs.Content.{Content, window_bytes}
use Rattle.boot_rules.specs.declared.decision.Decision.{Decision}
use Rattle.boot_rules.specs.declared.decision.Decision.TheVariants.{Start, Bootsel}
use Rattle.boot_rules.specs.Chosen.{Chosen}
use Rattle.boot_rules.specs.Choosing.{decision_in}
use Rattle.boot_rules.proofs.DecisionLemmas.{chosen-decision, decision-chosen}
use Rattle.boot_sweep.specs.Comparing.{is_same_decision}
use Rattle.boot_sweep.specs.Moving.{MoveView}
use Rattle.boot_sweep.proofs.ResultLemmas.{decision-same, same-decision}
use Rattle.boot_cuts.specs.Classing.{is_start}
use Rattle.boot_cuts.specs.Tears.{IsLeftTorn}
use Rattle.check_require.specs.declared.report.DataOwner.TheVariants.{Both, Former, End}
use Rattle.check_require.specs.declared.report.DataWritten.{DataWritten}
use Rattle.check_require.specs.declared.report.DataWritten.TheVariants.{Yes, No, Torn}
use Rattle.check_data.specs.declared.found.DataWindow.{DataWindow}
use Rattle.check_data.specs.Windows.{IsDataWritten, data_in, data_windows, former_window, is_listed, told_window}
use Rattle.check_data.specs.Others.{IsEnd, RunsOnOthers, Speaks, has_other_bytes, is_by_end, is_by_former, is_of_end, is_of_former, is_other_data, is_whole}
use Rattle.check_data.proofs.ListLemmas.{false-true, in-cases, in-first, in-none, in-rest, mapped}
use Rattle.check_data.proofs.WindowLemmas.{is-listed, listed-is, written-is}

negated : (b : Bool) → (b ≡ true → ⊥) → not b ≡ true
negated true never = absurd (never refl)
negated false never = refl

unnegated : (b : Bool) → not b ≡ true → b ≡ true → ⊥
unnegated true e f = cc
unnegated false e f = cc

or-cases : (a b : Bool) → (a || b) ≡ true → (a ≡ true) ⊎ (b ≡ true)
or-cases true b e = inl refl
or-cases false b e = inr e

or-first : (a b : Bool) → a ≡ true → (a || b) ≡ true
or-first a b e = ap (λ x. x || b) e

or-second : (a b : Bool) → b ≡ true → (a || b) ≡ true
or-second true b e = refl
or-second false b e = e

-- what holds where a is true
unless-true : (a b : Bool) → (a ≡ true → b ≡ true) → (not a || b) ≡ true
unless-true true b holds = holds refl
unless-true false b holds = refl

then-true : (a b : Bool) → (not a || b) ≡ true → a ≡ true → b ≡ true
then-true true b e is = e
then-true false b e is = cc

-- the window has other bytes where the function says so
pub other-bytes : (x d : Content) (w : Window)
    → (has_other_bytes x d w ≡ true) ↔ (window_bytes d w ≢ window_bytes x w)
other-bytes x d w =
    let both = bytes_eq-Decides (window_bytes d w) (window_bytes x w) in (
      λ e same. unnegated (bytes_eq (window_bytes d w) (window_bytes x w)) e (both.1 same),
      λ differ. negated (bytes_eq (window_bytes d w) (window_bytes x w)) (λ e. differ (both.0 e)),
    )

whole-is : (moves : List MoveView) (w : Window) (r : DataWritten) → IsDataWritten moves w r → is_whole r ≡ true
    → IsLeftTorn moves w → ⊥
whole-is moves w Torn is e = cc
whole-is moves w Yes is e = is.0
whole-is moves w No is e = is.0

is-whole : (moves : List MoveView) (w : Window) (r : DataWritten) → IsDataWritten moves w r → (IsLeftTorn moves w → ⊥)
    → is_whole r ≡ true
is-whole moves w Torn is never = absurd (never is)
is-whole moves w Yes is never = refl
is-whole moves w No is never = refl

-- what is told of a window of two lists
pub record IsToldOf (moves : List MoveView) (cs zs : List Window) (w : DataWindow) : Type 0 where
  pub by_former : (is_of_former w.of ≡ true) ↔ Contains cs w.window
  pub by_end : (is_of_end w.of ≡ true) ↔ Contains zs w.window
  pub written : IsDataWritten moves w.window w.written

former-told : (moves : List MoveView) (cs zs : List Window) (v : Window) → Contains cs v
    → IsToldOf moves cs zs (former_window moves zs v)
former-told moves cs zs v is = go (is_listed zs v) refl
  where
    go : (b : Bool) → is_listed zs v ≡ b → IsToldOf moves cs zs (told_window moves (if b then Both else Former) v)
    go true e = record {
      by_former = ((λ t. is), (λ t. refl));
      by_end = ((λ t. listed-is zs v e), (λ t. refl));
      written = written-is moves v;
    }
    go false e = record {
      by_former = ((λ t. is), (λ t. refl));
      by_end = ((λ t. cc), (λ t. false-true _ e (is-listed zs v t)));
      written = written-is moves v;
    }

-- an element that passes a filter
kept : (cs zs : List Window) (v : Window) → Contains (filter (λ w. not (is_listed cs w)) zs) v
    → Contains zs v × (is_listed cs v ≡ true → ⊥)
kept cs [] v is = absurd (in-none v is)
kept cs (w ∷ zs) v is = go (is_listed cs w) refl (kept cs zs v) is
  where
    go : (b : Bool) → is_listed cs w ≡ b
        → (Contains (filter (λ u. not (is_listed cs u)) zs) v → Contains zs v × (is_listed cs v ≡ true → ⊥))
        → Contains (if not b then w ∷ filter (λ u. not (is_listed cs u)) zs else filter (λ u. not
        (is_listed cs u)) zs) v
        → Contains (w ∷ zs) v × (is_listed cs v ≡ true → ⊥)
    go true e rest is = let r = rest is in (in-rest w v zs r.0, r.1)
    go false e rest is = here (in-cases w v (filter (λ u. not (is_listed cs u)) zs) is)
      where
        here : (w ≡ v) ⊎ Contains (filter (λ u. not (is_listed cs u)) zs) v
            → Contains (w ∷ zs) v × (is_listed cs v ≡ true → ⊥)
        here (inl same) = (
          subst (λ u. Contains (w ∷ zs) u) same (in-first w zs),
          λ f. false-true _ (ap (is_listed cs) (sym same) ∙ e) f,
        )
        here (inr later) = let r = rest later in (in-rest w v zs r.0, r.1)

further-told : (moves : List MoveView) (cs zs : List Window) (v : Window)
    → Contains (filter (λ w. not (is_listed cs w)) zs) v → IsToldOf moves cs zs (told_window moves End v)
further-told moves cs zs v is =
    let r = kept cs zs v is in record {
      by_former = ((λ t. cc), (λ t. absurd (r.1 (is-listed cs v t))));
      by_end = ((λ t. r.0), (λ t. refl));
      written = written-is moves v;
    }

module _ (c z : Content) (cpu : Cpu) (moves : List MoveView) where
  abbrev cs : List Window
  cs = data_in c (decision_in c cpu Normal)

  abbrev zs : List Window
  zs = data_in z (decision_in z cpu Normal)

  pub told-of : (w : DataWindow) → Contains (data_windows c z cpu moves) w → IsToldOf moves cs zs w
  told-of w is =
      elim (Contains-append_cases (map (former_window moves zs) cs)
      (map (told_window moves End) (filter (λ v. not (is_listed cs v)) zs)) w is) [
        | inl first ↦ let m = mapped (former_window moves zs) cs w first in
            subst (λ x. IsToldOf moves cs zs x) m.2 (former-told moves cs zs m.0 m.1)
        | inr later ↦ let m = mapped (told_window moves End) (filter (λ v. not (is_listed cs v)) zs) w later in
            subst (λ x. IsToldOf moves cs zs x) m.2 (further-told moves cs zs m.0 m.1)
      ]

  module _ (w : DataWindow) (told : IsToldOf moves cs zs w) (d : Content) where
    abbrev e : Decision
    e = decision_in d cpu Normal

    -- a content speaks where its decision is that on d, and has the window
    speaks-by : (x : Content) → is_start e ≡ true → is_same_decision e (decision_in x cpu Normal) ≡ true
        → Contains (data_in x (decision_in x cpu Normal)) w.window → Speaks x d cpu w.window
    speaks-by x start same listed = go e refl start
      where
        go : (f : Decision) → decision_in d cpu Normal ≡ f → is_start f ≡ true → Speaks x d cpu w.window
        go (Bootsel fall) is begins = cc
        go (Start choice) is begins =
            let there : decision_in x cpu Normal ≡ Start choice =
            sym (same-decision e (decision_in x cpu Normal) same) ∙ is in record {
              choice = choice;
              here = subst (λ f. Chosen d cpu Normal f) is (decision-chosen d cpu Normal);
              there = subst (λ f. Chosen x cpu Normal f) there (decision-chosen x cpu Normal);
              listed = subst (λ f. Contains (data_in x f) w.window) there listed;
            }

    begins : (x : Content) → Speaks x d cpu w.window → is_start e ≡ true
    begins x s = ap is_start (sym (chosen-decision d cpu Normal (Start s.choice) s.here))

    by-speaks : (x : Content) → Speaks x d cpu w.window → is_same_decision e (decision_in x cpu Normal) ≡ true
    by-speaks x s =
        decision-same e (decision_in x cpu Normal)
        (sym (chosen-decision d cpu Normal (Start s.choice) s.here)
        ∙ chosen-decision x cpu Normal (Start s.choice) s.there)

    listed-in : (x : Content) → Speaks x d cpu w.window → Contains (data_in x (decision_in x cpu Normal)) w.window
    listed-in x s =
        subst (λ f. Contains (data_in x f) w.window) (chosen-decision x cpu Normal (Start s.choice) s.there) s.listed

    abbrev by_c : Bool
    by_c = is_by_former (decision_in c cpu Normal) w e

    abbrev by_z : Bool
    by_z = is_by_end (decision_in z cpu Normal) w e

    former-speaks : is_start e ≡ true → by_c ≡ true → Speaks c d cpu w.window
    former-speaks start is =
        let p = and_parts _ _ is in speaks-by c start p.1 (told.by_former.0 p.0)

    speaks-former : Speaks c d cpu w.window → by_c ≡ true
    speaks-former s = and_from _ _ (told.by_former.1 (listed-in c s)) (by-speaks c s)

    end-speaks : is_start e ≡ true → by_z ≡ true → Speaks z d cpu w.window
    end-speaks start is =
        let p = and_parts _ _ is in
        let q = and_parts _ _ p.1 in speaks-by z start q.1 (told.by_end.0 p.0)

    end-mended : by_z ≡ true → IsLeftTorn moves w.window → ⊥
    end-mended is =
        let p = and_parts _ _ is in
        let q = and_parts _ _ p.1 in whole-is moves w.window w.written told.written q.0

    speaks-end : Speaks z d cpu w.window → (IsLeftTorn moves w.window → ⊥) → by_z ≡ true
    speaks-end s mended =
        and_from _ _ (told.by_end.1 (listed-in z s))
        (and_from _ _ (is-whole moves w.window w.written told.written mended) (by-speaks z s))

    others-of : (not by_c || has_other_bytes c d w.window) ≡ true → (not by_z || has_other_bytes z d w.window) ≡ true
        → (x : Content) → IsEnd c z moves w.window x → Speaks x d cpu w.window
        → window_bytes d w.window ≢ window_bytes x w.window
    others-of first last x (inl same) s =
        subst (λ y. window_bytes d w.window ≢ window_bytes y w.window) (sym same)
        ((other-bytes c d w.window).0 (then-true _ _ first
        (speaks-former (subst (λ y. Speaks y d cpu w.window) same s))))
    others-of first last x (inr same) s =
        subst (λ y. window_bytes d w.window ≢ window_bytes y w.window) (sym same.0)
        ((other-bytes z d w.window).0 (then-true _ _ last
        (speaks-end (subst (λ y. Speaks y d cpu w.window) same.0 s) same.1)))

    runs-by : is_other_data c z cpu w d ≡ true → RunsOnOthers c z moves cpu w.window d
    runs-by is =
        let p = and_parts _ _ is in
        let q = and_parts _ _ p.1 in
        let r = and_parts _ _ q.1 in
        let others = others-of r.0 r.1 in
        elim (or-cases by_c by_z q.0) [
          | inl first ↦ record {
            side = c;
            is_end = inl refl;
            speaks = former-speaks p.0 first;
            others = others;
          }
          | inr last ↦ record {
            side = z;
            is_end = inr (refl, end-mended last);
            speaks = end-speaks p.0 last;
            others = others;
          }
        ]

    some-speaks : (x : Content) → IsEnd c z moves w.window x → Speaks x d cpu w.window → (by_c || by_z) ≡ true
    some-speaks x (inl same) s = or-first by_c by_z (speaks-former (subst (λ y. Speaks y d cpu w.window) same s))
    some-speaks x (inr same) s =
        or-second by_c by_z (speaks-end (subst (λ y. Speaks y d cpu w.window) same.0 s) same.1)

    by-runs : RunsOnOthers c z moves cpu w.window d → is_other_data c z cpu w d ≡ true
    by-runs h =
        let start = begins h.side h.speaks in
        and_from _ _ start (and_from _ _ (some-speaks h.side h.is_end h.speaks) (and_from _ _
        (unless-true by_c _ (λ first. (other-bytes c d w.window).1 (h.others c (inl refl)
        (former-speaks start first))))
        (unless-true by_z _ (λ last. (other-bytes z d w.window).1
        (h.others z (inr (refl, end-mended last)) (end-speaks start last))))))

  pub other-exactly : (w : DataWindow) → Contains (data_windows c z cpu moves) w → (d : Content)
      → (is_other_data c z cpu w d ≡ true) ↔ RunsOnOthers c z moves cpu w.window d
  other-exactly w is d = (runs-by w (told-of w is) d, by-runs w (told-of w is) d)
