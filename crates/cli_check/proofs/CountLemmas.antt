-- The counts over cuts are those of the rules, and no others are.
use Rattle.std.proofs.Common.{◌≡◌, ◌≢◌, ◌⊎◌, ◌↔◌, inl, inr, ℕ, ◌+◌, Bool, true, false, cond, List, [], ◌∷◌, refl, sym, ap, ◌∙◌, subst, arith}
use Rattle.std.specs.Prelude.{◌||◌, not, nat_lt, count_by, map, Contains}
use Rattle.std.specs.List.{list_any}
use Rattle.std.proofs.lemmas.Bool.{and_from, and_parts, lt-ltb, ltb-true}
use Rattle.std.proofs.lemmas.List.Sums.{sum_by-append}
use Rattle.pico_board.specs.declared.boot.Cpu.{Cpu}
use Rattle.pico_board.specs.declared.boot.BootKind.TheVariants.{Normal}
use Rattle.pico_board.specs.declared.window.Window.{Window}
use Rattle.pico_board.specs.Content.{Content}
use Rattle.boot_rules.specs.declared.decision.Decision.{Decision}
use Rattle.boot_rules.specs.declared.decision.Decision.TheVariants.{Start, Bootsel}
use Rattle.boot_rules.specs.Choosing.{decision_in}
use Rattle.boot_rules.specs.Chosen.{Chosen}
use Rattle.boot_rules.proofs.DecisionLemmas.{chosen-decision, decision-chosen}
use Rattle.boot_script.specs.Events.{EventView}
use Rattle.boot_cuts.specs.declared.answers.Answer.{Answer}
use Rattle.cut_class.specs.declared.class.Class.{Class}
use Rattle.cut_class.specs.declared.class.Class.TheVariants as classes
use Rattle.boot_cuts.specs.Answers.{answer_of, answers}
use Rattle.boot_cuts.specs.Classes.{Falls, IsClass}
use Rattle.boot_cuts.specs.Classing.{class_of, is_start}
use Rattle.cut_class.specs.Classes.{is_same_class}
use Rattle.boot_cuts.specs.Tears.{left_torn}
use Rattle.boot_cuts.proofs.ClassLemmas.{class-exactly}
use Rattle.cut_class.proofs.ClassLemmas.{class-self, same-class}
use Rattle.boot_tape.specs.Traces.{trace}
use Rattle.check_counts.specs.Counted.{script_cuts}
use Rattle.check_counts.specs.Facts.{Sides, falls_on, has_other_table, is_early, is_of_class, is_on_other_data, is_other_class, is_raising}
use Rattle.check_data.specs.declared.found.DataWindow.{DataWindow}
use Rattle.check_data.specs.Early.{StartsEarly}
use Rattle.check_data.specs.Others.{RunsOnOthers}
use Rattle.check_data.proofs.EarlyLemmas.{early-exactly}
use Rattle.check_data.proofs.ListLemmas.{in-cases, in-first, in-none, in-rest, mapped, passes, passing}
use Rattle.check_data.proofs.OtherLemmas.{other-exactly}
use Rattle.check_images.specs.Raising.{boot_raises}
use Rattle.check_records.specs.Again.{HasOtherClass, HasOtherTable}
use Rattle.cli_check.specs.Finding.{script_sides, windows_of}
use Rattle.cli_check.specs.FindingRules.{AreSoMany, AreSoManyEach, HasClass, IsRaising}
use Rattle.cli_check.proofs.TestLemmas.{apart, false-so}
use Rattle.cli_check.proofs.TableLemmas.{other-table}

-- one thing more is counted where it passes
count-more : (p : Content → Bool) (d : Content) (ds : List Content) (b : Bool) → p d ≡ b
    → count_by p (d ∷ ds) ≡ (0 + cond b 1 0) + count_by p ds
count-more p d ds b e =
    sum_by-append (λ y. cond (p y) 1 0) (d ∷ []) ds ∙ ap (λ t. (0 + cond t 1 0) + count_by p ds) e

none-more : (n : ℕ) → (0 + cond false 1 0) + n ≡ n
none-more n = omega arith

one-more : (n : ℕ) → (0 + cond true 1 0) + n ≡ 1 + n
one-more n = omega arith

module _ (p : Content → Bool) (IsSo : Content → Type 0) (exactly : (d : Content) → (p d ≡ true) ↔ IsSo d) where
  -- so many of the contents are so as pass the test
  pub so-many : (ds : List Content) → AreSoMany IsSo ds (count_by p ds)
  so-many [] = refl
  so-many (d ∷ ds) = by (p d) refl (so-many ds)
    where
      by : (b : Bool) → p d ≡ b → AreSoMany IsSo ds (count_by p ds) → AreSoMany IsSo (d ∷ ds) (count_by p (d ∷ ds))
      by true e rest =
          inl ((exactly d).0 e, (count_by p ds, count-more p d ds true e ∙ one-more (count_by p ds), rest))
      by false e rest = inr (
        λ is. apart (p d) ((exactly d).1 is) e,
        subst (λ n. AreSoMany IsSo ds n) (sym (count-more p d ds false e ∙ none-more (count_by p ds))) rest,
      )

  pub so-many-once : (ds : List Content) (n : ℕ) → AreSoMany IsSo ds n → n ≡ count_by p ds
  so-many-once [] n e = e
  so-many-once (d ∷ ds) n (inl (is, (m, more, rest))) =
      more ∙ (ap (λ k. 1 + k) (so-many-once ds m rest)
      ∙ sym (count-more p d ds true ((exactly d).1 is) ∙ one-more (count_by p ds)))
  so-many-once (d ∷ ds) n (inr (never, rest)) =
      so-many-once ds n rest
      ∙ sym (count-more p d ds false (false-so (p d) (λ e. never ((exactly d).0 e))) ∙ none-more (count_by p ds))

-- the same in each of some windows
module _ (p : DataWindow → Content → Bool) (IsSo : Window → Content → Type 0) (ds : List Content) where
  pub so-many-each : (ws : List DataWindow)
      → ((w : DataWindow) → Contains ws w → (d : Content) → (p w d ≡ true) ↔ IsSo w.window d)
      → AreSoManyEach IsSo ds ws (map (λ w. count_by (p w) ds) ws)
  so-many-each [] exactly = tt
  so-many-each (w ∷ ws) exactly = (
    so-many (p w) (IsSo w.window) (exactly w (in-first w ws)) ds,
    so-many-each ws (λ v among. exactly v (in-rest w v ws among)),
  )

  pub so-many-each-once : (ws : List DataWindow)
      → ((w : DataWindow) → Contains ws w → (d : Content) → (p w d ≡ true) ↔ IsSo w.window d) → (ns : List ℕ)
      → AreSoManyEach IsSo ds ws ns → ns ≡ map (λ w. count_by (p w) ds) ws
  so-many-each-once [] exactly [] all = refl
  so-many-each-once [] exactly (n ∷ ns) all = absurd all
  so-many-each-once (w ∷ ws) exactly [] all = absurd all
  so-many-each-once (w ∷ ws) exactly (n ∷ ns) all =
      ap (λ m. m ∷ ns) (so-many-once (p w) (IsSo w.window) (exactly w (in-first w ws)) ds n all.0)
      ∙ ap (λ ms. count_by (p w) ds ∷ ms)
      (so-many-each-once ws (λ v among. exactly v (in-rest w v ws among)) ns all.1)

-- a boot falls exactly where it does not start
pub falls-exactly : (cpu : Cpu) (d : Content) → (falls_on cpu d ≡ true) ↔ Falls d cpu
falls-exactly cpu d = (go (decision_in d cpu Normal) (decision-chosen d cpu Normal), back)
  where
    go : (e : Decision) → Chosen d cpu Normal e → not (is_start e) ≡ true → Falls d cpu
    go (Start choice) chosen is = cc
    go (Bootsel fall) chosen is = record { fall = fall; here = chosen }

    back : Falls d cpu → falls_on cpu d ≡ true
    back falls = sym (ap (λ e. not (is_start e)) (chosen-decision d cpu Normal (Bootsel falls.fall) falls.here))

-- an element of a mapped list
in-mapped : {X Y : Type 0} (f : X → Y) (xs : List X) (x : X) → Contains xs x → Contains (map f xs) (f x)
in-mapped f [] x is = absurd (in-none x is)
in-mapped f (y ∷ ys) x is = go (in-mapped f ys x) (in-cases y x ys is)
  where
    go : (Contains ys x → Contains (map f ys) (f x)) → (y ≡ x) ⊎ Contains ys x → Contains (f y ∷ map f ys) (f x)
    go rest (inl first) = subst (λ z. Contains (f y ∷ map f ys) z) (ap f first) (in-first (f y) (map f ys))
    go rest (inr later) = in-rest (f y) (f x) (map f ys) (rest later)

-- a class that is not this one
other-class : (a b : Class) → is_same_class a b ≡ false → b ≢ a
other-class a b none e =
    apart (is_same_class a b) (subst (λ x. is_same_class a x ≡ true) (sym e) (class-self a)) none

class-other : (a b : Class) → b ≢ a → is_same_class a b ≡ false
class-other a b differ = false-so (is_same_class a b) (λ same. differ (sym (same-class a b same)))

neither : (a b : Bool) → not (a || b) ≡ true → (a ≡ false) × (b ≡ false)
neither true b e = cc
neither false true e = cc
neither false false e = (refl, refl)

none-of : (a b : Bool) → a ≡ false → b ≡ false → not (a || b) ≡ true
none-of true b one two = cc
none-of false true one two = cc
none-of false false one two = refl

module _ (c : Content) (cpu : Cpu) (events : List EventView) (pattern : List ℕ) where
  abbrev sides : Sides
  sides = script_sides c cpu events

  abbrev last : Content
  last = (trace c cpu events).last

  pub class-is : (class : Class) (d : Content) → (is_of_class sides class d ≡ true) ↔ HasClass c cpu events class d
  class-is class d = (
    λ same. exact.1 (same-class class (class_of c last (left_torn (trace c cpu events).moves) cpu d) same),
    λ is. subst (λ k. is_same_class class k ≡ true) (exact.0 is) (class-self class),
  )
    where
      exact : IsClass c last (trace c cpu events).moves d cpu class
          ↔ (class ≡ class_of c last (left_torn (trace c cpu events).moves) cpu d)
      exact = class-exactly c last (trace c cpu events).moves d cpu class

  pub early-is : (d : Content)
      → (is_early sides d ≡ true) ↔ StartsEarly c last (trace c cpu events).moves cpu d
  early-is d = early-exactly c last (trace c cpu events).moves cpu d

  pub other-is : (w : DataWindow) → Contains (windows_of c cpu events) w → (d : Content)
      → (is_on_other_data sides w d ≡ true)
      ↔ RunsOnOthers c last (trace c cpu events).moves cpu w.window d
  other-is w among d = other-exactly c last cpu (trace c cpu events).moves w among d

  pub raising-is : (d : Content) → (is_raising sides d ≡ true) ↔ IsRaising c cpu events d
  raising-is d = (
    λ e. let both = and_parts (is_of_class sides classes.Mixed d) (nat_lt 0 (boot_raises d cpu)) e in
        ((class-is classes.Mixed d).0 both.0, ltb-true 0 (boot_raises d cpu) both.1),
    λ is. and_from (is_of_class sides classes.Mixed d) (nat_lt 0 (boot_raises d cpu))
        ((class-is classes.Mixed d).1 is.0) (lt-ltb 0 (boot_raises d cpu) is.1),
  )

  pub table-is : (list_any (has_other_table c) (script_cuts c cpu events pattern) ≡ true)
      ↔ HasOtherTable c (script_cuts c cpu events pattern)
  table-is = (
    λ e. let some = passing (has_other_table c) (script_cuts c cpu events pattern) e in
        record { left = some.0; among = some.1; table = (other-table c some.0).0 some.2 },
    λ other. passes (has_other_table c) (script_cuts c cpu events pattern) other.left other.among
        ((other-table c other.left).1 other.table),
  )

  abbrev answer_on : Content → Answer
  answer_on = answer_of c last (left_torn (trace c cpu events).moves) cpu

  pub other-class-is : (list_any (is_other_class sides) (script_cuts c cpu events pattern) ≡ true)
      ↔ HasOtherClass (answers c cpu events pattern)
  other-class-is = (found, finds)
    where
      found : list_any (is_other_class sides) (script_cuts c cpu events pattern) ≡ true
          → HasOtherClass (answers c cpu events pattern)
      found e =
          let some = passing (is_other_class sides) (script_cuts c cpu events pattern) e in
          let d = some.0 in
          let none = neither (is_of_class sides classes.Former d) (is_of_class sides classes.Bootsel d) some.2 in record {
            answer = answer_on d;
            among = in-mapped answer_on (script_cuts c cpu events pattern) d some.1;
            started = other-class classes.Former (answer_on d).class none.0;
            other = other-class classes.Bootsel (answer_on d).class none.1;
          }

      finds : HasOtherClass (answers c cpu events pattern)
          → list_any (is_other_class sides) (script_cuts c cpu events pattern) ≡ true
      finds other =
          let some = mapped answer_on (script_cuts c cpu events pattern) other.answer other.among in
          let same : (answer_on some.0).class ≡ other.answer.class = ap (λ (a : Answer). a.class) some.2 in
          passes (is_other_class sides) (script_cuts c cpu events pattern) some.0 some.1
          (none-of (is_of_class sides classes.Former some.0) (is_of_class sides classes.Bootsel some.0)
          (class-other classes.Former (answer_on some.0).class (λ e. other.started (sym same ∙ e)))
          (class-other classes.Bootsel (answer_on some.0).class (λ e. other.other (sym same ∙ e))))
