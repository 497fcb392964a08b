-- An update of which nothing is unmet that is asked by default.
use Rattle.std.proofs.Common.{◌≡◌, ◌≢◌, ℕ, ◌==◌, Bool, true, false, cond, List, [], ◌∷◌, Option, Some, None, inl, refl, ap}
use Rattle.std.specs.Prelude.{◌||◌, filter, not}
use Rattle.std.specs.List.{AllByRecursion}
use Rattle.std.proofs.lemmas.Bool.{and_parts, eqb-true}
use Rattle.check_require.specs.declared.members.Member.{Member}
use Rattle.cut_class.specs.declared.class.Class.{Class}
use Rattle.cut_class.specs.declared.class.Class.TheVariants.{Former, Finished, Whole, Tail, Mixed, Bootsel}
use Rattle.check_require.specs.declared.report.ImageEffect.{ImageEffect}
use Rattle.check_require.specs.declared.report.ImageEffect.TheVariants.{Unchanged, New, Up, Same, Down}
use Rattle.check_require.specs.Meeting.{is_bootsel, is_met, is_mixed, is_other_image, is_tail, some_bootsel, some_mixed, some_tail, unmet}
use Rattle.check_require.specs.Members.{all_members}
use Rattle.check_require.specs.Reports.{ReportView}
use Rattle.check_require.specs.Requires.{default_require}
use Rattle.pico_board.specs.declared.boot.Cpu.{Cpu}
use Rattle.pico_board.specs.declared.boot.BootKind.TheVariants.{Normal}
use Rattle.pico_board.specs.Content.{Content, IsContent}
use Rattle.slot_choice.specs.declared.choice.Choice.{Choice}
use Rattle.boot_rules.specs.declared.decision.Decision.TheVariants.{Start, Bootsel as Fallen}
use Rattle.boot_rules.specs.Chosen.{Chosen}
use Rattle.boot_rules.proofs.DecisionLemmas.{chosen-once}
use Rattle.boot_cuts.specs.Classes.{Falls}
use Rattle.check_images.specs.declared.found.ImageFacts.{ImageFacts}
use Rattle.check_images.specs.Effects.{IsEffect}
use Rattle.check_images.specs.Starting.{IsStart}
use Rattle.law_updates.specs.Met.{GoesOn, LeavesWholeImages, StartsWhole}
use Rattle.law_updates.proofs.BootLemmas.{boots-again, starts-on}

each-met : (p : Member → Bool) (xs : List Member) → filter (λ m. not (p m)) xs ≡ []
    → AllByRecursion (λ m. p m ≡ true) xs
each-met p [] none = tt
each-met p (x ∷ xs) none = go (p x) refl none (each-met p xs)
  where
    go : (b : Bool) → p x ≡ b
        → cond (not b) (x ∷ filter (λ m. not (p m)) xs) (filter (λ m. not (p m)) xs) ≡ []
        → (filter (λ m. not (p m)) xs ≡ [] → AllByRecursion (λ m. p m ≡ true) xs)
        → (p x ≡ true) × AllByRecursion (λ m. p m ≡ true) xs
    go true is rest others = (is, others rest)
    go false is rest others = cc

never-listed : (b : Bool) → (not b || false) ≡ true → b ≡ false
never-listed true e = cc
never-listed false e = refl

zero-listed : (n : ℕ) → ((n == 0) || false) ≡ true → n ≡ 0
zero-listed n e = eqb-true n 0 (go (n == 0) e)
  where
    go : (b : Bool) → (b || false) ≡ true → b ≡ true
    go true f = refl
    go false f = cc

-- where no cut is of a class, and the end is not
none-of : (n : ℕ) (b : Bool) → (not (n == 0) || b) ≡ false → (n ≡ 0) × (b ≡ false)
none-of n b e = go (n == 0) refl b e
  where
    go : (z : Bool) → (n == 0) ≡ z → (b : Bool) → (not z || b) ≡ false → (n ≡ 0) × (b ≡ false)
    go true is b f = (eqb-true n 0 is, f)
    go false is b f = cc

ends-whole : (class : Class) → is_tail class ≡ false → is_mixed class ≡ false → is_bootsel class ≡ false
    → StartsWhole class
ends-whole Former tail mixed bootsel = tt
ends-whole Finished tail mixed bootsel = tt
ends-whole Whole tail mixed bootsel = tt
ends-whole Tail tail mixed bootsel = cc
ends-whole Mixed tail mixed bootsel = cc
ends-whole Bootsel tail mixed bootsel = cc

other-image : (e : ImageEffect) → is_other_image e ≡ true → e ≢ Unchanged
other-image e is same = not-both (is_other_image e) is (ap is_other_image same)
  where
    not-both : (b : Bool) → b ≡ true → b ≡ false → ⊥
    not-both b f g = cc

pub leaves-whole : (r : ReportView) → unmet default_require r ≡ [] → LeavesWholeImages r
leaves-whole r none =
    let met = each-met (is_met default_require r) all_members none in
    let cuts = and_parts _ _ met.1.1.1.1.1.0 in
    let classes = and_parts _ _ cuts.0 in
    let first = and_parts _ _ classes.0 in
    let second = and_parts _ _ classes.1 in
    let tail = none-of r.cuts.tail (is_tail r.end_class) (never-listed (some_tail r) first.1) in
    let mixed = none-of r.cuts.mixed (is_mixed r.end_class) (never-listed (some_mixed r) second.0) in
    let bootsel = none-of r.cuts.bootsel (is_bootsel r.end_class) (never-listed (some_bootsel r) second.1) in
    record {
      image = other-image r.image met.0;
      tail = tail.0;
      mixed = mixed.0;
      bootsel = bootsel.0;
      end = ends-whole r.end_class tail.1 mixed.1 bootsel.1;
      by_mixed = zero-listed r.by_mixed cuts.1;
    }

-- a start is no fall
no-fall : {P : Type 0} (z : Content) (cpu : Cpu) (choice : Choice) → Chosen z cpu Normal (Start choice)
    → Falls z cpu → P
no-fall z cpu choice starts falls =
    not-both-of (chosen-once z cpu Normal (Start choice) (Fallen falls.fall) starts falls.here)
  where
    not-both-of : {P : Type 0} → Start choice ≡ Fallen falls.fall → P
    not-both-of e = cc

-- where there is an effect the boot does not fall
effect-starts : (c z : Content) (cpu : Cpu) (e : ImageEffect) → e ≢ Unchanged → IsEffect c z cpu e → Falls z cpu → ⊥
effect-starts c z cpu Unchanged other effect falls = other refl
effect-starts c z cpu New other effect falls = effect.0 (inl falls)
effect-starts c z cpu Up other effect falls = no-fall z cpu effect.last effect.here falls
effect-starts c z cpu Same other effect falls = no-fall z cpu effect.last effect.here falls
effect-starts c z cpu Down other effect falls = no-fall z cpu effect.last effect.here falls

pub goes-on : (c z : Content) (cpu : Cpu) (r : ReportView) (starts : Option ImageFacts) → IsContent z
    → unmet default_require r ≡ [] → IsEffect c z cpu r.image → IsStart z cpu starts
    → (told : ImageFacts) × (starts ≡ Some told) × GoesOn z cpu told
goes-on c z cpu r None right none effect falls =
    absurd (effect-starts c z cpu r.image (leaves-whole r none).image effect falls)
goes-on c z cpu r (Some told) right none effect start = (
  told,
  refl,
  record {
    choice = start.choice;
    image = start.image;
    starts = λ n. starts-on z cpu start.choice n right start.chosen;
    left = λ n. boots-again z cpu n right;
  },
)
