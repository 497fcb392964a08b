-- A verdict passes exactly where no member is unmet.
use Rattle.std.proofs.Common.{◌≡◌, ◌&&◌, ◌||◌, ℕ, ◌<◌, not, Bool, true, false, if◌then◌else◌, List, [], ◌∷◌, filter, get_or, refl, ◌∙◌, arith}
use Rattle.std.proofs.lemmas.List.Folds.{list_all_at}
use Rattle.std.specs.List.{list_all}
use Rattle.check_require.specs.declared.meeting.Verdict.{Verdict}
use Rattle.check_require.specs.declared.meeting.Verdict.TheVariants.{Passed, Mixed as StartsMixed, Unbootable, Refused, NoEffect, Unmet}
use Rattle.check_require.specs.declared.members.Member.{Member}
use Rattle.check_require.specs.declared.members.Member.TheVariants.{Effect, Records, Cuts}
use Rattle.check_require.specs.declared.requirement.Allowance.TheVariants.{Mixed, Bootsel}
use Rattle.check_require.specs.Meeting.{allows, is_met, some_bootsel, some_mixed, unmet, verdict_on}
use Rattle.check_require.specs.Members.{all_members}
use Rattle.check_require.specs.Reports.{ReportView}
use Rattle.check_require.specs.Requires.{RequireView}

front : (a b : Bool) → (a && b) ≡ true → a ≡ true
front true b is = refl
front false b is = cc

rest : (a b : Bool) → (a && b) ≡ true → b ≡ true
rest true b is = is
rest false b is = cc

module _ (met : Member → Bool) where
  kept-none : (m : Member) (ms : List Member) (is : Bool) → (if not is then m ∷ ms else ms) ≡ [] → (is ≡ true)
  kept-none m ms true none = refl
  kept-none m ms false none = cc

  kept-rest : (m : Member) (ms : List Member) (is : Bool) → (if not is then m ∷ ms else ms) ≡ [] → ms ≡ []
  kept-rest m ms true none = none
  kept-rest m ms false none = cc

  none-all : (ms : List Member) → filter (λ m. not (met m)) ms ≡ [] → list_all met ms ≡ true
  none-all [] none = refl
  none-all (m ∷ ms) none =
      both (met m) (list_all met ms) (kept-none m _ (met m) none) (none-all ms (kept-rest m _ (met m) none))
    where
      both : (a b : Bool) → a ≡ true → b ≡ true → (a && b) ≡ true
      both true true one other = refl
      both true false one other = other
      both false b one other = cc

  all-none : (ms : List Member) → list_all met ms ≡ true → filter (λ m. not (met m)) ms ≡ []
  all-none [] all = refl
  all-none (m ∷ ms) all = kept (met m) (front (met m) _ all) ∙ all-none ms (rest (met m) _ all)
    where
      kept : (is : Bool) → is ≡ true → (if not is then m ∷ filter (λ n. not (met n)) ms else filter (λ n. not (met n)) ms)
          ≡ filter (λ n. not (met n)) ms
      kept true so = refl
      kept false so = cc

  -- of all members the first is met, the second, and the sixth
  at-met : (i : ℕ) → i < 16 → list_all met all_members ≡ true → met (get_or all_members i Effect) ≡ true
  at-met i within all =
      decided (met (get_or all_members i Effect)) (λ no. list_all_at met all_members i Effect within no)
    where
      decided : (b : Bool) → (b ≡ false → list_all met all_members ≡ false) → b ≡ true
      decided true fails = refl
      decided false fails = absurd (differ (list_all met all_members) all (fails refl))
        where
          differ : (b : Bool) → b ≡ true → b ≡ false → ⊥
          differ true one other = cc
          differ false one other = cc

  effect-met : list_all met all_members ≡ true → met Effect ≡ true
  effect-met all = at-met 0 (omega arith) all

  records-met : list_all met all_members ≡ true → met Records ≡ true
  records-met all = at-met 1 (omega arith) all

  cuts-met : list_all met all_members ≡ true → met Cuts ≡ true
  cuts-met all = at-met 5 (omega arith) all

-- a verdict of these five answers
abbrev judged : Bool → Bool → Bool → Bool → Bool → Verdict
judged mixed bootsel records effect all =
    if mixed then StartsMixed
    else if bootsel then Unbootable
    else if not records then Refused
    else if not effect then NoEffect
    else if all then Passed
    else Unmet

passed-all : (m b r e a : Bool) → judged m b r e a ≡ Passed → a ≡ true
passed-all true b r e a is = cc
passed-all false true r e a is = cc
passed-all false false false e a is = cc
passed-all false false true false a is = cc
passed-all false false true true true is = refl
passed-all false false true true false is = cc

all-passed : (m b r e a : Bool) → m ≡ false → b ≡ false → r ≡ true → e ≡ true → a ≡ true → judged m b r e a ≡ Passed
all-passed false false true true true mixed bootsel records effect all = refl
all-passed true b r e a mixed bootsel records effect all = cc
all-passed false true r e a mixed bootsel records effect all = cc
all-passed false false false e a mixed bootsel records effect all = cc
all-passed false false true false a mixed bootsel records effect all = cc
all-passed false false true true false mixed bootsel records effect all = cc

-- what some cut starts is allowed
allowed : (some listed : Bool) → (not some || listed) ≡ true → (some && not listed) ≡ false
allowed true true is = refl
allowed true false is = cc
allowed false listed is = refl

module _ (ask : RequireView) (r : ReportView) where
  mixed-allowed : is_met ask r Cuts ≡ true → (some_mixed r && not (allows ask.cuts Mixed)) ≡ false
  mixed-allowed met = allowed (some_mixed r) (allows ask.cuts Mixed) (front _ _ (rest _ _ (front _ _ met)))

  bootsel-allowed : is_met ask r Cuts ≡ true → (some_bootsel r && not (allows ask.cuts Bootsel)) ≡ false
  bootsel-allowed met = allowed (some_bootsel r) (allows ask.cuts Bootsel) (rest _ _ (rest _ _ (front _ _ met)))

  pub passed-none : verdict_on ask r ≡ Passed → unmet ask r ≡ []
  passed-none is =
      all-none (is_met ask r) all_members
      (passed-all (some_mixed r && not (allows ask.cuts Mixed)) (some_bootsel r && not (allows ask.cuts Bootsel))
      (is_met ask r Records) (is_met ask r Effect) (list_all (is_met ask r) all_members) is)

  pub none-passed : unmet ask r ≡ [] → verdict_on ask r ≡ Passed
  none-passed none =
      let all : list_all (is_met ask r) all_members ≡ true = none-all (is_met ask r) all_members none in
      all-passed (some_mixed r && not (allows ask.cuts Mixed)) (some_bootsel r && not (allows ask.cuts Bootsel))
      (is_met ask r Records) (is_met ask r Effect) (list_all (is_met ask r) all_members)
      (mixed-allowed (cuts-met (is_met ask r) all)) (bootsel-allowed (cuts-met (is_met ask r) all))
      (records-met (is_met ask r) all) (effect-met (is_met ask r) all) all
