-- The verdict of the function is the one of the rules, and no other is.
use Rattle.std.proofs.Common.{◌≡◌, ◌≢◌, Bool, true, false, if◌then◌else◌, [], refl, sym, ap, ◌∙◌}
use Rattle.std.specs.Prelude.{◌&&◌, not}
use Rattle.std.specs.List.{list_all}
use Rattle.std.proofs.lemmas.Bool.{and_from, and_parts, not-true, not_from_false}
use Rattle.check_require.specs.declared.meeting.Verdict.{Verdict as Judgement}
use Rattle.check_require.specs.declared.meeting.Verdict.TheVariants as judgements
use Rattle.check_require.specs.declared.members.Member.TheVariants.{Effect, Records}
use Rattle.check_require.specs.declared.requirement.Allowance.TheVariants.{Mixed, Bootsel}
use Rattle.check_require.specs.Meeting.{allows, is_met, some_bootsel, some_mixed, unmet, verdict_on}
use Rattle.check_require.specs.Members.{all_members}
use Rattle.check_require.specs.Reports.{ReportView}
use Rattle.check_require.specs.Requires.{RequireView}
use Rattle.check_require.proofs.VerdictLemmas.{none-passed, passed-none}
use Rattle.cli_course.specs.declared.status.Status.TheVariants.{Done, Input}
use Rattle.cli_course.specs.Outcomes.{Verdict, Passes, IsUnbootable, IsMixed, HasNoEffect, IsRefused, IsUnmet, verdict_status}
use Rattle.cli_check.specs.CheckRules.{IsHalfWritten, IsLeftDead, IsVerdict}
use Rattle.cli_check.specs.CheckWorks.{verdict_of}
use Rattle.cli_check.proofs.TestLemmas.{apart, false-so}

-- a verdict of these five answers
abbrev judged : Bool → Bool → Bool → Bool → Bool → Judgement
judged mixed bootsel records effect all =
    if mixed then judgements.Mixed
    else if bootsel then judgements.Unbootable
    else if not records then judgements.Refused
    else if not effect then judgements.NoEffect
    else if all then judgements.Passed
    else judgements.Unmet

module _ (ask : RequireView) (r : ReportView) where
  abbrev half : Bool
  half = some_mixed r && not (allows ask.cuts Mixed)

  abbrev dead : Bool
  dead = some_bootsel r && not (allows ask.cuts Bootsel)

  abbrev all : Bool
  all = list_all (is_met ask r) all_members

  -- the verdict where these are the answers
  judged-at : (m b c e a : Bool) → half ≡ m → dead ≡ b → is_met ask r Records ≡ c → is_met ask r Effect ≡ e → all ≡ a
      → verdict_on ask r ≡ judged m b c e a
  judged-at m b c e a is_half is_dead is_records is_effect is_all =
      ap (λ x. judged x dead (is_met ask r Records) (is_met ask r Effect) all) is_half
      ∙ (ap (λ x. judged m x (is_met ask r Records) (is_met ask r Effect) all) is_dead
      ∙ (ap (λ x. judged m b x (is_met ask r Effect) all) is_records
      ∙ (ap (λ x. judged m b c x all) is_effect ∙ ap (λ x. judged m b c e x) is_all)))

  half-is : half ≡ true → IsHalfWritten ask r
  half-is e = let both = and_parts _ _ e in (both.0, not-true (allows ask.cuts Mixed) both.1)

  is-half : IsHalfWritten ask r → half ≡ true
  is-half is = and_from _ _ is.0 (not_from_false (allows ask.cuts Mixed) is.1)

  dead-is : dead ≡ true → IsLeftDead ask r
  dead-is e = let both = and_parts _ _ e in (both.0, not-true (allows ask.cuts Bootsel) both.1)

  is-dead : IsLeftDead ask r → dead ≡ true
  is-dead is = and_from _ _ is.0 (not_from_false (allows ask.cuts Bootsel) is.1)

  never-half : half ≡ false → IsHalfWritten ask r → ⊥
  never-half e is = apart half (is-half is) e

  never-dead : dead ≡ false → IsLeftDead ask r → ⊥
  never-dead e is = apart dead (is-dead is) e

  unmet-not : verdict_on ask r ≡ judgements.Unmet → unmet ask r ≢ []
  unmet-not is none = differ (verdict_on ask r) (none-passed ask r none) is
    where
      differ : (v : Judgement) → v ≡ judgements.Passed → v ≡ judgements.Unmet → ⊥
      differ v e f = cc

  pub verdict-is : IsVerdict ask r (verdict_of (verdict_on ask r))
  verdict-is = go half dead (is_met ask r Records) (is_met ask r Effect) all refl refl refl refl refl
    where
      go : (m b c e a : Bool) → half ≡ m → dead ≡ b → is_met ask r Records ≡ c → is_met ask r Effect ≡ e → all ≡ a
          → IsVerdict ask r (verdict_of (judged m b c e a))
      go true b c e a is_half is_dead is_records is_effect is_all = half-is is_half
      go false true c e a is_half is_dead is_records is_effect is_all = (never-half is_half, dead-is is_dead)
      go false false false e a is_half is_dead is_records is_effect is_all =
          (never-half is_half, never-dead is_dead, is_records)
      go false false true false a is_half is_dead is_records is_effect is_all =
          (never-half is_half, never-dead is_dead, is_records, is_effect)
      go false false true true true is_half is_dead is_records is_effect is_all =
          passed-none ask r (judged-at false false true true true is_half is_dead is_records is_effect is_all)
      go false false true true false is_half is_dead is_records is_effect is_all = (
        never-half is_half,
        never-dead is_dead,
        is_records,
        is_effect,
        unmet-not (judged-at false false true true false is_half is_dead is_records is_effect is_all),
      )

  not-half : (IsHalfWritten ask r → ⊥) → half ≡ false
  not-half never = false-so half (λ e. never (half-is e))

  not-dead : (IsLeftDead ask r → ⊥) → dead ≡ false
  not-dead never = false-so dead (λ e. never (dead-is e))

  pub verdict-once : (v : Verdict) → IsVerdict ask r v → v ≡ verdict_of (verdict_on ask r)
  verdict-once Passes is = sym (ap verdict_of (none-passed ask r is))
  verdict-once IsMixed is =
      sym (ap verdict_of (judged-at true dead _ _ all (is-half is) refl refl refl refl))
  verdict-once IsUnbootable is =
      sym (ap verdict_of (judged-at false true _ _ all (not-half is.0) (is-dead is.1) refl refl refl))
  verdict-once IsRefused is =
      sym (ap verdict_of (judged-at false false false _ all (not-half is.0) (not-dead is.1) is.2 refl refl))
  verdict-once HasNoEffect is =
      sym (ap verdict_of (judged-at false false true false all (not-half is.0) (not-dead is.1) is.2 is.3 refl))
  verdict-once IsUnmet is =
      sym (ap verdict_of (judged-at false false true true false (not-half is.0) (not-dead is.1) is.2 is.3
      (false-so all (λ e. is.4 (passed-none ask r
      (judged-at false false true true true (not-half is.0) (not-dead is.1) is.2 is.3 e))))))

-- no verdict has the status of an input that is refused
pub not-input : (v : Verdict) → verdict_status v ≡ Input → ⊥
not-input Passes e = cc
not-input IsUnbootable e = cc
not-input IsMixed e = cc
not-input HasNoEffect e = cc
not-input IsRefused e = cc
not-input IsUnmet e = cc

-- only the verdict that passes has the status 0
pub done-passes : (v : Verdict) → verdict_status v ≡ Done → v ≡ Passes
done-passes Passes e = refl
done-passes IsUnbootable e = cc
done-passes IsMixed e = cc
done-passes HasNoEffect e = cc
done-passes IsRefused e = cc
done-passes IsUnmet e = cc
