-- `check` is right by its rules.
use Rattle.std.proofs.Common.{◌≡◌, ◌⊎◌, ◌↔◌, ℕ, ◌<◌, ◌≤◌, List, [], ◌∷◌, ◌++◌, length, codes, cond, Result, Ok, refl, sym, ap, ◌∙◌, subst, inl, inr, append-nil}
use Rattle.std.specs.List.{flat_map}
use Rattle.std.proofs.lemmas.Bool.{cases_lt, le-ltb, lt-ltb}
use Rattle.pico_board.specs.declared.boot.Cpu.{Cpu}
use Rattle.pico_board.specs.Content.{Content, IsContent}
use Rattle.boot_script.specs.Scripts.{script_events}
use Rattle.boot_cuts.specs.Found.{trace_limit}
use Rattle.boot_tape.specs.Traces.{trace}
use Rattle.check_require.specs.declared.members.Member.{Member}
use Rattle.check_require.specs.declared.requirement.RequireFault.{RequireFault}
use Rattle.check_require.specs.Meeting.{unmet, verdict_on}
use Rattle.check_require.specs.Requires.{RequireView}
use Rattle.check_require.specs.Texts.{IsRequireText, require_read}
use Rattle.check_lines.specs.Counting.{unmet_line}
use Rattle.check_require.proofs.TextLemmas.{text-read}
use Rattle.cli_course.specs.declared.status.Status.TheVariants.{Done, Input as Refused}
use Rattle.cli_course.specs.Outcomes.{AnswerView, Passes, Refuses, refused, verdict_status, worked}
use Rattle.cli_inputs.specs.declared.forms.Form.TheVariants.{Require}
use Rattle.cli_inputs.specs.Forms.{HasForm}
use Rattle.cli_inputs.specs.Rules.{IsByRules, IsRefusedOrRight}
use Rattle.cli_inputs.proofs.WorkLemmas.{same-outcome}
use Rattle.cli_check.specs.CheckRules.{IsAskedOf, IsCheckOf, IsCheckRefused, IsVerdict}
use Rattle.cli_check.specs.CheckTexts.{check_text, findings_text}
use Rattle.cli_check.specs.CheckWorks.{asked_work, check_work, found_work, verdict_of}
use Rattle.cli_check.specs.Finding.{findings_of}
use Rattle.cli_check.specs.Findings.{FindingsView}
use Rattle.cli_check.specs.Reporting.{report_of}
use Rattle.cli_check.proofs.FindingLemmas.{findings-are, findings-once}
use Rattle.cli_check.proofs.VerdictLemmas.{done-passes, not-input, verdict-is, verdict-once}

module _ (script : List ℕ) (c : Content) (cpu : Cpu) (bytes pattern : List ℕ) (ask : RequireView) where
  abbrev steps : ℕ
  steps = length (trace c cpu (script_events bytes)).done

  abbrev found : FindingsView
  found = findings_of c cpu (script_events bytes) pattern

  long : trace_limit < steps
      → worked (check_work c cpu script bytes pattern ask) ≡ refused script (codes "too-many-steps")
  long lt =
      ap (λ t. worked (cond t (Refuses script (codes "too-many-steps")) (found_work ask found)))
      (lt-ltb trace_limit steps lt)

  short : steps ≤ trace_limit → worked (check_work c cpu script bytes pattern ask) ≡ worked (found_work ask found)
  short le =
      ap (λ t. worked (cond t (Refuses script (codes "too-many-steps")) (found_work ask found)))
      (le-ltb trace_limit steps le)

  check-right : IsContent c → IsRefusedOrRight (IsCheckRefused script c cpu bytes) (IsCheckOf c cpu bytes pattern ask)
      (worked (check_work c cpu script bytes pattern ask))
  check-right right = go (cases_lt trace_limit steps)
    where
      go : (trace_limit < steps) ⊎ (steps ≤ trace_limit)
          → IsRefusedOrRight (IsCheckRefused script c cpu bytes) (IsCheckOf c cpu bytes pattern ask)
          (worked (check_work c cpu script bytes pattern ask))
      go (inl lt) = inl (script, codes "too-many-steps", (lt, refl, refl), long lt)
      go (inr le) = inr (record {
        right = right;
        short = le;
        findings = found;
        are = findings-are c cpu (script_events bytes) pattern right;
        verdict = verdict_of (verdict_on ask (report_of found));
        judged = verdict-is ask (report_of found);
        status = ap (λ (o : AnswerView). o.status) (short le);
        text = ap (λ (o : AnswerView). o.text) (short le);
        files = ap (λ (o : AnswerView). o.files) (short le);
      })

  check-only : (o : AnswerView) → IsCheckOf c cpu bytes pattern ask o
      → o ≡ worked (check_work c cpu script bytes pattern ask)
  check-only o is =
      let same : is.findings ≡ found =
      findings-once c cpu (script_events bytes) pattern is.right is.findings is.are in
      let judged : is.verdict ≡ verdict_of (verdict_on ask (report_of is.findings)) =
      verdict-once ask (report_of is.findings) is.verdict is.judged in
      same-outcome o (verdict_status (verdict_of (verdict_on ask (report_of found))))
      (check_text found (unmet ask (report_of found))) []
      (is.status ∙ (ap verdict_status judged
      ∙ ap (λ (f : FindingsView). verdict_status (verdict_of (verdict_on ask (report_of f)))) same))
      (is.text ∙ ap (λ (f : FindingsView). check_text f (unmet ask (report_of f))) same) is.files
      ∙ sym (short is.short)

  check-refuses : (worked (check_work c cpu script bytes pattern ask)).status ≡ Refused
      → (name : List ℕ) × (fault : List ℕ) × IsCheckRefused script c cpu bytes name fault
  check-refuses h = go (cases_lt trace_limit steps)
    where
      go : (trace_limit < steps) ⊎ (steps ≤ trace_limit)
          → (name : List ℕ) × (fault : List ℕ) × IsCheckRefused script c cpu bytes name fault
      go (inl lt) = (script, codes "too-many-steps", (lt, refl, refl))
      go (inr le) =
          absurd (not-input (verdict_of (verdict_on ask (report_of found)))
          (sym (ap (λ (o : AnswerView). o.status) (short le)) ∙ h))

  check-exact : (name fault : List ℕ) → IsCheckRefused script c cpu bytes name fault
      → worked (check_work c cpu script bytes pattern ask) ≡ refused name fault
  check-exact name fault h =
      long h.0 ∙ (ap (λ n. refused n (codes "too-many-steps")) (sym h.1) ∙ ap (refused name) (sym h.2))

-- `check` is right by its rules
pub check-works : (c : Content) (cpu : Cpu) (script s p : List ℕ) (ask : RequireView)
    → IsByRules (IsContent c) (check_work c cpu script s p ask) (IsCheckRefused script c cpu s) (IsCheckOf c cpu s p ask)
check-works c cpu script s p ask = record {
  done = check-right script c cpu s p ask;
  only = check-only script c cpu s p ask;
  refuses = check-refuses script c cpu s p ask;
  exact = check-exact script c cpu s p ask;
}

-- so it is by a text of what is asked, where that has its form
pub asked-works : (c : Content) (cpu : Cpu) (script s p require : List ℕ) → HasForm Require require
    → IsByRules (IsContent c) (asked_work c cpu script s p (require_read require)) (IsCheckRefused script c cpu s)
    (IsAskedOf c cpu s p require)
asked-works c cpu script s p require form =
    subst (λ read. IsByRules (IsContent c) (asked_work c cpu script s p read) (IsCheckRefused script c cpu s)
    (IsAskedOf c cpu s p require)) (sym (reads ask text)) (record {
      done = λ right. go (works.done right);
      only = λ o is. same o is.ask (reads is.ask is.text) is.check;
      refuses = works.refuses;
      exact = works.exact;
    })
  where
    ask : RequireView
    ask = form.1.0

    text : IsRequireText require ask
    text = form.1.1

    reads : (a : RequireView) → IsRequireText require a → require_read require ≡ Ok a
    reads a is = text-read require a is

    works : IsByRules (IsContent c) (check_work c cpu script s p ask) (IsCheckRefused script c cpu s)
        (IsCheckOf c cpu s p ask)
    works = check-works c cpu script s p ask

    go : IsRefusedOrRight (IsCheckRefused script c cpu s) (IsCheckOf c cpu s p ask)
        (worked (check_work c cpu script s p ask))
        → IsRefusedOrRight (IsCheckRefused script c cpu s) (IsAskedOf c cpu s p require)
        (worked (check_work c cpu script s p ask))
    go (inl refuses) = inl refuses
    go (inr right) = inr (record { ask = ask; text = text; check = right })

    same-ok : (r : Result RequireView RequireFault) (a b : RequireView) → r ≡ Ok a → r ≡ Ok b → a ≡ b
    same-ok r a b e f = cc

    same : (o : AnswerView) (a : RequireView) → require_read require ≡ Ok a → IsCheckOf c cpu s p a o
        → o ≡ worked (check_work c cpu script s p ask)
    same o a is check =
        (check-works c cpu script s p a).only o check
        ∙ ap (λ b. worked (check_work c cpu script s p b)) (same-ok (require_read require) a ask is (reads ask text))

-- only one outcome is right
pub one-check : (c : Content) (cpu : Cpu) (s p : List ℕ) (ask : RequireView) (o q : AnswerView)
    → IsCheckOf c cpu s p ask o → IsCheckOf c cpu s p ask q → o ≡ q
one-check c cpu s p ask o q one two =
    (check-works c cpu [] s p ask).only o one ∙ sym ((check-works c cpu [] s p ask).only q two)

pub one-asked : (c : Content) (cpu : Cpu) (s p require : List ℕ) (o q : AnswerView) → IsAskedOf c cpu s p require o
    → IsAskedOf c cpu s p require q → o ≡ q
one-asked c cpu s p require o q one two =
    one-check c cpu s p one.ask o q one.check
    (subst (λ a. IsCheckOf c cpu s p a q) (same-ok (require_read require) two.ask one.ask
    (text-read require two.ask two.text) (text-read require one.ask one.text)) two.check)
  where
    same-ok : (r : Result RequireView RequireFault) (a b : RequireView) → r ≡ Ok a → r ≡ Ok b → a ≡ b
    same-ok r a b e f = cc

-- the status is 0 exactly where no member is unmet
pub done-exactly : (c : Content) (cpu : Cpu) (s p : List ℕ) (ask : RequireView) (o : AnswerView)
    → (is : IsCheckOf c cpu s p ask o) → (o.status ≡ Done) ↔ (unmet ask (report_of is.findings) ≡ [])
done-exactly c cpu s p ask o is = (passes, done)
  where
    passes : o.status ≡ Done → unmet ask (report_of is.findings) ≡ []
    passes e = subst (λ v. IsVerdict ask (report_of is.findings) v) (done-passes is.verdict (sym is.status ∙ e)) is.judged

    done : unmet ask (report_of is.findings) ≡ [] → o.status ≡ Done
    done none =
        is.status ∙ ap verdict_status
        (verdict-once ask (report_of is.findings) is.verdict is.judged
        ∙ sym (verdict-once ask (report_of is.findings) Passes none))

-- ---- the lines of members that are not met

own-part : (xs ys : List ℕ) → xs ++ ys ≡ xs → ys ≡ []
own-part [] ys e = e
own-part (x ∷ xs) ys e = own-part xs ys (rest e)
  where
    rest : x ∷ (xs ++ ys) ≡ x ∷ xs → xs ++ ys ≡ xs
    rest e = cc

some-line : (m : Member) (rest : List ℕ) → unmet_line m ++ rest ≡ [] → ⊥
unfolding unmet_line
some-line m rest e = go _ _ e
  where
    go : (x : ℕ) (xs : List ℕ) → x ∷ xs ≡ [] → ⊥
    go x xs e = cc

no-lines : (ms : List Member) → flat_map unmet_line ms ≡ [] → ms ≡ []
no-lines [] e = refl
no-lines (m ∷ ms) e = absurd (some-line m (flat_map unmet_line ms) e)

met-text : (f : FindingsView) → check_text f [] ≡ findings_text f
unfolding check_text
met-text f = append-nil (findings_text f)

text-met : (f : FindingsView) (ms : List Member) → check_text f ms ≡ findings_text f → ms ≡ []
unfolding check_text
text-met f ms e = no-lines ms (own-part (findings_text f) (flat_map unmet_line ms) e)

-- the status is 0 exactly where the text has no such line
pub done-lines : (c : Content) (cpu : Cpu) (s p : List ℕ) (ask : RequireView) (o : AnswerView)
    → (is : IsCheckOf c cpu s p ask o) → (o.status ≡ Done) ↔ (o.text ≡ findings_text is.findings)
done-lines c cpu s p ask o is = (passes, done)
  where
    passes : o.status ≡ Done → o.text ≡ findings_text is.findings
    passes e =
        is.text ∙ (ap (λ ms. check_text is.findings ms) ((done-exactly c cpu s p ask o is).0 e)
        ∙ met-text is.findings)

    done : o.text ≡ findings_text is.findings → o.status ≡ Done
    done e =
        (done-exactly c cpu s p ask o is).1
        (text-met is.findings (unmet ask (report_of is.findings)) (sym is.text ∙ e))
