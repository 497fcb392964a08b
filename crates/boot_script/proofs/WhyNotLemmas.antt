-- Why no event is read, by the bytes.
use Rattle.std.proofs.Common.{◌≡◌, ℕ, zero, suc, ◌+◌, ◌<◌, ◌≤◌, ◌==◌, Bool, true, false, List, [], ◌∷◌, length, take, drop, arith, refl, sym, ap, subst, ◌∙◌, inl, inr}
use Rattle.std.specs.Prelude.{◌⊎◌, Err, Option, Some, None, slice_index}
use Rattle.std.proofs.lemmas.Bool.{cases_lt}
use Rattle.std.proofs.lemmas.Bool.Decides.{nat_tests}
use Rattle.std.proofs.lemmas.Grind.{common_steps}
use Rattle.std.proofs.lemmas.List.{length-drop}
use Rattle.byteorder.specs.Endian.{little_number}
use Rattle.pico_board.specs.declared.boot.BootKind.{BootKind}
use Rattle.boot_script.specs.declared.event.ScriptFault.{ScriptFault}
use Rattle.boot_script.specs.declared.event.ScriptFault.TheVariants.{Kind, Short, Pattern}
use Rattle.boot_script.specs.Events.{Command, Cut}
use Rattle.boot_script.specs.Reading.{with_rest, payload_in, command_event_in, uf2_in, cut_event_in, is_cut, reset_in, reset_of, reset_event, event_in}
use Rattle.boot_script.specs.Faults.{HasNoKind, LacksFixed, IsReset, IsCut, HasBadReset, HasBadCut, LacksRest, IsEventFault}
use Rattle.boot_script.proofs.ReadBackLemmas.{with_rest-is, payload_in-is, command_in-is, uf2_in-is, cut_in-is, reset_in-is}
use Rattle.boot_script.proofs.SpelledLemmas.{with_rest-short, payload_in-short, command_in-short, uf2_in-short, cut_in-short, cut_in-bad, reset_in-short, no-kind, is_cut-before, is_cut-within, is_cut-none}

-- the tests on a cut and on a reset, as the rules say them
IsCut-true : (part size : ℕ) → is_cut part size ≡ true → IsCut part size
IsCut-true zero size fits = inl (refl, is_cut-before size fits)
IsCut-true (suc zero) size fits = let bounds = is_cut-within size fits in inr (refl, bounds.0, bounds.1)
IsCut-true (suc (suc part)) size fits = let none = is_cut-none (suc (suc part)) size (omega arith) in absurd (cc)

IsCut-fits : (part size : ℕ) → IsCut part size → is_cut part size ≡ true
IsCut-fits part size is = grind (arith, common_steps, nat_tests)

IsReset-boot : (kind base : ℕ) (boot : BootKind) → reset_of kind base ≡ Some boot → IsReset kind base
IsReset-boot kind base boot is = grind (arith, common_steps, nat_tests)

IsReset-none : (kind base : ℕ) → reset_of kind base ≡ None → ¬ (IsReset kind base)
IsReset-none kind base none is = grind (arith, common_steps, nat_tests)

false-true : ◌≡◌ {A = Bool} false true → ⊥
false-true same = cc

-- the faults of a command behind its first byte
command-fault : (at : ℕ) (bs : List ℕ) (f : ScriptFault) → command_event_in at bs ≡ Err f
    → (f ≡ Short at) × ((length bs < 36) ⊎ ((36 ≤ length bs) × (length bs < 36 + little_number 4 (drop 32 bs))))
command-fault at bs f read = by_front (cases_lt (length bs) 32)
  where
    by_rest : 36 ≤ length bs → (length (drop 4 (drop 32 bs)) < little_number 4 (drop 32 bs))
        ⊎ (little_number 4 (drop 32 bs) ≤ length (drop 4 (drop 32 bs)))
        → with_rest at (little_number 4 (drop 32 bs)) (drop 4 (drop 32 bs)) (Command (take 32 bs)) ≡ Err f
        → (f ≡ Short at) × ((length bs < 36) ⊎ ((36 ≤ length bs) × (length bs < 36 + little_number 4 (drop 32 bs))))
    by_rest there (inl short) answer =
        let one = with_rest-short at (little_number 4 (drop 32 bs)) (drop 4 (drop 32 bs))
        (Command (take 32 bs)) short in
        (cc, inr (there, omega (arith, short, length-drop 4 (drop 32 bs), length-drop 32 bs)))
    by_rest there (inr long) answer =
        let one = with_rest-is at (little_number 4 (drop 32 bs)) (drop 4 (drop 32 bs))
        (Command (take 32 bs)) long in absurd (cc)

    by_size : 32 ≤ length bs → (length (drop 32 bs) < 4) ⊎ (4 ≤ length (drop 32 bs))
        → payload_in at (take 32 bs) (drop 32 bs) ≡ Err f
        → (f ≡ Short at) × ((length bs < 36) ⊎ ((36 ≤ length bs) × (length bs < 36 + little_number 4 (drop 32 bs))))
    by_size there (inl short) answer =
        let one = payload_in-short at (take 32 bs) (drop 32 bs) short in
        (cc, inl (omega (arith, short, length-drop 32 bs)))
    by_size there (inr long) answer =
        by_rest (omega (arith, long, length-drop 32 bs))
        (cases_lt (length (drop 4 (drop 32 bs))) (little_number 4 (drop 32 bs)))
        (sym (payload_in-is at (take 32 bs) (drop 32 bs) long) ∙ answer)

    by_front : (length bs < 32) ⊎ (32 ≤ length bs)
        → (f ≡ Short at) × ((length bs < 36) ⊎ ((36 ≤ length bs) × (length bs < 36 + little_number 4 (drop 32 bs))))
    by_front (inl short) = let one = command_in-short at bs short in (cc, inl (omega arith))
    by_front (inr there) = by_size there (cases_lt (length (drop 32 bs)) 4) (sym (command_in-is at bs there) ∙ read)

pub command-lacks : (at : ℕ) (bs : List ℕ) → length bs < 36 → command_event_in at bs ≡ Err (Short at)
command-lacks at bs short = by_front (cases_lt (length bs) 32)
  where
    by_front : (length bs < 32) ⊎ (32 ≤ length bs) → command_event_in at bs ≡ Err (Short at)
    by_front (inl few) = command_in-short at bs few
    by_front (inr there) = command_in-is at bs there
        ∙ payload_in-short at (take 32 bs) (drop 32 bs) (omega (arith, length-drop 32 bs))

command-runs_out : (at : ℕ) (bs : List ℕ) → 36 ≤ length bs → length bs < 36 + little_number 4 (drop 32 bs)
    → command_event_in at bs ≡ Err (Short at)
command-runs_out at bs there short =
    command_in-is at bs (omega arith) ∙ payload_in-is at (take 32 bs) (drop 32 bs) (omega (arith, length-drop 32 bs))
    ∙ with_rest-short at (little_number 4 (drop 32 bs)) (drop 4 (drop 32 bs)) (Command (take 32 bs))
    (omega (arith, length-drop 4 (drop 32 bs), length-drop 32 bs))

-- the faults of a UF2 block, of a cut and of a reset
uf2-fault : (at : ℕ) (bs : List ℕ) (f : ScriptFault) → uf2_in at bs ≡ Err f → (f ≡ Short at) × (length bs < 512)
uf2-fault at bs f read = by_size (cases_lt (length bs) 512)
  where
    by_size : (length bs < 512) ⊎ (512 ≤ length bs) → (f ≡ Short at) × (length bs < 512)
    by_size (inl short) = let one = uf2_in-short at bs short in (cc, short)
    by_size (inr there) = let one = uf2_in-is at bs there in absurd (cc)

abbrev CutFault : ℕ → List ℕ → ScriptFault → Type 0
CutFault at bs f =
    ((f ≡ Short at) × (length bs < 7))
    ⊎ (((f ≡ Pattern at) × (7 ≤ length bs) × (is_cut (slice_index bs 4) (little_number 2 (drop 5 bs)) ≡ false))
    ⊎ ((f ≡ Short at) × (7 ≤ length bs) × (is_cut (slice_index bs 4) (little_number 2 (drop 5 bs)) ≡ true)
    × (length bs < 7 + little_number 2 (drop 5 bs))))

cut-fault : (at : ℕ) (bs : List ℕ) (f : ScriptFault) → cut_event_in at bs ≡ Err f → CutFault at bs f
cut-fault at bs f read = by_size (cases_lt (length bs) 7)
  where
    by_rest : 7 ≤ length bs → is_cut (slice_index bs 4) (little_number 2 (drop 5 bs)) ≡ true
        → (length (drop 7 bs) < little_number 2 (drop 5 bs)) ⊎ (little_number 2 (drop 5 bs) ≤ length (drop 7 bs))
        → with_rest at (little_number 2 (drop 5 bs)) (drop 7 bs) (Cut (little_number 4 bs) (slice_index bs 4 == 1))
        ≡ Err f → CutFault at bs f
    by_rest there fits (inl short) answer =
        let one = with_rest-short at (little_number 2 (drop 5 bs)) (drop 7 bs)
        (Cut (little_number 4 bs) (slice_index bs 4 == 1)) short in
        inr (inr (cc, there, fits, omega (arith, short, length-drop 7 bs)))
    by_rest there fits (inr long) answer =
        let one = with_rest-is at (little_number 2 (drop 5 bs)) (drop 7 bs)
        (Cut (little_number 4 bs) (slice_index bs 4 == 1)) long in absurd (cc)

    by_fit : 7 ≤ length bs → (b : Bool) → is_cut (slice_index bs 4) (little_number 2 (drop 5 bs)) ≡ b
        → CutFault at bs f
    by_fit there false bad = let one = cut_in-bad at bs there bad in inr (inl (cc, there, bad))
    by_fit there true fits =
        by_rest there fits (cases_lt (length (drop 7 bs)) (little_number 2 (drop 5 bs)))
        (sym (cut_in-is at bs there fits) ∙ read)

    by_size : (length bs < 7) ⊎ (7 ≤ length bs) → CutFault at bs f
    by_size (inl short) = let one = cut_in-short at bs short in inl (cc, short)
    by_size (inr there) = by_fit there _ refl

abbrev ResetFault : ℕ → List ℕ → ScriptFault → Type 0
ResetFault at bs f =
    ((f ≡ Short at) × (length bs < 5))
    ⊎ ((f ≡ Kind at) × (5 ≤ length bs) × (reset_of (slice_index bs 0) (little_number 4 (drop 1 bs)) ≡ None))

reset-fault : (at : ℕ) (bs : List ℕ) (f : ScriptFault) → reset_in at bs ≡ Err f → ResetFault at bs f
reset-fault at bs f read = by_size (cases_lt (length bs) 5)
  where
    by_boot : 5 ≤ length bs → (found : Option BootKind)
        → reset_of (slice_index bs 0) (little_number 4 (drop 1 bs)) ≡ found
        → reset_event at found ≡ Err f → ResetFault at bs f
    by_boot there None is answer = inr (cc, there, is)
    by_boot there (Some boot) is answer = absurd (cc)

    by_size : (length bs < 5) ⊎ (5 ≤ length bs) → ResetFault at bs f
    by_size (inl short) = let one = reset_in-short at bs short in inl (cc, short)
    by_size (inr there) = by_boot there _ refl (sym (reset_in-is at bs there) ∙ read)

-- a fault comes only by its rule
pub fault-why : (at : ℕ) (bs : List ℕ) (f : ScriptFault) → event_in at bs ≡ Err f → IsEventFault at bs f
fault-why at [] f read =
    let same : Short at ≡ f = cc in subst (λ g. IsEventFault at [] g) same (refl, inl refl)
fault-why at (zero ∷ bs) f read = absurd (cc)
fault-why at (suc zero ∷ bs) f read =
    let why = command-fault at bs f read in
    subst (λ g. IsEventFault at (1 ∷ bs) g) (sym why.0) (
      refl,
      inr (elim why.1 [
        | inl short ↦ inl (record { some = omega arith; kind = omega arith; short = omega arith })
        | inr rest ↦ inr (record {
          fixed = record { some = omega arith; kind = omega arith; long = omega (arith, rest.0) };
          fits = λ cut. absurd (omega (arith, cut));
          short = omega (arith, rest.1);
        })
      ]),
    )
fault-why at (suc (suc zero) ∷ bs) f read =
    let why = uf2-fault at bs f read in
    subst (λ g. IsEventFault at (2 ∷ bs) g) (sym why.0)
    (refl, inr (inl (record { some = omega arith; kind = omega arith; short = omega (arith, why.1) })))
fault-why at (suc (suc (suc zero)) ∷ bs) f read = elim (cut-fault at bs f read) [
  | inl why ↦ subst (λ g. IsEventFault at (3 ∷ bs) g) (sym why.0)
      (refl, inr (inl (record { some = omega arith; kind = omega arith; short = omega (arith, why.1) })))
  | inr (inl why) ↦ subst (λ g. IsEventFault at (3 ∷ bs) g) (sym why.0) (
    refl,
    record {
      fixed = record { some = omega arith; kind = omega arith; long = omega (arith, why.1) };
      cut = refl;
      bad = λ is. let fits = IsCut-fits _ _ is in absurd (false-true (sym why.2 ∙ fits));
    },
  )
  | inr (inr why) ↦ subst (λ g. IsEventFault at (3 ∷ bs) g) (sym why.0) (
    refl,
    inr (inr (record {
      fixed = record { some = omega arith; kind = omega arith; long = omega (arith, why.1) };
      fits = λ cut. IsCut-true _ _ why.2;
      short = omega (arith, why.3);
    })),
  )
]
fault-why at (suc (suc (suc (suc zero))) ∷ bs) f read = absurd (cc)
fault-why at (suc (suc (suc (suc (suc zero)))) ∷ bs) f read = elim (reset-fault at bs f read) [
  | inl why ↦ subst (λ g. IsEventFault at (5 ∷ bs) g) (sym why.0)
      (refl, inr (inl (record { some = omega arith; kind = omega arith; short = omega (arith, why.1) })))
  | inr why ↦ subst (λ g. IsEventFault at (5 ∷ bs) g) (sym why.0) (
    refl,
    inr (record {
      fixed = record { some = omega arith; kind = omega arith; long = omega (arith, why.1) };
      reset = refl;
      bad = IsReset-none _ _ why.2;
    }),
  )
]
fault-why at (suc (suc (suc (suc (suc (suc zero))))) ∷ bs) f read = absurd (cc)
fault-why at (suc (suc (suc (suc (suc (suc (suc kind)))))) ∷ bs) f read =
    let one = no-kind at (suc (suc (suc (suc (suc (suc (suc kind))))))) bs (omega arith) in
    let same : Kind at ≡ f = cc in
    subst (λ g. IsEventFault at (suc (suc (suc (suc (suc (suc (suc kind)))))) ∷ bs) g) same
    (refl, inl (record { some = omega arith; kind = omega arith }))

-- and comes wherever its rule says so
cut-runs_out : (at : ℕ) (bs : List ℕ) → 7 ≤ length bs → is_cut (slice_index bs 4) (little_number 2 (drop 5 bs)) ≡ true
    → length bs < 7 + little_number 2 (drop 5 bs) → cut_event_in at bs ≡ Err (Short at)
cut-runs_out at bs there fits short =
    cut_in-is at bs there fits
    ∙ with_rest-short at (little_number 2 (drop 5 bs)) (drop 7 bs) (Cut (little_number 4 bs) (slice_index bs 4 == 1))
    (omega (arith, length-drop 7 bs))

cut-bad : (at : ℕ) (bs : List ℕ) → 7 ≤ length bs → ¬ (IsCut (slice_index bs 4) (little_number 2 (drop 5 bs)))
    → cut_event_in at bs ≡ Err (Pattern at)
cut-bad at bs there bad = by_fit _ refl
  where
    by_fit : (b : Bool) → is_cut (slice_index bs 4) (little_number 2 (drop 5 bs)) ≡ b
        → cut_event_in at bs ≡ Err (Pattern at)
    by_fit false wrong = cut_in-bad at bs there wrong
    by_fit true fits = absurd (bad (IsCut-true _ _ fits))

reset-bad : (at : ℕ) (bs : List ℕ) → 5 ≤ length bs → ¬ (IsReset (slice_index bs 0) (little_number 4 (drop 1 bs)))
    → reset_in at bs ≡ Err (Kind at)
reset-bad at bs there bad = by_boot _ refl
  where
    by_boot : (found : Option BootKind) → reset_of (slice_index bs 0) (little_number 4 (drop 1 bs)) ≡ found
        → reset_in at bs ≡ Err (Kind at)
    by_boot None is = reset_in-is at bs there ∙ ap (λ x. reset_event at x) is
    by_boot (Some boot) is = absurd (bad (IsReset-boot _ _ boot is))

kind-fault : (at : ℕ) (bs : List ℕ) → HasNoKind bs → event_in at bs ≡ Err (Kind at)
kind-fault at [] none = absurd (omega (arith, none.some))
kind-fault at (kind ∷ bs) none = no-kind at kind bs none.kind

reset-fault_of : (at : ℕ) (bs : List ℕ) → HasBadReset bs → event_in at bs ≡ Err (Kind at)
reset-fault_of at [] bad = absurd (omega (arith, bad.fixed.some))
reset-fault_of at (kind ∷ bs) bad =
    subst (λ k. HasBadReset (k ∷ bs) → event_in at (k ∷ bs) ≡ Err (Kind at)) (sym bad.reset)
    (λ now. reset-bad at bs (omega (arith, now.fixed.long)) now.bad) bad

cut-fault_of : (at : ℕ) (bs : List ℕ) → HasBadCut bs → event_in at bs ≡ Err (Pattern at)
cut-fault_of at [] bad = absurd (omega (arith, bad.fixed.some))
cut-fault_of at (kind ∷ bs) bad =
    subst (λ k. HasBadCut (k ∷ bs) → event_in at (k ∷ bs) ≡ Err (Pattern at)) (sym bad.cut)
    (λ now. cut-bad at bs (omega (arith, now.fixed.long)) now.bad) bad

fixed-fault : (at : ℕ) (bs : List ℕ) → LacksFixed bs → event_in at bs ≡ Err (Short at)
fixed-fault at [] lacks = absurd (omega (arith, lacks.some))
fixed-fault at (zero ∷ bs) lacks = absurd (omega (arith, lacks.short))
fixed-fault at (suc zero ∷ bs) lacks = command-lacks at bs (omega (arith, lacks.short))
fixed-fault at (suc (suc zero) ∷ bs) lacks = uf2_in-short at bs (omega (arith, lacks.short))
fixed-fault at (suc (suc (suc zero)) ∷ bs) lacks = cut_in-short at bs (omega (arith, lacks.short))
fixed-fault at (suc (suc (suc (suc zero))) ∷ bs) lacks = absurd (omega (arith, lacks.short))
fixed-fault at (suc (suc (suc (suc (suc zero)))) ∷ bs) lacks = reset_in-short at bs (omega (arith, lacks.short))
fixed-fault at (suc (suc (suc (suc (suc (suc zero))))) ∷ bs) lacks = absurd (omega (arith, lacks.short))
fixed-fault at (suc (suc (suc (suc (suc (suc (suc kind)))))) ∷ bs) lacks = absurd (omega (arith, lacks.kind))

rest-fault : (at : ℕ) (bs : List ℕ) → LacksRest bs → event_in at bs ≡ Err (Short at)
rest-fault at [] lacks = absurd (omega (arith, lacks.fixed.some))
rest-fault at (zero ∷ bs) lacks = absurd (omega (arith, lacks.short))
rest-fault at (suc zero ∷ bs) lacks =
    command-runs_out at bs (omega (arith, lacks.fixed.long)) (omega (arith, lacks.short))
rest-fault at (suc (suc zero) ∷ bs) lacks = absurd (omega (arith, lacks.fixed.long, lacks.short))
rest-fault at (suc (suc (suc zero)) ∷ bs) lacks =
    cut-runs_out at bs (omega (arith, lacks.fixed.long)) (IsCut-fits _ _ (lacks.fits refl))
    (omega (arith, lacks.short))
rest-fault at (suc (suc (suc (suc zero))) ∷ bs) lacks = absurd (omega (arith, lacks.short))
rest-fault at (suc (suc (suc (suc (suc zero)))) ∷ bs) lacks = absurd (omega (arith, lacks.fixed.long, lacks.short))
rest-fault at (suc (suc (suc (suc (suc (suc zero))))) ∷ bs) lacks = absurd (omega (arith, lacks.short))
rest-fault at (suc (suc (suc (suc (suc (suc (suc kind)))))) ∷ bs) lacks = absurd (omega (arith, lacks.fixed.kind))

pub fault-comes : (at : ℕ) (bs : List ℕ) (f : ScriptFault) → IsEventFault at bs f → event_in at bs ≡ Err f
fault-comes at bs (Kind place) (same, inl none) = kind-fault at bs none ∙ ap (λ p. Err (Kind p)) (sym same)
fault-comes at bs (Kind place) (same, inr bad) = reset-fault_of at bs bad ∙ ap (λ p. Err (Kind p)) (sym same)
fault-comes at bs (Short place) (same, inl empty) =
    ap (λ xs. event_in at xs) empty ∙ ap (λ p. Err (Short p)) (sym same)
fault-comes at bs (Short place) (same, inr (inl lacks)) = fixed-fault at bs lacks ∙ ap (λ p. Err (Short p)) (sym same)
fault-comes at bs (Short place) (same, inr (inr lacks)) = rest-fault at bs lacks ∙ ap (λ p. Err (Short p)) (sym same)
fault-comes at bs (Pattern place) (same, bad) = cut-fault_of at bs bad ∙ ap (λ p. Err (Pattern p)) (sym same)
