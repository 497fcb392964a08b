-- A file has its form exactly where it has no fault, and a fault is the one that the rules name.
use Rattle.std.proofs.Common.{ℕ, ◌≡◌, zero, suc, ◌+◌, ◌%◌, ◌^◌, ◌<◌, ◌≤◌, ◌==◌, Bool, true, false, cond, nat_lt, List, [], ◌∷◌, ◌++◌, length, take, All, Option, Some, None, option_map, codes, refl, sym, ◌∙◌, ap, subst, inl, inr, arith}
use Rattle.std.proofs.lemmas.Bool.{ltb-true, ltb-false, lt-ltb, le-ltb, eqb-true, eqb-false, eq-eqb, ne_eqb}
use Rattle.std.proofs.lemmas.List.Elements.{All-cons, All-head, All-tail}
use Rattle.pico_board.specs.Rows.{IsFirstWide}
use Rattle.cli_inputs.specs.declared.forms.Form.{Form}
use Rattle.cli_inputs.specs.declared.forms.Form.TheVariants.{Flash, Otp, Script, Pattern, Require, Binary, Spec, Json, OtpText, Image, SourceImage, Elf, Uf2, Text}
use Rattle.text_words.specs.Writing.{hex_row}
use Rattle.cli_inputs.specs.Forms.{limit_of, rows_of, HasForm, AreWholeUf2Blocks, uf2_fault, IsOwnFault, IsFormFault, wide_from, otp_fault, own_fault, form_fault}
use Rattle.cli_inputs.proofs.JsonLemmas.{spec-formed, spec-faulty, spec-exact, spec-apart, table-formed, table-faulty, table-exact, table-apart, otp-formed as otp-text_formed, otp-text_faulty, otp-text_exact, otp-text_apart}
use Rattle.cli_inputs.proofs.AskLemmas.{ask-apart, ask-exact, ask-faulty, ask-formed}
use Rattle.cli_inputs.proofs.ScriptLemmas.{script-none, script-faulty, script-apart, script-exact}

abbrev pub IsNarrow : List ℕ → Type 0
IsNarrow rows = All (λ row. row < 2 ^ 24) rows

abbrev pub IsSmall : ℕ → Type 0
IsSmall row = row < 2 ^ 24

none-narrow : IsNarrow []
none-narrow k d lt = absurd (omega arith)

-- no row is found exactly where none is too wide
pub wide-none : (n : ℕ) (rows : List ℕ) → wide_from n rows ≡ None → IsNarrow rows
wide-none n [] h = none-narrow
wide-none n (x ∷ rows) h = go (nat_lt x (2 ^ 24)) refl h (wide-none (n + 1) rows)
  where
    go : (t : Bool) → nat_lt x (2 ^ 24) ≡ t → cond t (wide_from (n + 1) rows) (Some n) ≡ None
        → (wide_from (n + 1) rows ≡ None → IsNarrow rows) → IsNarrow (x ∷ rows)
    go true is e rest = All-cons IsSmall x rows (ltb-true x (2 ^ 24) is) (rest e)
    go false is e rest = cc

pub narrow-none : (n : ℕ) (rows : List ℕ) → IsNarrow rows → wide_from n rows ≡ None
narrow-none n [] all = refl
narrow-none n (x ∷ rows) all =
    ap (λ t. cond t (wide_from (n + 1) rows) (Some n)) (lt-ltb x (2 ^ 24) (All-head IsSmall x rows all))
    ∙ narrow-none (n + 1) rows (All-tail IsSmall x rows all)

-- the row that is found is the least one
abbrev pub IsFound : ℕ → List ℕ → ℕ → Type 0
IsFound n rows m = (i : ℕ) × (m ≡ n + i) × IsFirstWide rows i

pub wide-some : (n : ℕ) (rows : List ℕ) (m : ℕ) → wide_from n rows ≡ Some m → IsFound n rows m
wide-some n [] m h = cc
wide-some n (x ∷ rows) m h = go (nat_lt x (2 ^ 24)) refl h (wide-some (n + 1) rows m)
  where
    go : (t : Bool) → nat_lt x (2 ^ 24) ≡ t → cond t (wide_from (n + 1) rows) (Some n) ≡ Some m
        → (wide_from (n + 1) rows ≡ Some m → IsFound (n + 1) rows m) → IsFound n (x ∷ rows) m
    go true is e rest =
        let r = rest e in
        let inside : suc r.0 < suc (length rows) = omega (arith, r.2.inside) in (
          suc r.0,
          omega (arith, r.1),
          record {
            inside = inside;
            wide = r.2.wide;
            least = All-cons IsSmall x (take r.0 rows) (ltb-true x (2 ^ 24) is) r.2.least;
          },
        )
    go false is e rest =
        let here : m ≡ n = cc in
        (0, omega (arith, here), record { inside = omega arith; wide = ltb-false x (2 ^ 24) is; least = none-narrow })

pub some-wide : (n : ℕ) (rows : List ℕ) (i : ℕ) → IsFirstWide rows i → wide_from n rows ≡ Some (n + i)
some-wide n [] i is = absurd (omega (arith, is.inside))
some-wide n (x ∷ rows) zero is =
    ap (λ t. cond t (wide_from (n + 1) rows) (Some n)) (le-ltb x (2 ^ 24) is.wide) ∙ ap Some (omega arith)
some-wide n (x ∷ rows) (suc i) is =
    let inside : i < length rows = omega (arith, is.inside) in
    ap (λ t. cond t (wide_from (n + 1) rows) (Some n)) (lt-ltb x (2 ^ 24) (All-head IsSmall x (take i rows) is.least))
    ∙ some-wide (n + 1) rows i
    (record { inside = inside; wide = is.wide; least = All-tail IsSmall x (take i rows) is.least })
    ∙ ap Some (omega arith)

row-text : Option ℕ → Option (List ℕ)
row-text found = option_map (λ row. codes "otp-row " ++ hex_row row) found

-- an OTP file that is not too long has its form exactly where it has no fault
pub otp-formed : (bytes : List ℕ) → otp_fault bytes ≡ None → (length bytes % 4 ≡ 0) × IsNarrow (rows_of bytes)
otp-formed bytes h = go (length bytes % 4 == 0) refl h
  where
    rows : (found : Option ℕ) → wide_from 0 (rows_of bytes) ≡ found
        → option_map (λ row. codes "otp-row " ++ hex_row row) found ≡ None → IsNarrow (rows_of bytes)
    rows None is e = wide-none 0 (rows_of bytes) is
    rows (Some row) is e = cc

    go : (t : Bool) → (length bytes % 4 == 0) ≡ t
        → cond t (option_map (λ row. codes "otp-row " ++ hex_row row) (wide_from 0 (rows_of bytes)))
        (Some (codes "otp-length")) ≡ None
        → (length bytes % 4 ≡ 0) × IsNarrow (rows_of bytes)
    go true is e = (eqb-true (length bytes % 4) 0 is, rows (wide_from 0 (rows_of bytes)) refl e)
    go false is e = cc

otp-faulty : (bytes fault : List ℕ) → otp_fault bytes ≡ Some fault → IsOwnFault Otp bytes fault
otp-faulty bytes fault h = go (length bytes % 4 == 0) refl h
  where
    rows : length bytes % 4 ≡ 0 → (found : Option ℕ) → wide_from 0 (rows_of bytes) ≡ found
        → option_map (λ row. codes "otp-row " ++ hex_row row) found ≡ Some fault
        → IsOwnFault Otp bytes fault
    rows whole None is e = cc
    rows whole (Some row) is e =
        let f = wide-some 0 (rows_of bytes) row is in
        let same : row ≡ f.0 = omega (arith, f.1) in
        let text : fault ≡ codes "otp-row " ++ hex_row row = cc in
        inr (whole, row, subst (IsFirstWide (rows_of bytes)) (sym same) f.2, text)

    go : (t : Bool) → (length bytes % 4 == 0) ≡ t
        → cond t (option_map (λ row. codes "otp-row " ++ hex_row row) (wide_from 0 (rows_of bytes)))
        (Some (codes "otp-length")) ≡ Some fault
        → IsOwnFault Otp bytes fault
    go true is e = rows (eqb-true (length bytes % 4) 0 is) (wide_from 0 (rows_of bytes)) refl e
    go false is e = let text : fault ≡ codes "otp-length" = cc in inl (eqb-false (length bytes % 4) 0 is, text)

-- a UF2 file that is not too long has its form exactly where it has no fault
uf2-formed : (bytes : List ℕ) → uf2_fault bytes ≡ None → AreWholeUf2Blocks bytes
uf2-formed [] h = cc
uf2-formed (b ∷ bytes) h = (λ (e : (b ∷ bytes) ≡ []). cc, go (length (b ∷ bytes) % 512 == 0) refl h)
  where
    go : (t : Bool) → (length (b ∷ bytes) % 512 == 0) ≡ t → cond t None (Some (codes "uf2-length")) ≡ None
        → length (b ∷ bytes) % 512 ≡ 0
    go true is e = eqb-true (length (b ∷ bytes) % 512) 0 is
    go false is e = cc

uf2-faulty : (bytes fault : List ℕ) → uf2_fault bytes ≡ Some fault → IsOwnFault Uf2 bytes fault
uf2-faulty [] fault h = let text : fault ≡ codes "uf2-length" = cc in (λ whole. whole.0 refl, text)
uf2-faulty (b ∷ bytes) fault h = go (length (b ∷ bytes) % 512 == 0) refl h
  where
    go : (t : Bool) → (length (b ∷ bytes) % 512 == 0) ≡ t
        → cond t None (Some (codes "uf2-length")) ≡ Some fault → IsOwnFault Uf2 (b ∷ bytes) fault
    go true is e = cc
    go false is e =
        let text : fault ≡ codes "uf2-length" = cc in
        (λ whole. eqb-false (length (b ∷ bytes) % 512) 0 is whole.1, text)

uf2-exact : (bytes fault : List ℕ) → IsOwnFault Uf2 bytes fault → uf2_fault bytes ≡ Some fault
uf2-exact bytes fault own = go (uf2_fault bytes) refl
  where
    go : (o : Option (List ℕ)) → uf2_fault bytes ≡ o → uf2_fault bytes ≡ Some fault
    go None is = absurd (own.0 (uf2-formed bytes is))
    go (Some text) is = is ∙ ap Some ((uf2-faulty bytes text is).1 ∙ sym own.1)

-- a flash or an OTP file that is not too long has its form where it has no fault
own-formed : (form : Form) (bytes : List ℕ) → length bytes ≤ limit_of form → own_fault form bytes ≡ None
    → HasForm form bytes
own-formed Flash [] few h = cc
own-formed Flash (b ∷ bytes) few h = (λ (e : (b ∷ bytes) ≡ []). cc, few)
own-formed Otp bytes few h = let o = otp-formed bytes h in (few, o.0, o.1)
own-formed Script bytes few h = script-none bytes h
own-formed Pattern [] few h = cc
own-formed Pattern (b ∷ bytes) few h = (λ (e : (b ∷ bytes) ≡ []). cc, few)
own-formed SourceImage [] few h = cc
own-formed SourceImage (b ∷ bytes) few h = (λ (e : (b ∷ bytes) ≡ []). cc, few)
own-formed Binary bytes few h = few
own-formed Spec bytes few h = (few, spec-formed bytes h)
own-formed Json bytes few h = (few, table-formed bytes h)
own-formed OtpText bytes few h = (few, otp-text_formed bytes h)
own-formed Require bytes few h = (few, ask-formed bytes h)
own-formed Image bytes few h = few
own-formed Elf bytes few h = few
own-formed Uf2 bytes few h = (few, uf2-formed bytes h)
own-formed Text bytes few h = few

own-faulty : (form : Form) (bytes fault : List ℕ) → own_fault form bytes ≡ Some fault → IsOwnFault form bytes fault
own-faulty Flash [] fault h = let text : fault ≡ codes "empty" = cc in (refl, text)
own-faulty Flash (b ∷ bytes) fault h = cc
own-faulty Otp bytes fault h = otp-faulty bytes fault h
own-faulty Script bytes fault h = script-faulty bytes fault h
own-faulty Pattern [] fault h = let text : fault ≡ codes "pattern-length" = cc in (refl, text)
own-faulty Pattern (b ∷ bytes) fault h = cc
own-faulty SourceImage [] fault h = let text : fault ≡ codes "empty" = cc in (refl, text)
own-faulty SourceImage (b ∷ bytes) fault h = cc
own-faulty Binary bytes fault h = cc
own-faulty Spec bytes fault h = spec-faulty bytes fault h
own-faulty Json bytes fault h = table-faulty bytes fault h
own-faulty OtpText bytes fault h = otp-text_faulty bytes fault h
own-faulty Require bytes fault h = ask-faulty bytes fault h
own-faulty Image bytes fault h = cc
own-faulty Elf bytes fault h = cc
own-faulty Uf2 bytes fault h = uf2-faulty bytes fault h
own-faulty Text bytes fault h = cc

-- a file without a fault has its form
pub formed : (form : Form) (bytes : List ℕ) → form_fault form bytes ≡ None → HasForm form bytes
formed form bytes h = go (nat_lt (limit_of form) (length bytes)) refl h
  where
    go : (t : Bool) → nat_lt (limit_of form) (length bytes) ≡ t
        → cond t (Some (codes "too-large")) (own_fault form bytes) ≡ None → HasForm form bytes
    go true is e = cc
    go false is e = own-formed form bytes (ltb-false (limit_of form) (length bytes) is) e

-- a fault is one that the rules name
pub faulty : (form : Form) (bytes fault : List ℕ) → form_fault form bytes ≡ Some fault → IsFormFault form bytes fault
faulty form bytes fault h = go (nat_lt (limit_of form) (length bytes)) refl h
  where
    go : (t : Bool) → nat_lt (limit_of form) (length bytes) ≡ t
        → cond t (Some (codes "too-large")) (own_fault form bytes) ≡ Some fault → IsFormFault form bytes fault
    go true is e = let text : fault ≡ codes "too-large" = cc in inl (ltb-true (limit_of form) (length bytes) is, text)
    go false is e = inr (ltb-false (limit_of form) (length bytes) is, own-faulty form bytes fault e)

-- a file that has its form has no fault
pub form-apart : (form : Form) (bytes fault : List ℕ) → HasForm form bytes → IsFormFault form bytes fault → ⊥
form-apart Flash bytes fault form (inl large) = let few = form.1 in let many = large.0 in omega arith
form-apart Flash bytes fault form (inr (few, own)) = form.0 own.0
form-apart Otp bytes fault form (inl large) = let few = form.0 in let many = large.0 in omega arith
form-apart Otp bytes fault form (inr (few, inl (part, text))) = part form.1
form-apart Otp bytes fault form (inr (few, inr (whole, row, wide, text))) =
    let small = form.2 row (0) wide.inside in let large = wide.wide in omega arith
form-apart Script bytes fault form (inl large) = let few = form.short in let many = large.0 in omega arith
form-apart Script bytes fault form (inr (few, own)) = script-apart bytes fault form own
form-apart Pattern bytes fault form (inl large) = let few = form.1 in let many = large.0 in omega arith
form-apart Pattern bytes fault form (inr (few, own)) = form.0 own.0
form-apart SourceImage bytes fault form (inl large) = let few = form.1 in let many = large.0 in omega arith
form-apart SourceImage bytes fault form (inr (few, own)) = form.0 own.0
form-apart Binary bytes fault form (inl large) = let many = large.0 in omega (arith, form)
form-apart Binary bytes fault form (inr (few, own)) = own
form-apart Spec bytes fault form (inl large) = let few = form.0 in let many = large.0 in omega arith
form-apart Spec bytes fault form (inr (few, own)) = spec-apart bytes fault form.1.0 form.1.1 own
form-apart Json bytes fault form (inl large) = let few = form.0 in let many = large.0 in omega arith
form-apart Json bytes fault form (inr (few, own)) = table-apart bytes fault form.1.0 form.1.1 own
form-apart OtpText bytes fault form (inl large) = let few = form.0 in let many = large.0 in omega arith
form-apart OtpText bytes fault form (inr (few, own)) = otp-text_apart bytes fault form.1.0 form.1.1 own
form-apart Require bytes fault form (inl large) = let few = form.0 in let many = large.0 in omega arith
form-apart Require bytes fault form (inr (few, own)) = ask-apart bytes fault form.1.0 form.1.1 own
form-apart Image bytes fault form (inl large) = let few = form in let many = large.0 in omega arith
form-apart Elf bytes fault form (inl large) = let few = form in let many = large.0 in omega arith
form-apart Uf2 bytes fault form (inl large) = let few = form.0 in let many = large.0 in omega arith
form-apart Text bytes fault form (inl large) = let few = form in let many = large.0 in omega arith
form-apart Image bytes fault form (inr (few, own)) = own
form-apart Uf2 bytes fault form (inr (few, own)) = own.0 form.1
form-apart Text bytes fault form (inr (few, own)) = own
form-apart Elf bytes fault form (inr (few, own)) = own

-- a fault that the rules name is the one that is found
otp-exact : (bytes fault : List ℕ) → IsOwnFault Otp bytes fault → otp_fault bytes ≡ Some fault
otp-exact bytes fault (inl (part, text)) =
    ap (λ t. cond t (option_map (λ row. codes "otp-row " ++ hex_row row) (wide_from 0 (rows_of bytes)))
    (Some (codes "otp-length"))) (ne_eqb (length bytes % 4) 0 part)
    ∙ ap Some (sym text)
otp-exact bytes fault (inr (whole, row, wide, text)) =
    ap (λ t. cond t (option_map (λ row. codes "otp-row " ++ hex_row row) (wide_from 0 (rows_of bytes)))
    (Some (codes "otp-length"))) (eq-eqb (length bytes % 4) 0 whole)
    ∙ (ap (λ found. option_map (λ row. codes "otp-row " ++ hex_row row) found)
    (some-wide 0 (rows_of bytes) row wide ∙ ap Some (omega arith))
    ∙ ap Some (sym text))

own-exact : (form : Form) (bytes fault : List ℕ) → IsOwnFault form bytes fault → own_fault form bytes ≡ Some fault
own-exact Flash [] fault own = ap Some (sym own.1)
own-exact Flash (b ∷ bytes) fault own = let e : (b ∷ bytes) ≡ [] = own.0 in cc
own-exact Otp bytes fault own = otp-exact bytes fault own
own-exact Script bytes fault own = script-exact bytes fault own
own-exact Pattern [] fault own = ap Some (sym own.1)
own-exact Pattern (b ∷ bytes) fault own = let e : (b ∷ bytes) ≡ [] = own.0 in cc
own-exact SourceImage [] fault own = ap Some (sym own.1)
own-exact SourceImage (b ∷ bytes) fault own = let e : (b ∷ bytes) ≡ [] = own.0 in cc
own-exact Binary bytes fault own = absurd own
own-exact Spec bytes fault own = spec-exact bytes fault own
own-exact Json bytes fault own = table-exact bytes fault own
own-exact OtpText bytes fault own = otp-text_exact bytes fault own
own-exact Require bytes fault own = ask-exact bytes fault own
own-exact Image bytes fault own = absurd own
own-exact Elf bytes fault own = absurd own
own-exact Uf2 bytes fault own = uf2-exact bytes fault own
own-exact Text bytes fault own = absurd own

pub fault-exact : (form : Form) (bytes fault : List ℕ) → IsFormFault form bytes fault
    → form_fault form bytes ≡ Some fault
fault-exact form bytes fault (inl large) =
    ap (λ t. cond t (Some (codes "too-large")) (own_fault form bytes))
    (lt-ltb (limit_of form) (length bytes) large.0) ∙ ap Some (sym large.1)
fault-exact form bytes fault (inr (few, own)) =
    ap (λ t. cond t (Some (codes "too-large")) (own_fault form bytes))
    (le-ltb (limit_of form) (length bytes) few) ∙ own-exact form bytes fault own
