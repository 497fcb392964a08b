-- What a text asks is what its value asks, and its fault is that of the first rule that is broken.
use Rattle.std.proofs.Common.{ℕ, ◌≡◌, ◌≢◌, Bool, true, false, cond, List, Option, Some, None, Result, Ok, Err, IfOk, IfErr, refl, sym, ◌∙◌, ap, subst, inl, inr}
use Rattle.std.specs.Str.{is_utf8}
use Rattle.std.specs.Result.{result_err}
use Rattle.std.proofs.lemmas.Str.{IsUtf8-from_is_utf8, is_utf8-from_IsUtf8}
use Rattle.serde_json.specs.Data.{Data}
use Rattle.serde_json.specs.Read.{read}
use Rattle.check_require.specs.declared.requirement.Require.{Require}
use Rattle.check_require.specs.declared.requirement.RequireFault.{RequireFault}
use Rattle.check_require.specs.declared.requirement.RequireFault.TheVariants.{NotJson, Unknown, Value, Memory}
use Rattle.check_require.specs.Requires.{IsJsonText, RequireView, require_answer, require_from, require_of_value}
use Rattle.check_require.specs.Rules.{first_broken, require_rules}
use Rattle.check_require.specs.Texts.{IsNoText, IsRequireFault, IsRequireText, read_by, require_read, value_of}
use Rattle.check_require.proofs.RuleLemmas.{require_judged}

-- the value of a text is the one that is read
value-text : (bytes : List ℕ) (d : Data) → value_of bytes ≡ Some d → IsJsonText bytes d
value-text bytes d h = go (is_utf8 bytes) refl h
  where
    go : (t : Bool) → is_utf8 bytes ≡ t → cond t (read bytes) None ≡ Some d → IsJsonText bytes d
    go true is e = record { utf8 = IsUtf8-from_is_utf8 bytes is; reads = e }
    go false is e = cc

text-value : (bytes : List ℕ) (d : Data) → IsJsonText bytes d → value_of bytes ≡ Some d
text-value bytes d is =
    ap (λ t. cond t (read bytes) None) (is_utf8-from_IsUtf8 bytes is.utf8) ∙ is.reads

no-value : (bytes : List ℕ) → value_of bytes ≡ None → IsNoText bytes
no-value bytes h = λ d is. let e : None ≡ Some d = sym h ∙ text-value bytes d is in cc

no-text : (bytes : List ℕ) → IsNoText bytes → value_of bytes ≡ None
no-text bytes no_ = go (value_of bytes) refl
  where
    go : (o : Option Data) → value_of bytes ≡ o → o ≡ None
    go None is = refl
    go (Some d) is = absurd (no_ d (value-text bytes d is))

-- an answer by its fault
err-answer : (r : Result RequireView RequireFault) (f : RequireFault) → result_err r ≡ Some f → r ≡ Err f
err-answer (Ok a) f h = cc
err-answer (Err g) f h = let e : g ≡ f = cc in ap Err e

wrong : (d : Data) (f : RequireFault) → require_of_value d ≡ Err f → first_broken (require_rules d) ≡ Some f
wrong d f is = sym (require_judged d).first ∙ ap (λ r. result_err r) is

right : (d : Data) (f : RequireFault) → first_broken (require_rules d) ≡ Some f → require_of_value d ≡ Err f
right d f is = err-answer (require_of_value d) f ((require_judged d).first ∙ is)

unbroken : (d : Data) (ask : RequireView) → require_of_value d ≡ Ok ask → first_broken (require_rules d) ≡ None
unbroken d ask is = sym (require_judged d).first ∙ ap (λ r. result_err r) is

-- the text of what is read
pub read-text : (bytes : List ℕ) (ask : RequireView) → require_read bytes ≡ Ok ask → IsRequireText bytes ask
unfolding require_read
read-text bytes ask h = go (value_of bytes) refl h
  where
    go : (o : Option Data) → value_of bytes ≡ o → read_by o ≡ Ok ask → IsRequireText bytes ask
    go None is e = cc
    go (Some d) is e =
        record { value = d; text = value-text bytes d is; unbroken = unbroken d ask e; gives = e }

pub text-read : (bytes : List ℕ) (ask : RequireView) → IsRequireText bytes ask → require_read bytes ≡ Ok ask
unfolding require_read
text-read bytes ask is = ap read_by (text-value bytes is.value is.text) ∙ is.gives

-- the fault that is read
pub read-faulty : (bytes : List ℕ) (f : RequireFault) → require_read bytes ≡ Err f → IsRequireFault bytes f
unfolding require_read
read-faulty bytes f h = go (value_of bytes) refl h
  where
    go : (o : Option Data) → value_of bytes ≡ o → read_by o ≡ Err f → IsRequireFault bytes f
    go None is e = let same : f ≡ NotJson = cc in inl (no-value bytes is, same)
    go (Some d) is e = inr (d, value-text bytes d is, wrong d f e)

pub faulty-read : (bytes : List ℕ) (f : RequireFault) → IsRequireFault bytes f → require_read bytes ≡ Err f
unfolding require_read
faulty-read bytes f (inl (no_, is)) = ap read_by (no-text bytes no_) ∙ ap (λ (g : RequireFault). Err g) (sym is)
faulty-read bytes f (inr (d, text, broken)) = ap read_by (text-value bytes d text) ∙ right d f broken

-- what the reader answers is what is read, where there is memory
pub exactly : (bytes : List ℕ) (r : Result Require RequireFault)
    → IfOk r (λ a. (d : Data) × IsJsonText bytes d × (require_of_value d ≡ Ok (require_from a)))
    → IfErr r (λ f. f ≢ NotJson → f ≢ Memory → (d : Data) × IsJsonText bytes d × (require_of_value d ≡ Err f))
    → ((d : Data) → IsJsonText bytes d → r ≢ Err Memory → require_answer r ≡ require_of_value d)
    → r ≢ Err Memory → require_answer r ≡ require_read bytes
unfolding require_read
exactly bytes r ok err exact some = go (value_of bytes) refl
  where
    none : IsNoText bytes → (q : Result Require RequireFault) → q ≢ Err Memory
        → IfOk q (λ a. (d : Data) × IsJsonText bytes d × (require_of_value d ≡ Ok (require_from a)))
        → IfErr q (λ f. f ≢ NotJson → f ≢ Memory
        → (d : Data) × IsJsonText bytes d × (require_of_value d ≡ Err f))
        → require_answer q ≡ Err NotJson
    none no_ (Ok a) room told wrong_ = absurd (no_ told.0 told.1)
    none no_ (Err NotJson) room told wrong_ = refl
    none no_ (Err Unknown) room told wrong_ =
        let w = wrong_ (λ (e : Unknown ≡ NotJson). cc) (λ (e : Unknown ≡ Memory). cc) in absurd (no_ w.0 w.1)
    none no_ (Err (Value m)) room told wrong_ =
        let w = wrong_ (λ (e : Value m ≡ NotJson). cc) (λ (e : Value m ≡ Memory). cc) in absurd (no_ w.0 w.1)
    none no_ (Err Memory) room told wrong_ = absurd (room refl)

    go : (o : Option Data) → value_of bytes ≡ o → require_answer r ≡ read_by o
    go None is = none (no-value bytes is) r some ok err
    go (Some d) is = exact d (value-text bytes d is) some
