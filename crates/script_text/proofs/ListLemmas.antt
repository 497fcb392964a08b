-- The text of a script so far, event by event.
use Rattle.std.proofs.Common.{◌≡◌, ℕ, ◌+◌, ◌<◌, List, [], ◌∷◌, ◌++◌, length, sym, ap, ◌∙◌, arith, append_assoc}
use Rattle.std.specs.Prelude.{codes}
use Rattle.boot_script.specs.declared.limits.TheConstants.{RECORD_LIMIT}
use Rattle.boot_script.specs.Events.{EventView}
use Rattle.text_words.specs.Writing.{line}
use Rattle.script_text.specs.Reading.{token_behind}
use Rattle.script_text.specs.Listing.{listed_event, listed, listed_from}

-- the text has the events before those that are left, which are few
pub record IsListed (all left : List EventView) (number next : ℕ) (text : List ℕ) : Type 0 where
  pub few : number + length left < RECORD_LIMIT
  pub listed_so : listed all ≡ text ++ listed_from number next left

pub listed-first : (all : List EventView) (text : List ℕ) → length all < RECORD_LIMIT → text ≡ []
    → IsListed all all 0 1 text
listed-first all text few empty = record {
  few = omega (arith, few);
  listed_so = ap (λ t. t ++ listed_from 0 1 all) (sym empty);
}

pub listed-more : (all left others : List EventView) (e : EventView) (number next behind : ℕ) (text new : List ℕ)
    → left ≡ e ∷ others → new ≡ text ++ listed_event number next e → behind ≡ token_behind next e
    → IsListed all left number next text → IsListed all others (number + 1) behind new
listed-more all left others e number next behind text new first is token so_far =
    let size = ap (λ (es : List EventView). length es) first in
    let few = so_far.few in record {
      few = omega (arith, few, size);
      listed_so = so_far.listed_so ∙ ap (λ es. text ++ listed_from number next es) first
          ∙ sym (append_assoc text (listed_event number next e)
          (listed_from (number + 1) (token_behind next e) others))
          ∙ ap (λ t. t ++ listed_from (number + 1) (token_behind next e) others) (sym is)
          ∙ ap (λ t. new ++ listed_from (number + 1) t others) (sym token);
    }

pub listed-end : (all left : List EventView) (number next : ℕ) (text new : List ℕ) → left ≡ []
    → new ≡ text ++ line (codes "end") → IsListed all left number next text → new ≡ listed all
listed-end all left number next text new none is so_far =
    is ∙ ap (λ es. text ++ listed_from number next es) (sym none) ∙ sym so_far.listed_so
