-- The numbers that texts name.
use Rattle.std.proofs.Common.{◌≡◌, ℕ, ◌≤◌, ◌&&◌, Bool, true, false, cond, nat_le, List, ◌++◌, length, Option, Some, None, IfSome, codes, option_and_then, refl, ap, ◌∙◌, arith}
use Rattle.std.proofs.lemmas.Bool.{and_parts, le-leb, leb-true}
use Rattle.text_words.specs.Reading.{behind_word, hex_value}
use Rattle.text_words.proofs.BytesLemmas.{word-follows}
use Rattle.table_json.specs.Forms.{number_of_digits, number_of_text}

-- a text is 0x and 1 to 6 digits of this number
abbrev pub IsNamed : List ℕ → ℕ → Type 0
IsNamed text n =
    (digits : List ℕ) × (text ≡ codes "0x" ++ digits) × (1 ≤ length digits) × (length digits ≤ 6)
    × (hex_value 0 digits ≡ Some n)

digits-few : (digits : List ℕ) (n : ℕ) → number_of_digits digits ≡ Some n
    → (1 ≤ length digits) × (length digits ≤ 6) × (hex_value 0 digits ≡ Some n)
digits-few digits n is = by_test (nat_le 1 (length digits) && nat_le (length digits) 6) refl is
  where
    by_test : (t : Bool) → (nat_le 1 (length digits) && nat_le (length digits) 6) ≡ t
        → cond t (hex_value 0 digits) None ≡ Some n
        → (1 ≤ length digits) × (length digits ≤ 6) × (hex_value 0 digits ≡ Some n)
    by_test true few value =
        let parts = and_parts (nat_le 1 (length digits)) (nat_le (length digits) 6) few in
        (leb-true 1 (length digits) parts.0, leb-true (length digits) 6 parts.1, value)
    by_test false many value = cc

pub text-named : (text : List ℕ) (n : ℕ) → number_of_text text ≡ Some n → IsNamed text n
text-named text n is = by_rest (behind_word (codes "0x") text) (word-follows (codes "0x") text) is
  where
    by_rest : (o : Option (List ℕ)) → IfSome o (λ rest. text ≡ codes "0x" ++ rest)
        → option_and_then number_of_digits o ≡ Some n → IsNamed text n
    by_rest None none is = cc
    by_rest (Some digits) whole is =
        let few = digits-few digits n is in (digits, whole, few.0, few.1, few.2)

pub named-text : (text : List ℕ) (n : ℕ) → IsNamed text n → number_of_text text ≡ Some n
named-text text n (digits, whole, least, most, value) =
    ap number_of_text whole
    ∙ ap (λ t. cond (t && nat_le (length digits) 6) (hex_value 0 digits) None) (le-leb 1 (length digits) least)
    ∙ ap (λ t. cond t (hex_value 0 digits) None) (le-leb (length digits) 6 most)
    ∙ value
