-- The lines of units that are not reached, one after another.
use Rattle.std.proofs.Common.{◌≡◌, ℕ, suc, ◌+◌, ◌-◌, ◌<◌, List, ◌++◌, ap, ◌∙◌, sym, append_assoc, arith}
use Rattle.cli_course.specs.Outcomes.{line}
use Rattle.cli_explain.specs.Texts.{unreached_lines, unreached_text}

next : (first i count : ℕ) → i < count → unreached_lines (first + i) (count - i)
    ≡ line (unreached_text (first + i)) ++ unreached_lines (first + (i + 1)) (count - (i + 1))
next first i count lt =
    let left : count - i ≡ suc (count - (i + 1)) = omega arith in
    let more : first + i + 1 ≡ first + (i + 1) = omega arith in
    ap (unreached_lines (first + i)) left
    ∙ ap (λ k. line (unreached_text (first + i)) ++ unreached_lines k (count - (i + 1))) more

-- one line more
pub unreached_more : (first i count : ℕ) (text unit new whole : List ℕ) → i < count
    → text ++ unreached_lines (first + i) (count - i) ≡ whole → unit ≡ line (unreached_text (first + i))
    → new ≡ text ++ unit → new ++ unreached_lines (first + (i + 1)) (count - (i + 1)) ≡ whole
unreached_more first i count text unit new whole lt was is now =
    let rest = unreached_lines (first + (i + 1)) (count - (i + 1)) in
    ap (λ xs. xs ++ rest) (now ∙ ap (λ u. text ++ u) is)
    ∙ (append_assoc text (line (unreached_text (first + i))) rest
    ∙ (ap (λ xs. text ++ xs) (sym (next first i count lt)) ∙ was))
