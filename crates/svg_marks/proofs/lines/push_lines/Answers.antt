use Rattle.std.proofs.Common.{rules, ◌≡◌, ◌++◌, OnOk, codes, List, ℕ, subst}
use Rattle.svg_marks.specs.Marks.{class_text, position_text}
use Rattle.svg_marks.proofs.WordLemmas.{lines-mark}
use Rattle.svg_marks.proofs.lines.push_lines.Goals as goal

pub returns : goal.returns
unfolding class_text
returns c =
    let front : c.deref.result.now ≡ codes "<text " ++ (class_text c.args.class
    ++ (position_text c.args.x c.args.y ++ codes " xml:space=\"preserve\">")) = search rules in
    subst (λ (t : List ℕ). OnOk c.push_content.result (c.push_content.new.out.items ≡ c.args.out.now.items ++ t))
    (lines-mark c.args.class c.args.x c.args.y c.args.words.now c.args.starts c.deref.result.now front)
    c.push_content.ensures
