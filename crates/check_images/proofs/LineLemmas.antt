-- The lines of windows, one window after another.
use Rattle.std.proofs.Common.{◌≡◌, ◌∙◌, ℕ, ◌+◌, ◌<◌, zero, suc, List, [], ◌∷◌, ◌++◌, length, take, get_or, Option, Some, None, refl, sym, ap, subst, arith, append_assoc, append-nil}
use Rattle.std.specs.List.{cons_option, filter_map}
use Rattle.check_images.specs.Lines.{AreLinesOf, option_list}

module _ {W X : Type 0} (IsLine : W → Option X → Type 0) where
  -- the lines of one window more
  pub lines-more : (ws : List W) (lines : List X) (w : W) (line : Option X) → AreLinesOf IsLine ws lines
      → IsLine w line → AreLinesOf IsLine (ws ++ w ∷ []) (lines ++ option_list line)
  lines-more [] lines w line none is =
      (line, [], is, refl, ap (λ xs. xs ++ option_list line) none ∙ sym (append-nil (option_list line)))
  lines-more (v ∷ ws) lines w line are is = (
    are.0,
    are.1 ++ option_list line,
    are.2,
    lines-more ws are.1 w line are.3 is,
    ap (λ xs. xs ++ option_list line) are.4 ∙ append_assoc (option_list are.0) are.1 (option_list line),
  )

  -- where a window has one line, or none, the windows have one list of lines
  pub lines-once : ((w : W) (a b : Option X) → IsLine w a → IsLine w b → a ≡ b) → (ws : List W) (one two : List X)
      → AreLinesOf IsLine ws one → AreLinesOf IsLine ws two → one ≡ two
  lines-once only [] one two a b = a ∙ sym b
  lines-once only (w ∷ ws) one two a b =
      a.4 ∙ (ap (λ line. option_list line ++ a.1) (only w a.0 b.0 a.2 b.2)
      ∙ (ap (λ others. option_list b.0 ++ others) (lines-once only ws a.1 b.1 a.3 b.3) ∙ sym b.4))

cons-is : {X : Type 0} (o : Option X) (xs : List X) → cons_option o xs ≡ option_list o ++ xs
cons-is None xs = refl
cons-is (Some x) xs = refl

-- the lines by a function
pub lines-by : {W X : Type 0} (IsLine : W → Option X → Type 0) (line : W → Option X)
    → ((w : W) → IsLine w (line w)) → (ws : List W) → AreLinesOf IsLine ws (filter_map line ws)
lines-by IsLine line each [] = refl
lines-by IsLine line each (w ∷ ws) =
    (line w, filter_map line ws, each w, lines-by IsLine line each ws, cons-is (line w) (filter_map line ws))

-- those of one window more
pub filter-more : {W X : Type 0} (line : W → Option X) (ws : List W) (w : W)
    → filter_map line (ws ++ w ∷ []) ≡ filter_map line ws ++ option_list (line w)
filter-more line [] w = cons-is (line w) [] ∙ append-nil (option_list (line w))
filter-more line (v ∷ ws) w =
    ap (cons_option (line v)) (filter-more line ws w)
    ∙ (cons-is (line v) (filter_map line ws ++ option_list (line w))
    ∙ (sym (append_assoc (option_list (line v)) (filter_map line ws) (option_list (line w)))
    ∙ ap (λ xs. xs ++ option_list (line w)) (sym (cons-is (line v) (filter_map line ws)))))

take-next : {X : Type 0} (xs : List X) (i : ℕ) (d : X) → i < length xs → take (i + 1) xs ≡ take i xs ++ get_or xs i d ∷ []
take-next [] i d lt = absurd (omega (arith, lt))
take-next (x ∷ xs) zero d lt = refl
take-next (x ∷ xs) (suc i) d lt =
    let one : suc i + 1 ≡ suc (i + 1) = omega arith in
    ap (λ n. take n (x ∷ xs)) one ∙ ap (λ ys. x ∷ ys) (take-next xs i d (omega (arith, lt)))

-- those of one window more, as a loop reads them
pub filter-next : {W X : Type 0} (line : W → Option X) (ws : List W) (i : ℕ) (d : W) → i < length ws
    → (lines : List X) → lines ≡ filter_map line (take i ws) → (o : Option X) → o ≡ line (get_or ws i d)
    → (new : List X) → new ≡ lines ++ option_list o → new ≡ filter_map line (take (i + 1) ws)
filter-next line ws i d lt lines are o is new more =
    more ∙ (ap (λ xs. xs ++ option_list o) are
    ∙ (ap (λ x. filter_map line (take i ws) ++ option_list x) is
    ∙ (sym (filter-more line (take i ws) (get_or ws i d)) ∙ ap (filter_map line) (sym (take-next ws i d lt)))))

pub lines-next : {W X : Type 0} (IsLine : W → Option X → Type 0) (ws : List W) (i : ℕ) (d : W) → i < length ws
    → (lines : List X) → AreLinesOf IsLine (take i ws) lines → (o : Option X) → IsLine (get_or ws i d) o
    → (new : List X) → new ≡ lines ++ option_list o → AreLinesOf IsLine (take (i + 1) ws) new
lines-next IsLine ws i d lt lines are o is new more =
    subst (λ (vs : List _). AreLinesOf IsLine vs new) (sym (take-next ws i d lt))
    (subst (λ (xs : List _). AreLinesOf IsLine (take i ws ++ get_or ws i d ∷ []) xs) (sym more)
    (lines-more IsLine (take i ws) lines (get_or ws i d) o are is))
