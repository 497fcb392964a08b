-- The word of the window that a boot starts, in the file of a map.
use Rattle.std.proofs.Common.{◌≡◌, ℕ, zero, suc, Bool, true, false, List, [], ◌∷◌, Some, length, map, refl, ap, ◌∙◌, arith}
use Rattle.std.specs.Prelude.{if◌then◌else◌, codes, slice_get}
use Rattle.std.proofs.lemmas.Option.{same_Some}
use Rattle.pico_board.specs.declared.boot.Cpu.{Cpu}
use Rattle.pico_board.specs.Content.{Content, IsContent}
use Rattle.slot_choice.specs.declared.choice.Choice.{Choice}
use Rattle.boot_rules.specs.declared.decision.Decision.TheVariants.{Bootsel, Start}
use Rattle.boot_rules.specs.declared.decision.Fall.{Fall}
use Rattle.boot_map.specs.declared.maps.FlashMap.{FlashMap}
use Rattle.boot_map.specs.declared.maps.MapRow.{MapRow}
use Rattle.boot_map.specs.MapRules.{IsMap}
use Rattle.boot_map.proofs.StartLemmas.{no-start, start-once, start-row}
use Rattle.text_lines.specs.Texts.{decision_text}
use Rattle.svg_marks.specs.declared.class.Class.TheVariants.{Starts}
use Rattle.svg_marks.specs.Marks.{class_text}
use Rattle.svg_marks.specs.Reading.{times}
use Rattle.svg_map.specs.Maps.{starts_words}
use Rattle.svg_map.proofs.MapLemmas.{map-times}
use Rattle.cli_map.specs.Texts.{bar_of, bars_of}
use Rattle.cli_map.specs.Works.{map_file}

not-true : (b : Bool) → (b ≡ true → ⊥) → b ≡ false
not-true true no_true = absurd (no_true refl)
not-true false no_true = refl

not-same : (k : ℕ) → zero ≡ suc k → ⊥
not-same k is = omega (arith, is)

module _ (m : FlashMap) where
  abbrev words : List MapRow → List (List ℕ)
  words rows = starts_words (map (bar_of m) rows)

  words-next : (r : MapRow) (rows : List MapRow) (b : Bool) → r.starts ≡ b
      → words (r ∷ rows) ≡ (if b then codes "starts" ∷ words rows else words rows)
  words-next r rows b is = ap (λ (x : Bool). if x then codes "starts" ∷ words rows else words rows) is

  -- where no row starts, there is no word
  none-words : (rows : List MapRow) → ((k : ℕ) (r : MapRow) → slice_get rows k ≡ Some r → r.starts ≡ false)
      → words rows ≡ []
  none-words [] none = refl
  none-words (r ∷ rows) none =
      words-next r rows false (none 0 r refl) ∙ none-words rows (λ k x at. none (suc k) x at)

  -- where one row starts and no other, there is one
  one-word : (rows : List MapRow) (k : ℕ) (r : MapRow) → slice_get rows k ≡ Some r → r.starts ≡ true
      → ((i j : ℕ) (x y : MapRow) → slice_get rows i ≡ Some x → slice_get rows j ≡ Some y → x.starts ≡ true
      → y.starts ≡ true → i ≡ j)
      → words rows ≡ codes "starts" ∷ []
  one-word [] k r at is one = cc
  one-word (r ∷ rows) zero x at is one =
      let here : r.starts ≡ true = ap (λ (y : MapRow). y.starts) (same_Some r x at) ∙ is in
      words-next r rows true here
      ∙ ap (λ ws. codes "starts" ∷ ws) (none-words rows (λ k y there. not-true y.starts
      (λ also. not-same k (one 0 (suc k) r y refl there here also))))
  one-word (r ∷ rows) (suc k) x at is one =
      words-next r rows false (not-true r.starts (λ also. not-same k (one 0 (suc k) r x refl at also is)))
      ∙ one-word rows k x at is (λ i j y z p q first second.
      let same : suc i ≡ suc j = one (suc i) (suc j) y z p q first second in omega (arith, same))

module _ (c : Content) (cpu : Cpu) (m : FlashMap) (right : IsContent c) (is : IsMap c cpu m) where
  pub started-times : (choice : Choice) → m.decision ≡ Start choice
      → times (class_text Starts) (map_file (length c.flash) m) ≡ 1
  started-times choice e =
      let row = start-row c cpu m right is choice e in
      map-times Starts (length c.flash) (bars_of m) (decision_text m.decision)
      ∙ ap length (one-word m m.rows.items row.0 row.1 row.2 row.3
      (λ j k x y one two first second. start-once c cpu m right is j k x y one two first second))

  pub fallen-times : (fall : Fall) → m.decision ≡ Bootsel fall
      → times (class_text Starts) (map_file (length c.flash) m) ≡ 0
  fallen-times fall e =
      map-times Starts (length c.flash) (bars_of m) (decision_text m.decision)
      ∙ ap length (none-words m m.rows.items (λ k r at. no-start c cpu m right is fall e k r at))
