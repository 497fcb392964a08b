-- What is told of a content.
use Rattle.std.proofs.Common.{◌≡◌, ℕ, Bool, true, ◌&&◌, List, sym, ap, ◌∙◌}
use Rattle.std.specs.Prelude.{map, nat_lt}
use Rattle.pico_board.specs.declared.boot.BootKind.TheVariants.{Normal}
use Rattle.boot_rules.specs.declared.decision.Decision.{Decision}
use Rattle.boot_rules.specs.Choosing.{decision_in}
use Rattle.slot_caveats.specs.declared.caveat.Caveat.{Caveat}
use Rattle.check_data.specs.Early.{starts_early_by}
use Rattle.pico_board.specs.Content.{Content}
use Rattle.boot_cuts.specs.declared.answers.Answer.{Answer}
use Rattle.cut_class.specs.declared.class.Class.TheVariants.{Mixed}
use Rattle.boot_cuts.specs.Answers.{answer_of}
use Rattle.cut_class.specs.Classes.{is_same_class}
use Rattle.check_images.specs.Raising.{boot_raises}
use Rattle.check_counts.specs.Facts.{Sides, caveats_on, facts_of, has_other_table, is_early, is_on_other_data, is_raising}

-- a mixed cut
pub raising-then : (s : Sides) (d : Content) (a : Answer) (n : ℕ) → a ≡ answer_of s.first s.last s.torn s.cpu d
    → is_same_class Mixed a.class ≡ true → n ≡ boot_raises d s.cpu → nat_lt 0 n ≡ is_raising s d
raising-then s d a n is mixed raised =
    ap (λ k. nat_lt 0 k) raised
    ∙ sym (ap (λ b. b && nat_lt 0 (boot_raises d s.cpu))
    (sym (ap (λ (x : Answer). is_same_class Mixed x.class) is) ∙ mixed))

-- an early start, by what is known of the two ends
pub early-told : (s : Sides) (d : Content) (f g e : Decision) (c z x : Content) (r : Bool)
    → r ≡ starts_early_by f g c z s.loose x e → f ≡ decision_in s.first s.cpu Normal
    → g ≡ decision_in s.last s.cpu Normal → c ≡ s.first → z ≡ s.last → x ≡ d
    → e ≡ decision_in d s.cpu Normal → r ≡ is_early s d
early-told s d f g e c z x r is ef eg ec ez ex ee =
    is
    ∙ (ap (λ y. starts_early_by y g c z s.loose x e) ef
    ∙ (ap (λ y. starts_early_by (decision_in s.first s.cpu Normal) y c z s.loose x e) eg
    ∙ (ap (λ y. starts_early_by (decision_in s.first s.cpu Normal) (decision_in s.last s.cpu Normal) y z s.loose x e) ec
    ∙ (ap (λ y. starts_early_by (decision_in s.first s.cpu Normal) (decision_in s.last s.cpu Normal) s.first y
    s.loose x e) ez
    ∙ (ap (λ y. starts_early_by (decision_in s.first s.cpu Normal) (decision_in s.last s.cpu Normal) s.first s.last
    s.loose y e) ex
    ∙ ap (λ y. starts_early_by (decision_in s.first s.cpu Normal) (decision_in s.last s.cpu Normal) s.first s.last
    s.loose d y) ee)))))

-- all that is told of a content
pub facts-told : (s : Sides) (d : Content) (a : Answer) (e r t : Bool) (ws : List Bool) (list : List Caveat)
    → a ≡ answer_of s.first s.last s.torn s.cpu d → e ≡ is_early s d
    → ws ≡ map (λ w. is_on_other_data s w d) s.windows → r ≡ is_raising s d → t ≡ has_other_table s.first d
    → list ≡ caveats_on s.cpu d
    → record { answer = a; early = e; other_data = ws; raises = r; other_table = t; caveats = list } ≡ facts_of s d
facts-told s d a e r t ws list ea ee ew er et el =
    ap (λ x. record { answer = x; early = e; other_data = ws; raises = r; other_table = t; caveats = list }) ea
    ∙ (ap (λ x. record {
      answer = (facts_of s d).answer;
      early = x;
      other_data = ws;
      raises = r;
      other_table = t;
      caveats = list;
    }) ee
    ∙ (ap (λ x. record {
      answer = (facts_of s d).answer;
      early = is_early s d;
      other_data = x;
      raises = r;
      other_table = t;
      caveats = list;
    }) ew
    ∙ (ap (λ x. record {
      answer = (facts_of s d).answer;
      early = is_early s d;
      other_data = (facts_of s d).other_data;
      raises = x;
      other_table = t;
      caveats = list;
    }) er
    ∙ (ap (λ x. record {
      answer = (facts_of s d).answer;
      early = is_early s d;
      other_data = (facts_of s d).other_data;
      raises = is_raising s d;
      other_table = x;
      caveats = list;
    }) et
    ∙ ap (λ x. record {
      answer = (facts_of s d).answer;
      early = is_early s d;
      other_data = (facts_of s d).other_data;
      raises = is_raising s d;
      other_table = has_other_table s.first d;
      caveats = x;
    }) el))))
