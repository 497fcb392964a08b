-- The class of a cut is that of the function that compares.
use Rattle.std.proofs.Common.{◌≡◌, ◌⊎◌, inl, inr, Bool, true, false, List, [], ◌∷◌, length, Option, Some, None, Ok, Err, refl, sym, ap, ◌∙◌, subst, arith}
use Rattle.std.specs.Prelude.{◌↔◌, ◌&&◌, ◌||◌, not, is_none, nat_lt, if◌then◌else◌, map, Result}
use Rattle.std.specs.Result.{result_ok}
use Rattle.std.proofs.lemmas.Bool.{and_from, and_parts, lt-ltb, ltb-true}
use Rattle.pico_board.specs.declared.Step.{Step}
use Rattle.pico_board.specs.declared.boot.Cpu.{Cpu}
use Rattle.pico_board.specs.declared.boot.BootKind.TheVariants.{Normal}
use Rattle.pico_board.specs.declared.window.Window.{Window}
use Rattle.pico_board.specs.Content.{Content, window_bytes}
use Rattle.block_loop.specs.Loop.{loop_of}
use Rattle.image_def.specs.declared.started.Started.{Started}
use Rattle.image_check.specs.declared.why.Why.{Why}
use Rattle.image_check.specs.Image.{defined_in, image_at}
use Rattle.image_check.specs.SameImage.{HoldsImage, SameImage}
use Rattle.image_check.specs.Valid.{Valid}
use Rattle.image_check.proofs.LawLemmas.{at-valid, valid-at}
use Rattle.image_check.proofs.SameLemmas.{held-image, held-loop}
use Rattle.slot_choice.specs.declared.choice.Choice.{Choice}
use Rattle.slot_choice.specs.declared.unit.Member.TheVariants.{A}
use Rattle.boot_rules.specs.declared.decision.Decision.{Decision}
use Rattle.boot_rules.specs.declared.decision.Decision.TheVariants.{Start, Bootsel}
use Rattle.boot_rules.specs.Choosing.{decision_in}
use Rattle.boot_rules.specs.Chosen.{Chosen}
use Rattle.boot_rules.proofs.DecisionLemmas.{chosen-decision, decision-chosen}
use Rattle.boot_sweep.specs.Comparing.{agree_on, is_same_started}
use Rattle.boot_sweep.specs.Moving.{MoveView}
use Rattle.boot_sweep.proofs.ResultLemmas.{agree-is, decision-same, is-agree, is-same, same-decision, same-is, same-started, start-holds}
use Rattle.boot_cuts.specs.declared.answers.Answer.{Answer}
use Rattle.cut_class.specs.declared.class.Class.{Class}
use Rattle.cut_class.specs.declared.class.Class.TheVariants as classes
use Rattle.boot_cuts.specs.Answers.{answer_of}
use Rattle.boot_cuts.specs.Classes.{HasImageOf, IsClass, IsFinished, IsFormer, IsTail, IsWhole, StoodIn, furthest}
use Rattle.boot_cuts.specs.Classing.{agrees_to_end, class_of, has_image_of, is_as_on, is_image, is_mended, is_tail, is_unmapped, other_class, stands_in, stood_in}
use Rattle.boot_cuts.specs.Tears.{IsLeftTorn, is_left_torn, left_torn}
use Rattle.boot_cuts.specs.Told.{AreAnswers, IsAnswer}
use Rattle.boot_cuts.proofs.TearLemmas.{torn-exactly}

-- the image of the decision on b has its bytes in d
has-image : (b d : Content) (cpu : Cpu) (e : Decision) → HasImageOf b d e cpu → has_image_of cpu b d e ≡ true
has-image b d cpu (Start choice) same =
    is-same cpu (window_bytes b choice.image.window) (window_bytes d choice.image.window) choice.image same
has-image b d cpu (Bootsel fall) same = refl

image-has : (b d : Content) (cpu : Cpu) (e : Decision) → Chosen b cpu Normal e → has_image_of cpu b d e ≡ true
    → HasImageOf b d e cpu
image-has b d cpu (Start choice) chosen same =
    same-is cpu (window_bytes b choice.image.window) (window_bytes d choice.image.window) choice.image
    (start-holds b cpu choice chosen) same
image-has b d cpu (Bootsel fall) chosen same = tt

-- a normal boot decides on both so, and the image has the same bytes
as-on : (b d : Content) (cpu : Cpu) (e : Decision) → Chosen b cpu Normal e → Chosen d cpu Normal e
    → HasImageOf b d e cpu → is_as_on (decision_in b cpu Normal) cpu b d (decision_in d cpu Normal) ≡ true
as-on b d cpu e first here image =
    let one = chosen-decision b cpu Normal e first in
    let two = chosen-decision d cpu Normal e here in
    and_from _ _ (decision-same (decision_in d cpu Normal) (decision_in b cpu Normal) (sym two ∙ one))
    (ap (has_image_of cpu b d) (sym one) ∙ has-image b d cpu e image)

on-as : (b d : Content) (cpu : Cpu) → is_as_on (decision_in b cpu Normal) cpu b d (decision_in d cpu Normal) ≡ true
    → decision_in d cpu Normal ≡ decision_in b cpu Normal
on-as b d cpu is = same-decision (decision_in d cpu Normal) (decision_in b cpu Normal) (and_parts _ _ is).0

former-by : (c d : Content) (cpu : Cpu)
    → is_as_on (decision_in c cpu Normal) cpu c d (decision_in d cpu Normal) ≡ true → IsFormer c d cpu
former-by c d cpu is = record {
  decision = decision_in c cpu Normal;
  first = decision-chosen c cpu Normal;
  here = subst (λ e. Chosen d cpu Normal e) (on-as c d cpu is) (decision-chosen d cpu Normal);
  image = image-has c d cpu (decision_in c cpu Normal) (decision-chosen c cpu Normal) (and_parts _ _ is).1;
}

false-true : (b : Bool) → b ≡ false → b ≡ true → ⊥
false-true b e f = let g : false ≡ true = sym e ∙ f in cc

-- what does not hold is false
not-so : {P : Type 0} (b : Bool) → (b ≡ true → P) → (P → ⊥) → b ≡ false
not-so true holds never = absurd (never (holds refl))
not-so false holds never = refl

negated : (b : Bool) → b ≡ false → not b ≡ true
negated true e = cc
negated false e = refl

unnegated : (b : Bool) → not b ≡ true → b ≡ false
unnegated true e = cc
unnegated false e = refl

-- a window that is not left torn
mended-is : (moves : List MoveView) (w : Window) → (IsLeftTorn moves w → ⊥) → not (is_left_torn (left_torn moves) w) ≡ true
mended-is moves w mended =
    negated (is_left_torn (left_torn moves) w)
    (not-so (is_left_torn (left_torn moves) w) (torn-exactly moves w).1 mended)

is-mended : (moves : List MoveView) (w : Window) → not (is_left_torn (left_torn moves) w) ≡ true → IsLeftTorn moves w → ⊥
is-mended moves w e torn = false-true _ (unnegated _ e) ((torn-exactly moves w).0 torn)

-- an image that stands in a content
started-self : (s : Started) → is_same_started s s ≡ true
started-self s =
    let choice : Choice = record { image = s; member = A; other = None; updated = false } in
    (and_parts _ _ (decision-same (Start choice) (Start choice) refl)).0

stands-is : (x : Content) (cpu : Cpu) (s : Started) → stands_in cpu x s ≡ true → Valid x s.window cpu false s
stands-is x cpu s e = go (image_at x s.window cpu false) refl e
  where
    go : (r : Result Started Why) → image_at x s.window cpu false ≡ r → is_image s (result_ok r) ≡ true
        → Valid x s.window cpu false s
    go (Ok t) is same = valid-at x s.window cpu false s (is ∙ ap (λ y. Ok y) (same-started t s same))
    go (Err why) is same = cc

is-stands : (x : Content) (cpu : Cpu) (s : Started) → Valid x s.window cpu false s → stands_in cpu x s ≡ true
is-stands x cpu s v = ap (λ r. is_image s (result_ok r)) (at-valid x s.window cpu false s v) ∙ started-self s

-- it holds the image
holds : (x : Content) (cpu : Cpu) (s : Started) → Valid x s.window cpu false s
    → HoldsImage cpu (window_bytes x s.window) s
holds x cpu s v = record { image = v.image; entry = v.entry; sound = v.sound; started = v.started }

pub held-by : (x : Content) (cpu : Cpu) (s : Started) → stands_in cpu x s ≡ true
    → HoldsImage cpu (window_bytes x s.window) s
held-by x cpu s e = holds x cpu s (stands-is x cpu s e)

stood-is : (x d : Content) (cpu : Cpu) (s : Started) → stood_in cpu x d s ≡ true → StoodIn x d cpu s
stood-is x d cpu s e =
    let both = and_parts _ _ e in
    let valid = stands-is x cpu s both.0 in record {
      valid = valid;
      image = same-is cpu (window_bytes x s.window) (window_bytes d s.window) s (holds x cpu s valid) both.1;
    }

is-stood : (x d : Content) (cpu : Cpu) (s : Started) → StoodIn x d cpu s → stood_in cpu x d s ≡ true
is-stood x d cpu s h =
    and_from _ _ (is-stands x cpu s h.valid)
    (is-same cpu (window_bytes x s.window) (window_bytes d s.window) s h.image)

-- the window up to the furthest block, of an image that stands there
tail-of : (z d : Content) (cpu : Cpu) (s : Started) (v : Valid z s.window cpu false s)
    → (is_unmapped (defined_in cpu (window_bytes z s.window))
    && agrees_to_end (window_bytes z s.window) (window_bytes d s.window) (loop_of (window_bytes z s.window)))
    ≡ (is_none v.image.def.map_item && (nat_lt 1 (length v.sound.loop)
    && agree_on (window_bytes z s.window) (window_bytes d s.window) 0 (furthest 0 v.sound.loop)))
tail-of z d cpu s v =
    let one = window_bytes z s.window in
    let two = window_bytes d s.window in
    let h : HoldsImage cpu one s = record { image = v.image; entry = v.entry; sound = v.sound; started = v.started } in
    ap (λ r. is_unmapped r && agrees_to_end one two (loop_of one)) (held-image cpu one s h)
    ∙ ap (λ r. is_none v.image.def.map_item && agrees_to_end one two r) (held-loop cpu one s h)

none-is : {A : Type 0} (o : Option A) → is_none o ≡ true → o ≡ None
none-is None e = refl
none-is (Some x) e = cc

module _ (c z : Content) (moves : List MoveView) (d : Content) (cpu : Cpu) where
  abbrev torn : List Step
  torn = left_torn moves

  -- a normal boot on d starts one image
  start-at : (choice : Choice) → Chosen d cpu Normal (Start choice) → decision_in d cpu Normal ≡ Start choice
  start-at choice here = sym (chosen-decision d cpu Normal (Start choice) here)

  same-choice : (a b : Choice) → (let x : Decision = Start a in let y : Decision = Start b in x ≡ y) → a ≡ b
  same-choice a b e = cc

  one-start : (a b : Choice) → Chosen d cpu Normal (Start a) → Chosen d cpu Normal (Start b) → a ≡ b
  one-start a b first second = same-choice a b (sym (start-at a first) ∙ start-at b second)

  abbrev as_before : Bool
  as_before = is_as_on (decision_in c cpu Normal) cpu c d (decision_in d cpu Normal)

  abbrev as_after : Bool
  as_after =
      is_mended torn (decision_in z cpu Normal)
      && is_as_on (decision_in z cpu Normal) cpu z d (decision_in d cpu Normal)

  by-former : IsFormer c d cpu → as_before ≡ true
  by-former h = as-on c d cpu h.decision h.first h.here h.image

  by-finished : IsFinished z moves d cpu → as_after ≡ true
  by-finished f =
      and_from _ _ (ap (is_mended torn) (sym (chosen-decision z cpu Normal (Start f.choice) f.last))
      ∙ mended-is moves f.choice.image.window f.mended)
      (as-on z d cpu (Start f.choice) f.last f.here f.image)

  finished-by : as_after ≡ true → IsFinished z moves d cpu
  finished-by is = go (decision_in z cpu Normal) refl (and_parts _ _ is).0
    where
      go : (e : Decision) → decision_in z cpu Normal ≡ e → is_mended torn e ≡ true → IsFinished z moves d cpu
      go (Bootsel fall) e mended = cc
      go (Start choice) e mended =
          let both = (and_parts _ _ is).1 in
          let last = subst (λ x. Chosen z cpu Normal x) e (decision-chosen z cpu Normal) in record {
            choice = choice;
            last = last;
            here = subst (λ x. Chosen d cpu Normal x) (on-as z d cpu both ∙ e) (decision-chosen d cpu Normal);
            mended = is-mended moves choice.image.window mended;
            image = image-has z d cpu (Start choice) last
                (ap (has_image_of cpu z d) (sym e) ∙ (and_parts _ _ both).1);
          }

  -- the start of an image that is not that of c or z
  abbrev stood : Started → Bool
  stood s = stood_in cpu c d s || (not (is_left_torn torn s.window) && stood_in cpu z d s)

  abbrev ends : Started → Bool
  ends s = not (is_left_torn torn s.window) && is_tail cpu z d s

  whole-by : (choice : Choice) → Chosen d cpu Normal (Start choice) → stood choice.image ≡ true → IsWhole c z moves d cpu
  whole-by choice here is = go (stood_in cpu c d choice.image) refl is
    where
      go : (b : Bool) → stood_in cpu c d choice.image ≡ b
          → (b || (not (is_left_torn torn choice.image.window) && stood_in cpu z d choice.image)) ≡ true
          → IsWhole c z moves d cpu
      go true first e = record { choice = choice; here = here; stood = inl (stood-is c d cpu choice.image first) }
      go false first e =
          let both = and_parts _ _ e in record {
            choice = choice;
            here = here;
            stood = inr (is-mended moves choice.image.window both.0, stood-is z d cpu choice.image both.1);
          }

  or-left : (a b : Bool) → a ≡ true → (a || b) ≡ true
  or-left a b e = ap (λ x. x || b) e

  or-second : (a b : Bool) → b ≡ true → (a || b) ≡ true
  or-second true b e = refl
  or-second false b e = e

  by-whole-here : (s : Started)
      → StoodIn c d cpu s ⊎ ((IsLeftTorn moves s.window → ⊥) × StoodIn z d cpu s) → stood s ≡ true
  by-whole-here s (inl first) = or-left _ _ (is-stood c d cpu s first)
  by-whole-here s (inr last) =
      or-second (stood_in cpu c d s) _ (and_from _ _ (mended-is moves s.window last.0) (is-stood z d cpu s last.1))

  by-whole : (choice : Choice) → Chosen d cpu Normal (Start choice) → IsWhole c z moves d cpu → stood choice.image ≡ true
  by-whole choice here h =
      subst (λ (x : Choice). stood x.image ≡ true) (one-start h.choice choice h.here here)
      (by-whole-here h.choice.image h.stood)

  tail-by : (choice : Choice) → Chosen d cpu Normal (Start choice) → ends choice.image ≡ true → IsTail z moves d cpu
  tail-by choice here is =
      let s = choice.image in
      let parts = and_parts _ _ is in
      let both = and_parts _ _ parts.1 in
      let valid = stands-is z cpu s both.0 in
      let three = and_parts _ _ (sym (tail-of z d cpu s valid) ∙ both.1) in
      let two = and_parts _ _ three.1 in record {
        choice = choice;
        here = here;
        mended = is-mended moves s.window parts.0;
        valid = valid;
        unmapped = none-is valid.image.def.map_item three.0;
        blocks = ltb-true 1 (length valid.sound.loop) two.0;
        agree = λ i low high. agree-is (window_bytes z s.window) (window_bytes d s.window) 0
            (furthest 0 valid.sound.loop) two.1 i low (omega (arith, high));
      }

  by-tail : (choice : Choice) → Chosen d cpu Normal (Start choice) → IsTail z moves d cpu → ends choice.image ≡ true
  by-tail choice here h =
      let s = h.choice.image in
      subst (λ (x : Choice). ends x.image ≡ true) (one-start h.choice choice h.here here)
      (and_from _ _ (mended-is moves s.window h.mended) (and_from _ _ (is-stands z cpu s h.valid)
      (tail-of z d cpu s h.valid ∙ and_from _ _ (ap is_none h.unmapped)
      (and_from _ _ (lt-ltb 1 (length h.valid.sound.loop) h.blocks)
      (is-agree (window_bytes z s.window) (window_bytes d s.window) 0 (furthest 0 h.valid.sound.loop)
      (λ i low high. h.agree i low (omega (arith, high))))))))

  -- the class by the function is that of its sentence
  other-is : (IsFormer c d cpu → ⊥) → (IsFinished z moves d cpu → ⊥) → (e : Decision) → decision_in d cpu Normal ≡ e
      → IsClass c z moves d cpu (other_class cpu c z torn d e)
  other-is former finished (Bootsel fall) e =
      (former, record { fall = fall; here = subst (λ x. Chosen d cpu Normal x) e (decision-chosen d cpu Normal) })
  other-is former finished (Start choice) e = go (stood choice.image) (ends choice.image) refl refl
    where
      here : Chosen d cpu Normal (Start choice)
      here = subst (λ x. Chosen d cpu Normal x) e (decision-chosen d cpu Normal)

      go : (p q : Bool) → stood choice.image ≡ p → ends choice.image ≡ q
          → IsClass c z moves d cpu (if p then classes.Whole else if q then classes.Tail else classes.Mixed)
      go true q whole tail = (former, finished, whole-by choice here whole)
      go false true whole tail =
          (former, finished, λ h. false-true _ whole (by-whole choice here h), tail-by choice here tail)
      go false false whole tail = (
        former,
        finished,
        λ h. false-true _ whole (by-whole choice here h),
        λ h. false-true _ tail (by-tail choice here h),
        record { choice = choice; here = here },
      )

  class-is : IsClass c z moves d cpu (class_of c z torn cpu d)
  class-is = go as_before as_after refl refl
    where
      go : (f g : Bool) → as_before ≡ f → as_after ≡ g
          → IsClass c z moves d cpu (if f then classes.Former else if g then classes.Finished
          else other_class cpu c z torn d (decision_in d cpu Normal))
      go true g former finished = former-by c d cpu former
      go false true former finished = (λ h. false-true _ former (by-former h), finished-by finished)
      go false false former finished =
          other-is (λ h. false-true _ former (by-former h)) (λ h. false-true _ finished (by-finished h))
          (decision_in d cpu Normal) refl

  -- a class whose sentence holds is that of the function
  abbrev by_tests : Bool → Bool → Decision → Class
  by_tests f g e = if f then classes.Former else if g then classes.Finished else other_class cpu c z torn d e

  neither-so : (IsFormer c d cpu → ⊥) → (IsFinished z moves d cpu → ⊥) → (e : Decision) → decision_in d cpu Normal ≡ e
      → class_of c z torn cpu d ≡ other_class cpu c z torn d e
  neither-so former finished e is =
      ap (λ b. by_tests b as_after (decision_in d cpu Normal)) (not-so as_before (former-by c d cpu) former)
      ∙ (ap (λ b. by_tests false b (decision_in d cpu Normal)) (not-so as_after finished-by finished)
      ∙ ap (other_class cpu c z torn d) is)

  class-so : (r : Class) → IsClass c z moves d cpu r → class_of c z torn cpu d ≡ r
  class-so classes.Former h = ap (λ b. by_tests b as_after (decision_in d cpu Normal)) (by-former h)
  class-so classes.Finished (former, h) =
      ap (λ b. by_tests b as_after (decision_in d cpu Normal)) (not-so as_before (former-by c d cpu) former)
      ∙ ap (λ b. by_tests false b (decision_in d cpu Normal)) (by-finished h)
  class-so classes.Whole (former, finished, h) =
      neither-so former finished (Start h.choice) (start-at h.choice h.here)
      ∙ ap (λ b. if b then classes.Whole else if ends h.choice.image then classes.Tail else classes.Mixed) (by-whole h.choice h.here h)
  class-so classes.Tail (former, finished, whole, h) =
      neither-so former finished (Start h.choice) (start-at h.choice h.here)
      ∙ (ap (λ b. if b then classes.Whole else if ends h.choice.image then classes.Tail else classes.Mixed)
      (not-so (stood h.choice.image) (whole-by h.choice h.here) whole)
      ∙ ap (λ b. if b then classes.Tail else classes.Mixed) (by-tail h.choice h.here h))
  class-so classes.Mixed (former, finished, whole, tail, h) =
      neither-so former finished (Start h.choice) (start-at h.choice h.here)
      ∙ (ap (λ b. if b then classes.Whole else if ends h.choice.image then classes.Tail else classes.Mixed)
      (not-so (stood h.choice.image) (whole-by h.choice h.here) whole)
      ∙ ap (λ b. if b then classes.Tail else classes.Mixed) (not-so (ends h.choice.image) (tail-by h.choice h.here) tail))
  class-so classes.Bootsel (former, h) =
      neither-so former (λ f.
      let no : (let a : Decision = Start f.choice in let b : Decision = Bootsel h.fall in a ≡ b) =
      sym (start-at f.choice f.here) ∙ sym (chosen-decision d cpu Normal (Bootsel h.fall) h.here) in cc)
      (Bootsel h.fall) (sym (chosen-decision d cpu Normal (Bootsel h.fall) h.here))

pub class-exactly : (c z : Content) (moves : List MoveView) (d : Content) (cpu : Cpu) (r : Class)
    → IsClass c z moves d cpu r ↔ (r ≡ class_of c z (left_torn moves) cpu d)
class-exactly c z moves d cpu r = (
  λ is. sym (class-so c z moves d cpu r is),
  λ e. subst (λ q. IsClass c z moves d cpu q) (sym e) (class-is c z moves d cpu),
)

pub whole-has : (c z : Content) (moves : List MoveView) (d : Content) (cpu : Cpu) → IsWhole c z moves d cpu
    → (choice : Choice) × Chosen d cpu Normal (Start choice)
    × (SameImage c d choice.image cpu ⊎ SameImage z d choice.image cpu)
whole-has c z moves d cpu h = (h.choice, h.here, go h.stood)
  where
    go : StoodIn c d cpu h.choice.image ⊎ ((IsLeftTorn moves h.choice.image.window → ⊥) × StoodIn z d cpu h.choice.image)
        → SameImage c d h.choice.image cpu ⊎ SameImage z d h.choice.image cpu
    go (inl first) = inl first.image
    go (inr last) = inr last.1.image

pub answer-is : (c z : Content) (moves : List MoveView) (cpu : Cpu) (d : Content) → IsAnswer c z moves cpu d (answer_of c z (left_torn moves) cpu d)
answer-is c z moves cpu d = record { decision = decision-chosen d cpu Normal; class = class-is c z moves d cpu }

pub one-answer : (c z : Content) (moves : List MoveView) (cpu : Cpu) (d : Content) (answer : Answer) → IsAnswer c z moves cpu d answer
    → answer ≡ answer_of c z (left_torn moves) cpu d
one-answer c z moves cpu d answer is =
    let class : answer.class ≡ class_of c z (left_torn moves) cpu d = (class-exactly c z moves d cpu answer.class).0 is.class in
    let decision : answer.decision ≡ decision_in d cpu Normal =
    chosen-decision d cpu Normal answer.decision is.decision in
    ap (λ k. record { class = k; decision = answer.decision }) class
    ∙ ap (λ e. record { class = class_of c z (left_torn moves) cpu d; decision = e }) decision

pub answers-are : (c z : Content) (moves : List MoveView) (cpu : Cpu) (contents : List Content)
    → AreAnswers c z moves cpu contents (map (answer_of c z (left_torn moves) cpu) contents)
answers-are c z moves cpu [] = tt
answers-are c z moves cpu (d ∷ contents) = (answer-is c z moves cpu d, answers-are c z moves cpu contents)

pub one-answers : (c z : Content) (moves : List MoveView) (cpu : Cpu) (contents : List Content) (answers : List Answer)
    → AreAnswers c z moves cpu contents answers → answers ≡ map (answer_of c z (left_torn moves) cpu) contents
one-answers c z moves cpu [] [] all = refl
one-answers c z moves cpu [] (answer ∷ answers) all = absurd all
one-answers c z moves cpu (d ∷ contents) [] all = absurd all
one-answers c z moves cpu (d ∷ contents) (answer ∷ answers) all =
    ap (λ a. a ∷ answers) (one-answer c z moves cpu d answer all.0)
    ∙ ap (λ xs. answer_of c z (left_torn moves) cpu d ∷ xs) (one-answers c z moves cpu contents answers all.1)
