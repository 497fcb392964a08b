-- The result of a cut is that of the function that compares.
use Rattle.std.proofs.Common.{◌≡◌, ◌≢◌, ◌⊎◌, inl, inr, ℕ, zero, suc, ◌+◌, ◌<◌, ◌≤◌, Bool, true, false, List, [], ◌∷◌, length, Option, Some, None, Ok, refl, sym, ap, ◌∙◌, subst, arith}
use Rattle.std.specs.Prelude.{◌↔◌, ◌&&◌, ◌==◌, if◌then◌else◌, slice_index}
use Rattle.std.proofs.lemmas.Bool.{and_from, and_parts, cases_eq, eqb-true}
use Rattle.std.proofs.lemmas.Slice.Eq.{bytes_eq-Decides}
use Rattle.block_codec.specs.Blocks.{BlockView, block_size}
use Rattle.block_codec.specs.declared.versions.Version.{Version}
use Rattle.load_map.specs.declared.load.Load.{Load}
use Rattle.pico_board.specs.declared.boot.Cpu.{Cpu}
use Rattle.pico_board.specs.declared.boot.BootKind.TheVariants.{Normal}
use Rattle.pico_board.specs.declared.window.Window.{Window}
use Rattle.pico_board.specs.Content.{Content, IsContent, window_bytes}
use Rattle.image_def.specs.declared.started.Started.{Started}
use Rattle.image_check.specs.Image.{defined_in}
use Rattle.image_check.specs.SameImage.{AgreeOnBlocks, AgreeOnLoad, AgreeOnLoads, AgreeOnStorage, HoldsImage, HoldSameImage}
use Rattle.image_check.proofs.SameLemmas.{held-image, held-loop}
use Rattle.slot_choice.specs.declared.unit.Member.{Member}
use Rattle.slot_choice.specs.declared.unit.Member.TheVariants.{A, B}
use Rattle.slot_choice.specs.declared.choice.Choice.{Choice}
use Rattle.boot_rules.specs.declared.decision.Fall.{Fall}
use Rattle.boot_rules.specs.declared.decision.Fall.TheVariants.{Requested, FlashOff, NoImage}
use Rattle.boot_rules.specs.declared.decision.Decision.{Decision}
use Rattle.boot_rules.specs.declared.decision.Decision.TheVariants.{Start, Bootsel}
use Rattle.boot_rules.specs.Choosing.{decision_in}
use Rattle.boot_rules.specs.Chosen.{Chosen}
use Rattle.boot_rules.proofs.DecisionLemmas.{chosen-decision, decision-chosen}
use Rattle.boot_rules.proofs.PlaceLemmas.{placed-inside}
use Rattle.boot_rules.proofs.StartLemmas.{start-placed, start-valid}
use Rattle.boot_sweep.specs.declared.results.CutResult.{CutResult}
use Rattle.boot_sweep.specs.declared.results.CutResult.TheVariants.{Former, Finished, Chance}
use Rattle.pico_board.specs.Windows.{is_same_window}
use Rattle.boot_sweep.specs.Comparing.{agree_on, agree_on_blocks, agree_on_load, agree_on_loads, agree_on_loop, agree_on_map, agree_on_storage, is_same_choice, is_same_decision, is_same_fall, is_same_image, is_same_member, is_same_number, is_same_other, is_same_started, is_same_truth, is_same_version, is_whole, result_of}
use Rattle.boot_sweep.specs.Results.{IsCutResult, DecidesAsBefore}
use Rattle.boot_session.specs.CutSessions.{StartsFinished}

pub agree-is : (one two : List ℕ) (from n : ℕ) → agree_on one two from n ≡ true
    → (i : ℕ) → from ≤ i → i < from + n → slice_index two i ≡ slice_index one i
unfolding agree_on
agree-is one two from zero e i low high = absurd (omega (arith, low, high))
agree-is one two from (suc n) e i low high =
    go (agree-is one two (from + 1) n (and_parts _ _ e).1 i) (cases_eq i from)
  where
    go : (from + 1 ≤ i → i < from + 1 + n → slice_index two i ≡ slice_index one i) → (i ≡ from) ⊎ (i ≢ from)
        → slice_index two i ≡ slice_index one i
    go ih (inl here) =
        ap (slice_index two) here ∙ (eqb-true (slice_index two from) (slice_index one from) (and_parts _ _ e).0
        ∙ ap (slice_index one) (sym here))
    go ih (inr there) = ih (omega (arith, low, there)) (omega (arith, high))

pub is-agree : (one two : List ℕ) (from n : ℕ)
    → ((i : ℕ) → from ≤ i → i < from + n → slice_index two i ≡ slice_index one i) → agree_on one two from n ≡ true
unfolding agree_on
is-agree one two from zero agree = refl
is-agree one two from (suc n) agree =
    let here : slice_index two from ≡ slice_index one from = agree from (omega arith) (omega arith) in
    and_from _ _ (grind (arith, here))
    (is-agree one two (from + 1) n (λ i low high. agree i (omega (arith, low)) (omega (arith, high))))

blocks-is : (one two : List ℕ) (bs : List BlockView) → agree_on_blocks one two bs ≡ true → AgreeOnBlocks one two bs
blocks-is one two [] e = tt
blocks-is one two (b ∷ bs) e =
    let p = and_parts _ _ e in (agree-is one two b.at (block_size b) p.0, blocks-is one two bs p.1)

is-blocks : (one two : List ℕ) (bs : List BlockView) → AgreeOnBlocks one two bs → agree_on_blocks one two bs ≡ true
is-blocks one two [] all = refl
is-blocks one two (b ∷ bs) all =
    and_from _ _ (is-agree one two b.at (block_size b) all.0) (is-blocks one two bs all.1)

load-is : (one two : List ℕ) (o : Option ℕ) (n : ℕ) → agree_on_load one two o n ≡ true → AgreeOnLoad one two o n
load-is one two None n e = tt
load-is one two (Some start) n e = agree-is one two start n e

is-load : (one two : List ℕ) (o : Option ℕ) (n : ℕ) → AgreeOnLoad one two o n → agree_on_load one two o n ≡ true
is-load one two None n agree = refl
is-load one two (Some start) n agree = is-agree one two start n agree

loads-is : (one two : List ℕ) (ls : List Load) → agree_on_loads one two (Ok ls) ≡ true → AgreeOnLoads one two ls
loads-is one two [] e = tt
loads-is one two (l ∷ ls) e =
    let p = and_parts _ _ e in (load-is one two l.storage l.size p.0, loads-is one two ls p.1)

is-loads : (one two : List ℕ) (ls : List Load) → AgreeOnLoads one two ls → agree_on_loads one two (Ok ls) ≡ true
is-loads one two [] all = refl
is-loads one two (l ∷ ls) all =
    and_from _ _ (is-load one two l.storage l.size all.0) (is-loads one two ls all.1)

storage-is : (one two : List ℕ) (o : Option ℕ) (ls : List Load) → agree_on_map one two o (Ok ls) ≡ true
    → AgreeOnStorage one two o ls
storage-is one two None ls e = λ i low high. agree-is one two 0 (length one) e i low (omega (arith, high))
storage-is one two (Some item) ls e = loads-is one two ls e

is-storage : (one two : List ℕ) (o : Option ℕ) (ls : List Load) → AgreeOnStorage one two o ls
    → agree_on_map one two o (Ok ls) ≡ true
is-storage one two None ls agree = is-agree one two 0 (length one) (λ i low high. agree i low (omega (arith, high)))
is-storage one two (Some item) ls agree = is-loads one two ls agree

-- the function on a window that holds an image
same-of : (cpu : Cpu) (one two : List ℕ) (s : Started) (h : HoldsImage cpu one s)
    → is_same_image cpu one two ≡ (length two == length one && (agree_on_blocks one two h.sound.loop
    && agree_on_map one two h.image.def.map_item (Ok h.sound.loads)))
same-of cpu one two s h =
    ap (λ r. length two == length one && (agree_on_loop one two r && agree_on_storage one two (defined_in cpu one)))
    (held-loop cpu one s h)
    ∙ (ap (λ r. length two == length one && (agree_on_blocks one two h.sound.loop && agree_on_storage one two r))
    (held-image cpu one s h)
    ∙ ap (λ r. length two == length one && (agree_on_blocks one two h.sound.loop
    && agree_on_map one two h.image.def.map_item r)) h.sound.map)

pub same-is : (cpu : Cpu) (one two : List ℕ) (s : Started) → HoldsImage cpu one s → is_same_image cpu one two ≡ true
    → HoldSameImage cpu one two s
same-is cpu one two s h e =
    let p = and_parts _ _ (sym (same-of cpu one two s h) ∙ e) in
    let q = and_parts _ _ p.1 in record {
      held = h;
      long = eqb-true (length two) (length one) p.0;
      blocks = blocks-is one two h.sound.loop q.0;
      storage = storage-is one two h.image.def.map_item h.sound.loads q.1;
    }

pub is-same : (cpu : Cpu) (one two : List ℕ) (s : Started) → HoldSameImage cpu one two s
    → is_same_image cpu one two ≡ true
is-same cpu one two s same =
    let h = same.held in
    let long = same.long in
    let e : (length two == length one) ≡ true = grind (arith, long) in
    same-of cpu one two s h
    ∙ and_from _ _ e (and_from _ _ (is-blocks one two h.sound.loop same.blocks)
    (is-storage one two h.image.def.map_item h.sound.loads same.storage))

-- equal records
window-of-parts : (a b c d : ℕ) → a ≡ c → b ≡ d
    → (let v : Window = record { start = a; len = b } in let w : Window = record { start = c; len = d } in v ≡ w)
window-of-parts a b c d e f = cc

same-window : (v w : Window) → is_same_window v w ≡ true → v ≡ w
same-window v w e =
    let p = and_parts _ _ e in
    window-of-parts v.start v.len w.start w.len (eqb-true _ _ p.0) (eqb-true _ _ p.1)

version-of-parts : (a b c d : ℕ) → a ≡ c → b ≡ d
    → (let v : Version = record { major = a; minor = b } in let w : Version = record { major = c; minor = d } in v ≡ w)
version-of-parts a b c d e f = cc

same-version : (v w : Version) → is_same_version v w ≡ true → v ≡ w
same-version v w e =
    let p = and_parts _ _ e in
    version-of-parts v.major v.minor w.major w.minor (eqb-true _ _ p.0) (eqb-true _ _ p.1)

same-number : (a b : Option ℕ) → is_same_number a b ≡ true → a ≡ b
same-number None None e = refl
same-number None (Some n) e = cc
same-number (Some n) None e = cc
same-number (Some n) (Some m) e = ap (λ k. Some k) (eqb-true n m e)

same-truth : (a b : Bool) → is_same_truth a b ≡ true → a ≡ b
same-truth true b e = sym e
same-truth false true e = cc
same-truth false false e = refl

same-member : (a b : Member) → is_same_member a b ≡ true → a ≡ b
same-member A A e = refl
same-member A B e = cc
same-member B A e = cc
same-member B B e = refl

same-other : (a b : Option Window) → is_same_other a b ≡ true → a ≡ b
same-other None None e = refl
same-other None (Some w) e = cc
same-other (Some v) None e = cc
same-other (Some v) (Some w) e = ap (λ k. Some k) (same-window v w e)

same-fall : (a b : Fall) → is_same_fall a b ≡ true → a ≡ b
same-fall Requested Requested e = refl
same-fall Requested FlashOff e = cc
same-fall Requested NoImage e = cc
same-fall FlashOff Requested e = cc
same-fall FlashOff FlashOff e = refl
same-fall FlashOff NoImage e = cc
same-fall NoImage Requested e = cc
same-fall NoImage FlashOff e = cc
same-fall NoImage NoImage e = refl

pub bool-by : (a b : Bool) → (a ≡ true → b ≡ true) → (b ≡ true → a ≡ true) → a ≡ b
bool-by true b f g = sym (f refl)
bool-by false true f g = g refl
bool-by false false f g = refl

started-of-parts : (w v : Window) (b c i j p q s t l m : ℕ) (n o : Version) (r u : Option ℕ) (x y : List ℕ) (k h : Bool)
    → w ≡ v → b ≡ c → i ≡ j → p ≡ q → s ≡ t → l ≡ m → n ≡ o → r ≡ u → x ≡ y → k ≡ h
    → (let one : Started = record {
      window = w;
      block = b;
      image_at = i;
      pc = p;
      sp = s;
      limit = l;
      version = n;
      rollback = r;
      rows = record { items = x };
      trial = k;
    } in
    let two : Started = record {
      window = v;
      block = c;
      image_at = j;
      pc = q;
      sp = t;
      limit = m;
      version = o;
      rollback = u;
      rows = record { items = y };
      trial = h;
    } in one ≡ two)
started-of-parts w v b c i j p q s t l m n o r u x y k h e0 e1 e2 e3 e4 e5 e6 e7 e8 e9 = cc

pub same-started : (s t : Started) → is_same_started s t ≡ true → s ≡ t
same-started s t e =
    let a = and_parts _ _ e in
    let place = and_parts _ _ a.0 in
    let at = and_parts _ _ place.1 in
    let rest = and_parts _ _ a.1 in
    let entry = and_parts _ _ rest.0 in
    let stack = and_parts _ _ entry.1 in
    let status = and_parts _ _ rest.1 in
    let others = and_parts _ _ status.1 in
    let rollback = and_parts _ _ others.0 in
    started-of-parts s.window t.window s.block t.block s.image_at t.image_at s.pc t.pc s.sp t.sp s.limit t.limit
    s.version t.version s.rollback t.rollback s.rows.items t.rows.items s.trial t.trial
    (same-window s.window t.window place.0) (eqb-true _ _ at.0) (eqb-true _ _ at.1) (eqb-true _ _ entry.0)
    (eqb-true _ _ stack.0) (eqb-true _ _ stack.1) (same-version s.version t.version status.0)
    (same-number s.rollback t.rollback rollback.0)
    ((bytes_eq-Decides s.rows.items t.rows.items).0 rollback.1) (same-truth s.trial t.trial others.1)

choice-of-parts : (i j : Started) (m n : Member) (o p : Option Window) (u v : Bool) → i ≡ j → m ≡ n → o ≡ p → u ≡ v
    → (let one : Choice = record { image = i; member = m; other = o; updated = u } in
    let two : Choice = record { image = j; member = n; other = p; updated = v } in one ≡ two)
choice-of-parts i j m n o p u v e0 e1 e2 e3 = cc

same-choice : (a b : Choice) → is_same_choice a b ≡ true → a ≡ b
same-choice a b e =
    let p = and_parts _ _ e in
    let q = and_parts _ _ p.1 in
    let r = and_parts _ _ q.1 in
    choice-of-parts a.image b.image a.member b.member a.other b.other a.updated b.updated
    (same-started a.image b.image p.0) (same-member a.member b.member q.0) (same-other a.other b.other r.0)
    (same-truth a.updated b.updated r.1)

pub same-decision : (d e : Decision) → is_same_decision d e ≡ true → d ≡ e
same-decision (Start a) (Start b) is = ap (λ c. Start c) (same-choice a b is)
same-decision (Start a) (Bootsel f) is = cc
same-decision (Bootsel e) (Start b) is = cc
same-decision (Bootsel e) (Bootsel f) is = ap (λ c. Bootsel c) (same-fall e f is)

number-self : (n : ℕ) → (n == n) ≡ true
number-self n = grind (arith)

window-self : (w : Window) → is_same_window w w ≡ true
window-self w = and_from _ _ (number-self w.start) (number-self w.len)

truth-self : (b : Bool) → is_same_truth b b ≡ true
truth-self true = refl
truth-self false = refl

option-self : (o : Option ℕ) → is_same_number o o ≡ true
option-self None = refl
option-self (Some n) = number-self n

other-self : (o : Option Window) → is_same_other o o ≡ true
other-self None = refl
other-self (Some w) = window-self w

member-self : (m : Member) → is_same_member m m ≡ true
member-self A = refl
member-self B = refl

fall-self : (f : Fall) → is_same_fall f f ≡ true
fall-self Requested = refl
fall-self FlashOff = refl
fall-self NoImage = refl

started-self : (s : Started) → is_same_started s s ≡ true
started-self s =
    and_from _ _ (and_from _ _ (window-self s.window) (and_from _ _ (number-self s.block) (number-self s.image_at)))
    (and_from _ _ (and_from _ _ (number-self s.pc) (and_from _ _ (number-self s.sp) (number-self s.limit)))
    (and_from _ _ (and_from _ _ (number-self s.version.major) (number-self s.version.minor))
    (and_from _ _ (and_from _ _ (option-self s.rollback) ((bytes_eq-Decides s.rows.items s.rows.items).1 refl))
    (truth-self s.trial))))

decision-self : (d : Decision) → is_same_decision d d ≡ true
decision-self (Start a) =
    and_from _ _ (started-self a.image) (and_from _ _ (member-self a.member)
    (and_from _ _ (other-self a.other) (truth-self a.updated)))
decision-self (Bootsel f) = fall-self f

pub decision-same : (d e : Decision) → d ≡ e → is_same_decision d e ≡ true
decision-same d e is = subst (λ x. is_same_decision d x ≡ true) is (decision-self d)

former-is : (c d : Content) (cpu : Cpu) → DecidesAsBefore c d cpu
    → is_same_decision (decision_in d cpu Normal) (decision_in c cpu Normal) ≡ true
former-is c d cpu f =
    decision-same _ _ (sym (chosen-decision d cpu Normal f.0 f.2) ∙ chosen-decision c cpu Normal f.0 f.1)

is-former : (c d : Content) (cpu : Cpu)
    → is_same_decision (decision_in d cpu Normal) (decision_in c cpu Normal) ≡ true → DecidesAsBefore c d cpu
is-former c d cpu e =
    let same = same-decision _ _ e in (
      decision_in c cpu Normal,
      decision-chosen c cpu Normal,
      subst (λ x. Chosen d cpu Normal x) same (decision-chosen d cpu Normal),
    )

finished-is : (z d : Content) (cpu : Cpu) → StartsFinished z d cpu
    → (is_same_decision (decision_in d cpu Normal) (decision_in z cpu Normal)
    && is_whole cpu d z (decision_in d cpu Normal)) ≡ true
finished-is z d cpu f =
    let here = chosen-decision d cpu Normal (Start f.choice) f.here in
    let after = chosen-decision z cpu Normal (Start f.choice) f.after in
    and_from _ _ (decision-same _ _ (sym here ∙ after))
    (ap (is_whole cpu d z) (sym here)
    ∙ is-same cpu (window_bytes d f.choice.image.window) (window_bytes z f.choice.image.window) f.choice.image f.same)

-- a window whose image starts holds it
pub start-holds : (d : Content) (cpu : Cpu) (choice : Choice) → Chosen d cpu Normal (Start choice)
    → HoldsImage cpu (window_bytes d choice.image.window) choice.image
start-holds d cpu choice chosen =
    let v = start-valid d cpu Normal choice chosen in
    record { image = v.image; entry = v.entry; sound = v.sound; started = v.started }

-- the window of an image that a normal boot starts lies inside the flash
pub start-inside : (d : Content) (cpu : Cpu) (choice : Choice) → IsContent d → Chosen d cpu Normal (Start choice)
    → choice.image.window.start + choice.image.window.len ≤ length d.flash
start-inside d cpu choice right chosen =
    placed-inside (length d.flash) choice.image.window right.flash_length.whole
    (start-placed d cpu Normal choice right chosen)

-- whether two windows hold the same image, by the comparison
pub same-exactly : (cpu : Cpu) (one two : List ℕ) (s : Started) (b : Bool) → HoldsImage cpu one s
    → (b ≡ true) ↔ HoldSameImage cpu one two s → b ≡ is_same_image cpu one two
same-exactly cpu one two s b held is =
    bool-by b (is_same_image cpu one two) (λ e. is-same cpu one two s (is.0 e))
    (λ e. is.1 (same-is cpu one two s held e))

is-finished : (z d : Content) (cpu : Cpu)
    → (is_same_decision (decision_in d cpu Normal) (decision_in z cpu Normal)
    && is_whole cpu d z (decision_in d cpu Normal)) ≡ true → StartsFinished z d cpu
is-finished z d cpu e = go (decision_in d cpu Normal) refl (and_parts _ _ e).1
  where
    go : (x : Decision) → decision_in d cpu Normal ≡ x → is_whole cpu d z x ≡ true → StartsFinished z d cpu
    go (Bootsel f) is whole = cc
    go (Start choice) is whole =
        let here = subst (λ x. Chosen d cpu Normal x) is (decision-chosen d cpu Normal) in
        let same = same-decision _ _ (and_parts _ _ e).0 in record {
          choice = choice;
          here = here;
          after = subst (λ x. Chosen z cpu Normal x) (sym same ∙ is) (decision-chosen z cpu Normal);
          same = same-is cpu (window_bytes d choice.image.window) (window_bytes z choice.image.window) choice.image
              (start-holds d cpu choice here) whole;
        }

false-true : (b : Bool) → b ≡ false → b ≡ true → ⊥
false-true b e f = let g : false ≡ true = sym e ∙ f in cc

pub judged : (c z d : Content) (cpu : Cpu) → IsCutResult c z d cpu (result_of c z d cpu)
judged c z d cpu =
    go (is_same_decision (decision_in d cpu Normal) (decision_in c cpu Normal))
    (is_same_decision (decision_in d cpu Normal) (decision_in z cpu Normal)
    && is_whole cpu d z (decision_in d cpu Normal))
    refl refl
  where
    go : (f g : Bool) → is_same_decision (decision_in d cpu Normal) (decision_in c cpu Normal) ≡ f
        → (is_same_decision (decision_in d cpu Normal) (decision_in z cpu Normal)
        && is_whole cpu d z (decision_in d cpu Normal)) ≡ g
        → IsCutResult c z d cpu (if f then Former else if g then Finished else Chance)
    go true g former finished = is-former c d cpu former
    go false true former finished =
        (λ h. false-true _ former (former-is c d cpu h), is-finished z d cpu finished)
    go false false former finished =
        (λ h. false-true _ former (former-is c d cpu h), λ h. false-true _ finished (finished-is z d cpu h))

one-result : (c z d : Content) (cpu : Cpu) (r q : CutResult) → IsCutResult c z d cpu r → IsCutResult c z d cpu q
    → r ≡ q
one-result c z d cpu Former Former a b = refl
one-result c z d cpu Former Finished a b = absurd (b.0 a)
one-result c z d cpu Former Chance a b = absurd (b.0 a)
one-result c z d cpu Finished Former a b = absurd (a.0 b)
one-result c z d cpu Finished Finished a b = refl
one-result c z d cpu Finished Chance a b = absurd (b.1 a.1)
one-result c z d cpu Chance Former a b = absurd (a.0 b)
one-result c z d cpu Chance Finished a b = absurd (a.1 b.1)
one-result c z d cpu Chance Chance a b = refl

pub judged-exactly : (c z d : Content) (cpu : Cpu) (r : CutResult) → IsCutResult c z d cpu r ↔ (r ≡ result_of c z d cpu)
judged-exactly c z d cpu r = (
  λ is. one-result c z d cpu r (result_of c z d cpu) is (judged c z d cpu),
  λ e. subst (λ q. IsCutResult c z d cpu q) (sym e) (judged c z d cpu),
)
