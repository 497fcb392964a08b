-- The choice in a unit by what is seen of its members before a digest is made.
use Rattle.std.proofs.Common.{◌≡◌, Bool, true, false, cond, Option, Some, None, Result, Ok, Err, refl, sym, ap, ◌∙◌, option_map, option_and_then}
use Rattle.std.specs.Option.{option_or}
use Rattle.std.specs.Result.{result_ok}
use Rattle.std.proofs.lemmas.Option.{same_Some}
use Rattle.pico_board.specs.declared.boot.Cpu.{Cpu}
use Rattle.pico_board.specs.declared.window.Window.{Window}
use Rattle.pico_board.specs.Content.{Content, window_bytes}
use Rattle.block_codec.specs.declared.versions.Version.{Version}
use Rattle.image_def.specs.declared.started.Started.{Started}
use Rattle.image_check.specs.declared.examining.Candidate.{Candidate}
use Rattle.image_check.specs.declared.why.Why.{Why}
use Rattle.image_check.specs.Addressing.{in_flash}
use Rattle.image_check.specs.Answers.{and_then, and_unless}
use Rattle.image_check.specs.Examined.{confirmed_in, examined_in}
use Rattle.image_check.specs.Image.{started_of}
use Rattle.image_check.specs.Rules.{delta_fault, digest_fault}
use Rattle.image_check.specs.Digests.{candidate_of}
use Rattle.image_check.proofs.DigestLemmas.{examined-candidate}
use Rattle.image_check.proofs.ExaminedLemmas.{examined-image}
use Rattle.slot_choice.specs.declared.unit.Member.{Member}
use Rattle.slot_choice.specs.declared.unit.Member.TheVariants.{A, B}
use Rattle.slot_choice.specs.declared.unit.SlotUnit.{SlotUnit}
use Rattle.slot_choice.specs.declared.choice.Choice.{Choice}
use Rattle.slot_choice.specs.Versions.{better, is_below}
use Rattle.slot_choice.specs.Units.{member_window}
use Rattle.boot_rules.specs.Choosing.{choice_of, images_in, member_image, of_better, version_of_image}
use Rattle.boot_rules.specs.Picking.{taken}
use Rattle.boot_rules.specs.Stages.{candidate_in, candidate_version}

-- the record of what the last two rules let pass
abbrev pub confirm_in : Content → Window → Candidate → Option Started
confirm_in c w seen = result_ok (confirmed_in w (window_bytes c w) seen)

-- the record of a member of which something was seen, where the last two rules let it pass
abbrev pub confirm_seen : Content → Option Window → Option Candidate → Option Started
confirm_seen c None seen = None
confirm_seen c (Some w) seen = option_and_then (confirm_in c w) seen

after-ok : {X Y F : Type 0} (r : Result X F) (f : X → Result Y F)
    → result_ok (and_then r f) ≡ option_and_then (λ x. result_ok (f x)) (result_ok r)
after-ok (Ok x) f = refl
after-ok (Err e) f = refl

-- the image of a member is what is seen of it, judged by the last two rules
window-image-seen : (c : Content) (cpu : Cpu) (o : Option Window)
    → option_and_then (λ w. images_in c cpu w false) o ≡ confirm_seen c o (candidate_in c cpu o)
window-image-seen c cpu None = refl
window-image-seen c cpu (Some w) =
    ap result_ok (sym (examined-image in_flash w cpu false c.otp (window_bytes c w)))
    ∙ after-ok (examined_in in_flash cpu false c.otp (window_bytes c w)) (confirmed_in w (window_bytes c w))

pub image-seen : (c : Content) (cpu : Cpu) (u : SlotUnit) (m : Member)
    → member_image (images_in c cpu) u m false
    ≡ confirm_seen c (member_window m u) (candidate_in c cpu (member_window m u))
image-seen c cpu u m = window-image-seen c cpu (member_window m u)

unless-ok : {X F : Type 0} (o : Option F) (r : Result X F) (x : X) → result_ok (and_unless o r) ≡ Some x
    → result_ok r ≡ Some x
unless-ok None r x e = e
unless-ok (Some f) r x e = cc

-- a record has the version that was seen
confirm-version : (c : Content) (w : Window) (seen : Candidate) (s : Started) → confirm_in c w seen ≡ Some s
    → s.version ≡ seen.def.version
confirm-version c w seen s e =
    let judged = unless-ok (digest_fault (window_bytes c w) seen.block seen.def seen.loads.items seen.def.digest) _ s e
    in
    let made = unless-ok (delta_fault seen.def.delta) _ s judged in
    let same : started_of w (record { block = seen.block; def = seen.def }) seen.entry ≡ s = same_Some _ s made in
    sym (ap (λ (x : Started). x.version) same)

seen-version : (c : Content) (o : Option Window) (seen : Option Candidate) (s : Started)
    → confirm_seen c o seen ≡ Some s → candidate_version seen ≡ Some s.version
seen-version c None seen s e = cc
seen-version c (Some w) None s e = cc
seen-version c (Some w) (Some x) s e = ap Some (sym (confirm-version c w x s e))

-- the choice by the better version of those that are seen
abbrev pub by_seen : Option Member → Option Choice → Option Choice → Option Choice
by_seen None a b = None
by_seen (Some A) a b = option_or a b
by_seen (Some B) a b = option_or b a

-- whose image is right is the choice in the unit
module _ (u : SlotUnit) where
  abbrev first : Option Started → Option Choice
  first a = option_map (choice_of u A false) a

  abbrev second : Option Started → Option Choice
  second b = option_map (choice_of u B false) b

  abbrev chosen : Option Started → Option Started → Option Choice
  chosen a b = of_better u (better (version_of_image a) (version_of_image b)) a b

  pub by-seen : (va vb : Option Version) (a b : Option Started) → ((s : Started) → a ≡ Some s → va ≡ Some s.version)
      → ((s : Started) → b ≡ Some s → vb ≡ Some s.version) → by_seen (better va vb) (first a) (second b) ≡ chosen a b
  by-seen None None None None of_a of_b = refl
  by-seen None None (Some s) b of_a of_b = let e : None ≡ Some s.version = of_a s refl in cc
  by-seen None None None (Some t) of_a of_b = let e : None ≡ Some t.version = of_b t refl in cc
  by-seen None (Some y) (Some s) b of_a of_b = let e : None ≡ Some s.version = of_a s refl in cc
  by-seen None (Some y) None None of_a of_b = refl
  by-seen None (Some y) None (Some t) of_a of_b = refl
  by-seen (Some x) None a (Some t) of_a of_b = let e : None ≡ Some t.version = of_b t refl in cc
  by-seen (Some x) None None None of_a of_b = refl
  by-seen (Some x) None (Some s) None of_a of_b = refl
  by-seen (Some x) (Some y) None None of_a of_b = go (is_below x y)
    where
      go : (below : Bool) → by_seen (Some (cond below B A)) None None ≡ None
      go true = refl
      go false = refl
  by-seen (Some x) (Some y) None (Some t) of_a of_b = go (is_below x y)
    where
      go : (below : Bool) → by_seen (Some (cond below B A)) None (second (Some t)) ≡ second (Some t)
      go true = refl
      go false = refl
  by-seen (Some x) (Some y) (Some s) None of_a of_b = go (is_below x y)
    where
      go : (below : Bool) → by_seen (Some (cond below B A)) (first (Some s)) None ≡ first (Some s)
      go true = refl
      go false = refl
  by-seen (Some x) (Some y) (Some s) (Some t) of_a of_b =
      let one : x ≡ s.version = same_Some x s.version (of_a s refl) in
      let two : y ≡ t.version = same_Some y t.version (of_b t refl) in
      go (is_below x y) (ap (λ v. is_below v y) one ∙ ap (is_below s.version) two)
    where
      go : (below : Bool) → below ≡ is_below s.version t.version
          → by_seen (Some (cond below B A)) (first (Some s)) (second (Some t)) ≡ chosen (Some s) (Some t)
      go true e = ap (λ z. of_better u (Some (cond z B A)) (Some s) (Some t)) e
      go false e = ap (λ z. of_better u (Some (cond z B A)) (Some s) (Some t)) e

pub taken-seen : (c : Content) (cpu : Cpu) (u : SlotUnit) (va vb : Option Version)
    → va ≡ candidate_version (candidate_in c cpu (Some u.a)) → vb ≡ candidate_version (candidate_in c cpu u.b)
    → by_seen (better va vb) (option_map (choice_of u A false) (member_image (images_in c cpu) u A false))
    (option_map (choice_of u B false) (member_image (images_in c cpu) u B false)) ≡ taken c cpu u
taken-seen c cpu u va vb one two =
    by-seen u va vb (member_image (images_in c cpu) u A false) (member_image (images_in c cpu) u B false)
    (λ s e. one ∙ seen-version c (Some u.a) (candidate_in c cpu (Some u.a)) s (sym (image-seen c cpu u A) ∙ e))
    (λ s e. two ∙ seen-version c u.b (candidate_in c cpu u.b) s (sym (image-seen c cpu u B) ∙ e))

-- the three ways of a choice by what is seen
pub by-none : (o : Option Member) (x y : Option Choice) → o ≡ None → None ≡ by_seen o x y
by-none o x y e = sym (ap (λ z. by_seen z x y) e)

pub by-first : (o : Option Member) (x y r : Option Choice) → o ≡ Some A → r ≡ option_or x y → r ≡ by_seen o x y
by-first o x y r e same = same ∙ sym (ap (λ z. by_seen z x y) e)

pub by-second : (o : Option Member) (x y r : Option Choice) → o ≡ Some B → r ≡ option_or y x → r ≡ by_seen o x y
by-second o x y r e same = same ∙ sym (ap (λ z. by_seen z x y) e)

pub or-some : {X : Type 0} (x y : Option X) (z : X) → x ≡ Some z → Some z ≡ option_or x y
or-some x y z e = sym (ap (λ o. option_or o y) e)

pub or-none : {X : Type 0} (x y : Option X) → x ≡ None → y ≡ option_or x y
or-none x y e = sym (ap (λ o. option_or o y) e)

-- the choice of a confirmed member
pub confirmed-choice : (c : Content) (cpu : Cpu) (u : SlotUnit) (m : Member) (w : Window) (seen : Option Candidate)
    (x : Candidate)
    → member_window m u ≡ Some w → seen ≡ Some x → seen ≡ candidate_in c cpu (member_window m u)
    → (r : Result Started Why) → r ≡ confirmed_in w (window_bytes c w) x
    → option_map (choice_of u m false) (result_ok r)
    ≡ option_map (choice_of u m false) (member_image (images_in c cpu) u m false)
confirmed-choice c cpu u m w seen x window some is r exact =
    ap (option_map (choice_of u m false))
    (ap result_ok exact ∙ sym (image-seen c cpu u m ∙ ap (λ o. confirm_seen c (member_window m u) o) (sym is ∙ some)
    ∙ ap (λ o. confirm_seen c o (Some x)) window))

pub unseen-choice : (c : Content) (cpu : Cpu) (u : SlotUnit) (m : Member) (w : Window) (seen : Option Candidate)
    → member_window m u ≡ Some w → seen ≡ None → seen ≡ candidate_in c cpu (member_window m u)
    → None ≡ option_map (choice_of u m false) (member_image (images_in c cpu) u m false)
unseen-choice c cpu u m w seen window none is =
    ap (option_map (choice_of u m false))
    (sym (image-seen c cpu u m ∙ ap (λ o. confirm_seen c (member_window m u) o) (sym is ∙ none)
    ∙ ap (λ o. confirm_seen c o None) window))

-- the candidate that was seen of a member is that of its window's bytes
result-is-ok : {A F : Type 0} (r : Result A F) (x : A) → result_ok r ≡ Some x → r ≡ Ok x
result-is-ok (Ok y) x e = ap Ok (same_Some y x e)
result-is-ok (Err f) x e = cc

pub seen-stands : (c : Content) (cpu : Cpu) (u : SlotUnit) (m : Member) (w : Window) (seen : Option Candidate)
    (x : Candidate)
    → member_window m u ≡ Some w → seen ≡ Some x → seen ≡ candidate_in c cpu (member_window m u)
    → candidate_of cpu (window_bytes c w) ≡ Ok x
seen-stands c cpu u m w seen x window some is =
    examined-candidate cpu false c.otp (window_bytes c w) x
    (result-is-ok (examined_in in_flash cpu false c.otp (window_bytes c w)) x
    (ap (candidate_in c cpu) (sym window) ∙ (sym is ∙ some)))
