-- What is remembered of digests: it is true of a content as long as its windows keep their bytes.
use Rattle.std.proofs.Common.{◌≡◌, ◌⊎◌, ℕ, ◌+◌, ◌≤◌, ◌==◌, ◌&&◌, ◌||◌, Bool, true, false, not, cond, List, [], ◌∷◌, ◌++◌, length, Option, Some, None, Result, Ok, Err, refl, sym, ap, subst, ◌∙◌, inl, inr, arith, ◌-◌, ◌^◌}
use Rattle.std.specs.Prelude.{if◌then◌else◌, nat_le, nat_lt, bytes_eq}
use Rattle.std.specs.List.{AllByRecursion}
use Rattle.std.specs.Option.{is_none, is_some}
use Rattle.std.proofs.lemmas.Bool.{eqb-true, leb-true}
use Rattle.std.proofs.Math.Nat.{min-le_left}
use Rattle.pico_board.specs.declared.boot.Cpu.{Cpu}
use Rattle.pico_board.specs.declared.boot.Cpu.TheVariants.{Arm, Riscv}
use Rattle.pico_board.specs.declared.window.Window.{Window}
use Rattle.pico_board.specs.Content.{Content, window_bytes}
use Rattle.pico_board.specs.Steps.{SameOutside}
use Rattle.pico_board.specs.Windows.{is_same_window}
use Rattle.pico_board.proofs.ConfinementLemmas.{window_bytes-apart}
use Rattle.block_codec.specs.declared.definition.Def.{Def}
use Rattle.block_codec.specs.Blocks.{BlockView}
use Rattle.load_map.specs.declared.load.Load.{Load}
use Rattle.load_map.specs.Covered.{covered_digest}
use Rattle.image_check.specs.declared.digests.Digested.{Digested}
use Rattle.image_check.specs.declared.digests.Digests.{Digests}
use Rattle.image_check.specs.declared.examining.Candidate.{Candidate}
use Rattle.image_check.specs.declared.why.Why.{Why}
use Rattle.image_check.specs.declared.why.Why.TheVariants.{Digest}
use Rattle.image_check.specs.Addressing.{in_flash}
use Rattle.image_check.specs.Answers.{and_then}
use Rattle.image_check.specs.Digests.{answer_of, asked, candidate_fault, candidate_of, entries_apart, is_apart, is_of, is_same, IsTrueOf, Knows, MakesAtMost, noted, noted_unless, remembered}
use Rattle.image_check.specs.Examined.{admitted_in, examined_in, loaded_in}
use Rattle.image_check.specs.Image.{defined_in}
use Rattle.image_check.specs.Rules.{digest_fault}

same-ok : {A F : Type 0} (r : Result A F) (x y : A) → r ≡ Ok x → r ≡ Ok y → x ≡ y
same-ok r x y one two = cc

-- what two rules between let pass, passes without them
past-unit : {B F : Type 0} (r : Result (Unit {0}) F) (q : Result B F) (x : B) → and_then r (λ u. q) ≡ Ok x → q ≡ Ok x
past-unit (Ok u) q x e = e
past-unit (Err f) q x e = cc

past-admission : {A B F : Type 0} (r : Result A F) (a : A → Result (Unit {0}) F) (g : A → Result B F) (x : B)
    → and_then r (λ y. and_then (a y) (λ u. g y)) ≡ Ok x → and_then r g ≡ Ok x
past-admission (Ok y) a g x e = past-unit (a y) (g y) x e
past-admission (Err f) a g x e = cc

-- the candidate that the rules before the digest rule let pass is that of the bytes
pub examined-candidate : (cpu : Cpu) (trial : Bool) (otp bytes : List ℕ) (x : Candidate)
    → examined_in in_flash cpu trial otp bytes ≡ Ok x → candidate_of cpu bytes ≡ Ok x
unfolding examined_in
examined-candidate cpu trial otp bytes x e =
    past-admission (defined_in cpu bytes) (λ image. admitted_in trial otp image.def) (loaded_in in_flash cpu bytes) x e

-- the digest rule answers that a digest is right, or that it is wrong
right-or-wrong : (bytes : List ℕ) (b : BlockView) (def : Def) (loads : List Load) (value : Option (List ℕ))
    → digest_fault bytes b def loads value ≡ answer_of (is_none (digest_fault bytes b def loads value))
right-or-wrong bytes b def loads None = refl
right-or-wrong bytes b def loads (Some value) = go (bytes_eq value (covered_digest bytes b def loads))
  where
    go : (right : Bool) → (if right then None else Some Digest)
        ≡ answer_of (is_none (if right then None else Some Digest))
    go true = refl
    go false = refl

-- an answer that was made for a candidate is true of its window
pub made-true : (c : Content) (w : Window) (cpu : Cpu) (x : Candidate) (answer : Option Why)
    → candidate_of cpu (window_bytes c w) ≡ Ok x → answer ≡ candidate_fault (window_bytes c w) x
    → IsTrueOf c (record { window = w; cpu = cpu; right = is_none answer })
made-true c w cpu x answer stands is = λ y also.
    let bytes = window_bytes c w in
    let one : x ≡ y = same-ok (candidate_of cpu bytes) x y stands also in
    subst (λ z. candidate_fault bytes z ≡ answer_of (is_none answer)) one
    (right-or-wrong bytes x.block x.def x.loads.items x.def.digest
    ∙ ap (λ o. answer_of (is_none o)) (sym is))

pub none-right : (answer : Option Why) (right : Bool) → is_some answer ≡ not right → right ≡ is_none answer
none-right None true e = refl
none-right (Some why) false e = refl
none-right None false e = cc
none-right (Some why) true e = cc

-- the entry of a window and a processor
both-true : (a b : Bool) → (a && b) ≡ true → (a ≡ true) × (b ≡ true)
both-true true b e = (refl, e)
both-true false b e = cc

same-cpu : (one two : Cpu) → is_same one two ≡ true → one ≡ two
same-cpu Arm Arm e = refl
same-cpu Riscv Riscv e = refl
same-cpu Arm Riscv e = cc
same-cpu Riscv Arm e = cc

same-window : (v w : Window) → is_same_window v w ≡ true → v ≡ w
same-window v w same =
    let both = both-true (v.start == w.start) (v.len == w.len) same in
    ap (λ s. record { start = s; len = v.len }) (eqb-true _ _ both.0)
    ∙ ap (λ l. record { start = w.start; len = l }) (eqb-true _ _ both.1)

is-entry : (w : Window) (cpu : Cpu) (e : Digested) (right : Bool) → is_of w cpu e ≡ true → e.right ≡ right
    → e ≡ record { window = w; cpu = cpu; right = right }
is-entry w cpu e right is value =
    let both = both-true (is_same_window e.window w) (is_same e.cpu cpu) is in
    ap (λ v. record { window = v; cpu = e.cpu; right = e.right }) (same-window e.window w both.0)
    ∙ (ap (λ p. record { window = w; cpu = p; right = e.right }) (same-cpu e.cpu cpu both.1)
    ∙ ap (λ r. record { window = w; cpu = cpu; right = r }) value)

-- what is remembered of a window is true of the content
pub remembered-true : (c : Content) (w : Window) (cpu : Cpu) (es : List Digested) (right : Bool)
    → AllByRecursion (IsTrueOf c) es → remembered w cpu es ≡ Some right
    → IsTrueOf c (record { window = w; cpu = cpu; right = right })
remembered-true c w cpu [] right all is = let none : None ≡ Some right = is in cc
remembered-true c w cpu (e ∷ es) right all is =
    go (is_of w cpu e) refl is (λ later. remembered-true c w cpu es right all.1 later)
  where
    go : (here : Bool) → is_of w cpu e ≡ here → (if here then Some e.right else remembered w cpu es) ≡ Some right
        → (remembered w cpu es ≡ Some right → IsTrueOf c (record { window = w; cpu = cpu; right = right }))
        → IsTrueOf c (record { window = w; cpu = cpu; right = right })
    go true here found rest =
        let value : e.right ≡ right = cc in
        subst (IsTrueOf c) (is-entry w cpu e right here value) all.0
    go false here found rest = rest found

-- a further entry that is true
further : {X : Type 0} (P : X → Type 0) (xs : List X) (x : X) → AllByRecursion P xs → P x → AllByRecursion P (xs ++ x ∷ [])
further P [] x all one = (one, tt)
further P (y ∷ xs) x all one = (all.0, further P xs x all.1 one)

pub noted-knows : (c : Content) (d : Digests) (e : Digested) → Knows d c → IsTrueOf c e → Knows (noted e d) c
noted-knows c d e knows one = go (nat_lt (length d.entries.items) 16)
  where
    go : (room : Bool)
        → AllByRecursion (IsTrueOf c) (if room then d.entries.items ++ e ∷ [] else e ∷ [])
    go true = further (IsTrueOf c) d.entries.items e knows one
    go false = (one, tt)

-- what is remembered is asked for without a change
pub asked-again : (w : Window) (cpu : Cpu) (value : Option (List ℕ)) (answer : Option Why) (d : Digests) (right : Bool)
    → remembered w cpu d.entries.items ≡ Some right → asked w cpu value answer d ≡ d
asked-again w cpu None answer d right is = refl
asked-again w cpu (Some value) answer d right is =
    ap (λ o. noted_unless o (record { window = w; cpu = cpu; right = is_none answer }) d) is

-- an entry stays true where its window keeps its bytes
true-same : (c d : Content) (e : Digested) → window_bytes d e.window ≡ window_bytes c e.window → IsTrueOf c e
    → IsTrueOf d e
true-same c d e same is =
    subst (λ bytes. (x : Candidate) → candidate_of e.cpu bytes ≡ Ok x → candidate_fault bytes x ≡ answer_of e.right)
    (sym same) is

are-apart : (start len : ℕ) (w : Window) → is_apart start len w ≡ true
    → ((start + len ≤ w.start) ⊎ (w.start + w.len ≤ start))
are-apart start len w is = go (nat_le (w.start + w.len) start) refl is
  where
    go : (below : Bool) → nat_le (w.start + w.len) start ≡ below → (below || nat_le (start + len) w.start) ≡ true
        → (start + len ≤ w.start) ⊎ (w.start + w.len ≤ start)
    go true here e = inr (leb-true _ _ here)
    go false here e = inl (leb-true _ _ e)

-- entries whose windows share no byte with a changed range stay true
pub apart-true : (c d : Content) (start len : ℕ) (es : List Digested) → SameOutside start len c.flash d.flash
    → AllByRecursion (IsTrueOf c) es → AllByRecursion (IsTrueOf d) (entries_apart start len es)
apart-true c d start len [] same all = tt
apart-true c d start len (e ∷ es) same all =
    go (is_apart start len e.window) refl (apart-true c d start len es same all.1)
  where
    go : (apart : Bool) → is_apart start len e.window ≡ apart
        → AllByRecursion (IsTrueOf d) (entries_apart start len es)
        → AllByRecursion (IsTrueOf d) (cond apart (e ∷ entries_apart start len es) (entries_apart start len es))
    go true is rest =
        let range : Window = record { start = start; len = len } in
        (true-same c d e (window_bytes-apart c d range e.window same (are-apart start len e.window is)) all.0, rest)
    go false is rest = rest

-- what is known of a content is known of each that has the same flash
pub knows-same : (c d : Content) (m : Digests) → d.flash ≡ c.flash → Knows m c → Knows m d
knows-same c d m same knows = all m.entries.items knows
  where
    all : (es : List Digested) → AllByRecursion (IsTrueOf c) es → AllByRecursion (IsTrueOf d) es
    all [] each = tt
    all (e ∷ es) each = (true-same c d e (ap (λ f. window_bytes (record { flash = f; otp = c.otp }) e.window) same) each.0, all es each.1)

-- an image without a HASH_VALUE has no digest, and nothing is remembered of it
pub undigested : (bytes : List ℕ) (x : Candidate) → x.def.digest ≡ None → None ≡ candidate_fault bytes x
undigested bytes x none = sym (ap (digest_fault bytes x.block x.def x.loads.items) none)

pub asked-none : (w : Window) (cpu : Cpu) (value : Option (List ℕ)) (answer : Option Why) (d : Digests)
    → value ≡ None → d ≡ asked w cpu value answer d
asked-none w cpu value answer d none = sym (ap (λ v. asked w cpu v answer d) none)

-- a digest that was made is noted
pub asked-made : (w : Window) (cpu : Cpu) (value : Option (List ℕ)) (some : List ℕ) (answer : Option Why) (d : Digests)
    → value ≡ Some some → remembered w cpu d.entries.items ≡ None
    → noted (record { window = w; cpu = cpu; right = is_none answer }) d ≡ asked w cpu value answer d
asked-made w cpu value some answer d is none =
    sym (ap (λ v. asked w cpu v answer d) is
    ∙ ap (λ o. noted_unless o (record { window = w; cpu = cpu; right = is_none answer }) d) none)

-- a digest that is asked for is made at most once
noted-made : (e : Digested) (d : Digests) → MakesAtMost 1 d (noted e d)
noted-made e d = min-le_left (d.made + 1) (2 ^ 64 - 1)

pub asked-made_once : (w : Window) (cpu : Cpu) (value : Option (List ℕ)) (answer : Option Why) (d : Digests)
    → MakesAtMost 1 d (asked w cpu value answer d)
asked-made_once w cpu None answer d = omega arith
asked-made_once w cpu (Some value) answer d = go (remembered w cpu d.entries.items)
  where
    go : (o : Option Bool)
        → MakesAtMost 1 d (noted_unless o (record { window = w; cpu = cpu; right = is_none answer }) d)
    go None = noted-made (record { window = w; cpu = cpu; right = is_none answer }) d
    go (Some right) = omega arith
