-- What is told of a valid image.
use Rattle.std.proofs.Common.{◌≡◌, ◌∙◌, ◌↔◌, Bool, true, false, Result, Ok, Err, sym, ap, subst}
use Rattle.pico_board.specs.declared.boot.Cpu.{Cpu}
use Rattle.pico_board.specs.declared.window.Window.{Window}
use Rattle.pico_board.specs.Content.{Content, window_bytes}
use Rattle.image_def.specs.declared.started.Started.{Started}
use Rattle.image_check.specs.declared.examining.Defined.{Defined}
use Rattle.image_check.specs.declared.why.Why.{Why}
use Rattle.image_check.specs.Addressing.{in_flash}
use Rattle.image_check.specs.Valid.{Valid}
use Rattle.image_check.specs.Image.{defined_in, started_of}
use Rattle.image_check.specs.SameImage.{HoldsImage}
use Rattle.image_check.proofs.LawLemmas.{trial-more}
use Rattle.image_check.proofs.SameLemmas.{held-image}
use Rattle.boot_sweep.specs.Firms.{Firm, IsFirm}
use Rattle.check_images.specs.declared.found.Hashed.{Hashed}
use Rattle.check_images.specs.declared.found.ImageFacts.{ImageFacts}
use Rattle.check_images.specs.Images.{IsHashed, IsImageOf}

-- an image that is valid is valid with a trial image allowed
pub valid-more : (c : Content) (w : Window) (cpu : Cpu) (trial : Bool) (s : Started) → Valid c w cpu trial s
    → Valid c w cpu true s
valid-more c w cpu true s v = v
valid-more c w cpu false s v = trial-more in_flash w cpu c.otp (window_bytes c w) s v

abbrev pub held-of : (c : Content) (w : Window) (cpu : Cpu) (trial : Bool) (s : Started) → Valid c w cpu trial s
    → HoldsImage cpu (window_bytes c w) s
held-of c w cpu trial s v = record {
  image = v.image;
  entry = v.entry;
  sound = v.sound;
  started = v.started
      ∙ ap (λ (x : Window). started_of x v.image v.entry) (sym (ap (λ (t : Started). t.window) v.started));
}

same-ok : (a b : Defined) (r : Result Defined Why) → r ≡ Ok a → r ≡ Ok b → a ≡ b
same-ok a b r e f = cc

-- what its definition says of its digest
pub hash-is : (c : Content) (w : Window) (cpu : Cpu) (trial : Bool) (s : Started) (v : Valid c w cpu trial s)
    (d : Defined) (hash : Hashed) → Ok d ≡ defined_in cpu (window_bytes c w) → IsHashed d.def hash
    → IsHashed v.image.def hash
hash-is c w cpu trial s v d hash is hashed =
    subst (λ (x : Defined). IsHashed x.def hash)
    (same-ok d v.image (defined_in cpu (window_bytes c w)) (sym is)
    (held-image cpu (window_bytes c w) s (held-of c w cpu trial s v))) hashed

-- it is firm where the test says so
pub firm-is : (c : Content) (w : Window) (cpu : Cpu) (trial : Bool) (s : Started) → Valid c w cpu trial s → (firm : Bool)
    → ((firm ≡ true) ↔ IsFirm cpu (window_bytes c w) s) → (firm ≡ true) ↔ Firm c w cpu s
firm-is c w cpu trial s v firm test = (
  λ yes. record { valid = valid-more c w cpu trial s v; firm = test.0 yes },
  λ is. test.1 is.firm,
)

-- its definition is read
pub no-fault : (c : Content) (w : Window) (cpu : Cpu) (trial : Bool) (s : Started) → Valid c w cpu trial s → (why : Why)
    → Err why ≡ defined_in cpu (window_bytes c w) → ⊥
no-fault c w cpu trial s v why is =
    not-both v.image why (defined_in cpu (window_bytes c w))
    (held-image cpu (window_bytes c w) s (held-of c w cpu trial s v)) (sym is)
  where
    not-both : (a : Defined) (e : Why) (r : Result Defined Why) → r ≡ Ok a → r ≡ Err e → ⊥
    not-both a e r one two = cc

-- what is told of it
pub facts-are : (c : Content) (w : Window) (cpu : Cpu) (trial : Bool) (s : Started) → Valid c w cpu trial s
    → (d : Defined) → Ok d ≡ defined_in cpu (window_bytes c w) → (told : ImageFacts) → told.version ≡ s.version
    → told.rollback ≡ s.rollback → told.trial ≡ s.trial → IsHashed d.def told.hash
    → ((told.firm ≡ true) ↔ IsFirm cpu (window_bytes c w) s) → IsImageOf c w cpu trial told
facts-are c w cpu trial s v d is told version rollback tried hash firm = record {
  image = s;
  valid = v;
  version_is = version;
  rollback_is = rollback;
  trial_is = tried;
  hash_is = hash-is c w cpu trial s v d told.hash is hash;
  firm_is = firm-is c w cpu trial s v told.firm firm;
}
