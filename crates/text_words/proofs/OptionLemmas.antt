-- What holds of what was found, step by step.
use Rattle.std.proofs.Common.{◌≡◌, Bool, true, false, Option, Some, None, refl}
use Rattle.std.specs.Prelude.{Result, Ok, Err, IfSome, if◌then◌else◌, option_and_then, option_map}
use Rattle.std.specs.Result.{result_ok}

pub if-some : {A : Type 0} (P : A → Type 0) (b : Bool) (x y : Option A) → (b ≡ true → IfSome x P)
    → (b ≡ false → IfSome y P) → IfSome (if b then x else y) P
if-some P true x y first second = first refl
if-some P false x y first second = second refl

pub map-some : {A B : Type 0} (P : A → Type 0) (Q : B → Type 0) (f : A → B) (o : Option A) → IfSome o P
    → ((a : A) → P a → Q (f a)) → IfSome (option_map f o) Q
map-some P Q f None some then_so = tt
map-some P Q f (Some a) some then_so = then_so a some

pub and_then-some : {A B : Type 0} (P : A → Type 0) (Q : B → Type 0) (f : A → Option B) (o : Option A)
    → IfSome o P → ((a : A) → P a → IfSome (f a) Q) → IfSome (option_and_then f o) Q
and_then-some P Q f None some then_so = tt
and_then-some P Q f (Some a) some then_so = then_so a some

pub ok-some : {T E : Type 0} (P : T → Type 0) (r : Result T E) → ((x : T) → r ≡ Ok x → P x)
    → IfSome (result_ok r) P
ok-some P (Ok x) so = so x refl
ok-some P (Err e) so = tt

-- of what was found
pub some-of : {A : Type 0} (P : A → Type 0) (o : Option A) (x : A) → o ≡ Some x → IfSome o P → P x
some-of P None x is some = absurd (cc is)
some-of P (Some y) x is some = let same : y ≡ x = cc in rw same at some

pub weaken-some : {A : Type 0} (P Q : A → Type 0) (o : Option A) → IfSome o P → ((a : A) → P a → Q a) → IfSome o Q
weaken-some P Q None some then_so = tt
weaken-some P Q (Some a) some then_so = then_so a some
