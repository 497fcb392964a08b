-- How answers that may be faults follow one another.
use Rattle.std.proofs.Common.{◌≡◌, Option, Some, None, Result, Ok, Err, refl}
use Rattle.image_check.specs.Answers.{and_then, and_unless, fault_as}

-- after a value the rest decides
pub ok-and_then : {A B F : Type 0} (r : Result A F) (f : A → Result B F) (x : A) (y : Result B F) → r ≡ Ok x → f x ≡ y
    → and_then r f ≡ y
ok-and_then r f x y found next = rw found next

-- a fault decides
pub err-and_then : {A B F : Type 0} (r : Result A F) (f : A → Result B F) (e : F) → r ≡ Err e → and_then r f ≡ Err e
err-and_then r f e h = rw h refl

-- after a rule that holds the rest decides
pub ok-and_unless : {B F : Type 0} (o : Option F) (r y : Result B F) → o ≡ None → r ≡ y → and_unless o r ≡ y
ok-and_unless o r y holds next = rw holds next

-- a rule that fails decides
pub err-and_unless : {B F : Type 0} (o : Option F) (r : Result B F) (e : F) → o ≡ Some e → and_unless o r ≡ Err e
err-and_unless o r e h = rw h refl

pub ok-fault_as : {A F G : Type 0} (name : F → G) (r : Result A F) (x : A) → r ≡ Ok x → fault_as name r ≡ Ok x
ok-fault_as name r x h = rw h refl

pub err-fault_as : {A F G : Type 0} (name : F → G) (r : Result A F) (e : F) → r ≡ Err e → fault_as name r ≡ Err (name e)
err-fault_as name r e h = rw h refl
