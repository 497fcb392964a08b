-- Classes are the same exactly where they are told to be.
use Rattle.std.proofs.Common.{◌≡◌, true, refl}
use Rattle.cut_class.specs.declared.class.Class.{Class}
use Rattle.cut_class.specs.declared.class.Class.TheVariants.{Former, Finished, Whole, Tail, Mixed, Bootsel}
use Rattle.cut_class.specs.Classes.{is_same_class}

pub same-class : (a b : Class) → is_same_class a b ≡ true → a ≡ b
same-class Former Former is = refl
same-class Former Finished is = cc
same-class Former Whole is = cc
same-class Former Tail is = cc
same-class Former Mixed is = cc
same-class Former Bootsel is = cc
same-class Finished Former is = cc
same-class Finished Finished is = refl
same-class Finished Whole is = cc
same-class Finished Tail is = cc
same-class Finished Mixed is = cc
same-class Finished Bootsel is = cc
same-class Whole Former is = cc
same-class Whole Finished is = cc
same-class Whole Whole is = refl
same-class Whole Tail is = cc
same-class Whole Mixed is = cc
same-class Whole Bootsel is = cc
same-class Tail Former is = cc
same-class Tail Finished is = cc
same-class Tail Whole is = cc
same-class Tail Tail is = refl
same-class Tail Mixed is = cc
same-class Tail Bootsel is = cc
same-class Mixed Former is = cc
same-class Mixed Finished is = cc
same-class Mixed Whole is = cc
same-class Mixed Tail is = cc
same-class Mixed Mixed is = refl
same-class Mixed Bootsel is = cc
same-class Bootsel Former is = cc
same-class Bootsel Finished is = cc
same-class Bootsel Whole is = cc
same-class Bootsel Tail is = cc
same-class Bootsel Mixed is = cc
same-class Bootsel Bootsel is = refl

pub class-self : (a : Class) → is_same_class a a ≡ true
class-self Former = refl
class-self Finished = refl
class-self Whole = refl
class-self Tail = refl
class-self Mixed = refl
class-self Bootsel = refl
