-- When two classes of cuts are the same.
use Rattle.std.specs.Prelude.{Bool, true, false}
use Rattle.cut_class.specs.declared.class.Class.{Class}
use Rattle.cut_class.specs.declared.class.Class.TheVariants.{Former, Finished, Whole, Tail, Mixed, Bootsel}

abbrev pub is_same_class : Class → Class → Bool
is_same_class Former Former = true
is_same_class Finished Finished = true
is_same_class Whole Whole = true
is_same_class Tail Tail = true
is_same_class Mixed Mixed = true
is_same_class Bootsel Bootsel = true
is_same_class _ _ = false
