use Rattle.std.proofs.Common.{refl}
use Rattle.std.proofs.Math.Dec.{lit≤}
use Rattle.std.specs.List.{IsDistinct}
use Rattle.law_premises.proofs.examples.scripts.blocks_of_a_download.Goals as goal

pub returns-clause-both : goal.returns-clause-both
unfolding IsDistinct
returns-clause-both c = record {
  window = record { start = refl; len = refl; some = lit≤ tt };
  each = (
    record {
      is = record {
        flags = lit≤ tt;
        address = lit≤ tt;
        aligned = refl;
        some = lit≤ tt;
        few = lit≤ tt;
        number = lit≤ tt;
        family = lit≤ tt;
        page = refl;
      };
      same_family = refl;
      same_count = refl;
    },
    (
      record {
        is = record {
          flags = lit≤ tt;
          address = lit≤ tt;
          aligned = refl;
          some = lit≤ tt;
          few = lit≤ tt;
          number = lit≤ tt;
          family = lit≤ tt;
          page = refl;
        };
        same_family = refl;
        same_count = refl;
      },
      tt,
    ),
  );
  distinct = ((refl, tt), (tt, tt));
}

pub returns-clause-next : goal.returns-clause-next
returns-clause-next c = record { family = refl; count = refl; fresh = refl }
