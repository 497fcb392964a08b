use Rattle.boot_map.proofs.MapLemmas.{table-told}
use Rattle.boot_map.proofs.laws.the_table_in_force_is_that_of_the_flash.Goals as goal

pub returns : goal.returns
returns a = table-told
