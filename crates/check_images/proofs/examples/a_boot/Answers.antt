use Rattle.std.proofs.Common.{refl}
use Rattle.check_images.proofs.examples.a_boot.Goals as goal

pub returns : goal.returns
returns c =
    let session = c.a_cut_behind_the_image.ensures.session in
    record { content = session.right; chosen = session.former; left = refl }
