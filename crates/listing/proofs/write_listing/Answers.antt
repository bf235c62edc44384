-- The header and the lines, or that the image is bad.
use mathlib.Core.Path.{◌≡◌}
use mathlib.Core.Bool.{true, false}
use Rattle.texts.specs.Texts.{spelled}
use Rattle.listing.specs.Listing.{header, bad_image, lists}
use Rattle.texts.proofs.Writing.{then, ends_at}
use Rattle.listing.proofs.Texts.{good-listing, bad-listing}
use Rattle.listing.proofs.write_listing.Goals as goal

pub returns-then-is_short-mounts : goal.returns-then-is_short-mounts
unfolding header spelled
returns-then-is_short-mounts c =
    let image = c.args.image.now in
    let g : lists image ≡ true = rw (c.is_short.ensures, c.mounts.ensures) at c.if-is_short-mounts.true in
    let w = then c.put_all-a.ensures c.put_lines.ensures in
    rw (good-listing image g) (record { ends = ends_at w; puts = w.puts })

pub returns-else-is_short-mounts : goal.returns-else-is_short-mounts
unfolding bad_image spelled
returns-else-is_short-mounts c =
    let image = c.args.image.now in
    let g : lists image ≡ false = rw (c.is_short.ensures, c.mounts.ensures) at c.if-is_short-mounts.false in
    let w = c.put_all.ensures in
    rw (bad-listing image g) (record { ends = ends_at w; puts = w.puts })
