-- `listing::put_letters` meets its contract: the letters before the first blank are put.
use mathlib.Core.Path.{◌≡◌, ap, ◌∙◌}
use native.Mathlib.Omega.{arith}
use borrow.Author.Rules.{rules}
use lib.ListN.{length, take}
use Rattle.std.proofs.lemmas.List.{take-map}
use Rattle.characters.specs.Characters.{ascii_of}
use Rattle.characters.proofs.Translated.{all_made}
use Rattle.listing.specs.Listing.{name_text}
use Rattle.listing.proofs.Texts.{name-is}
use Rattle.listing.proofs.put_letters.Goals as goal

pub returns : goal.returns
returns c =
    let x = c.args.x in
    let n = c.unwrap_or-end.result in
    let s : length x ≡ 8 = search rules in
    let made = all_made x c.translate.new.out 8 c.translate.result (omega arith) c.translate.ensures in
    let e : take n c.translate.new.out ≡ name_text x =
    ap (take n) made ∙ take-map ascii_of n x ∙ name-is c.blank_in.result n x c.blank_in.ensures (rw s c.unwrap_or-end.ensures) in
    rw (← e) c.put_all.ensures
