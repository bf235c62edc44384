-- Bytes that are no session are a session that is legal for no image: its entries are of kind 5, and kinds are 0 to 4.
use mathlib.Core.Path.{◌≡◌, refl, ap, ◌∙◌}
use mathlib.Core.Bool.{Bool, false, and-false}
use mathlib.Core.List.{List}
use Prim.Native.Nat.{ℕ}
use Rattle.geometry.specs.Lists.{all, every}
use Rattle.geometry.specs.Sizes.{sectors_of, lawful_length}
use Rattle.directory.specs.Rules.{kind_known, table_rules, table_good}
use Rattle.sessions.specs.Session.{bare, session_rules, legal, buffered_legal}
use Rattle.storing.specs.Stored.{is_session, unlawful, session_in}
use Rattle.storing.proofs.Read.{session-none}

table-bad : (n : ℕ) → table_good n unlawful.table ≡ false
unfolding table_good table_rules all every kind_known unlawful
table-bad n = refl

pub unlawful-is : (image : List ℕ) → legal image (bare unlawful) ≡ false
unfolding legal session_rules all bare
unlawful-is image = rw (table-bad (sectors_of image)) (and-false (lawful_length image))

pub unlawful-held : (image : List ℕ) → buffered_legal image unlawful ≡ false
unfolding buffered_legal
unlawful-held image = rw (unlawful-is image)

pub none-legal : (u : Bool) (image b : List ℕ) → is_session u b ≡ false → buffered_legal image (session_in u b) ≡ false
none-legal u image b h = ap (buffered_legal image) (session-none u b h) ∙ unlawful-held image

pub none-legal-bare : (u : Bool) (image b : List ℕ) → is_session u b ≡ false → legal image (bare (session_in u b)) ≡ false
none-legal-bare u image b h = ap (λ s. legal image (bare s)) (session-none u b h) ∙ unlawful-is image
