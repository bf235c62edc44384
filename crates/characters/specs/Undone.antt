-- What is promised of the two tables: "For the listed characters the two tables undo each other, shown once over the whole tables." Definitions only.
use Rattle.std.specs.Prelude.{◌≡◌, true, false, ℕ, ◌<◌}
use Rattle.geometry.specs.Sizes.{blank}
use Rattle.characters.specs.Characters.{listed, codes, among, ascii_of, ebcdic_of}

-- of each byte of EBCDIC, and of each byte of ASCII
pub record Undone : Type 0 where
  pub code_back : (c : ℕ) → c < 256 → among codes c ≡ true → ebcdic_of (ascii_of c) ≡ c
  pub no_code : (c : ℕ) → c < 256 → among codes c ≡ false → ascii_of c ≡ 0x2E
  pub listed_back : (c : ℕ) → c < 256 → among listed c ≡ true → ascii_of (ebcdic_of c) ≡ c
  pub not_listed : (c : ℕ) → c < 256 → among listed c ≡ false → ebcdic_of c ≡ blank
