-- What the call that begins a listing asks for: the session that the mounting stored is read back, so the name is sought in the image's directory, and kind
-- and R are those of the entry found there.
use mathlib.Core.Path.{◌≡◌, refl, sym, ap, ◌∙◌}
use mathlib.Core.Bool.{Bool, true, false}
use mathlib.Core.List.{List, [], ◌∷◌}
use Prim.Native.Nat.{ℕ}
use native.Mathlib.Omega.{arith}
use lib.Dec.{eqb}
use lib.ListN.{length, get_or}
use borrow.Author.Tests.{eqb-true, eqb-false, eq-eqb}
use Rattle.geometry.specs.Sizes.{random}
use Rattle.geometry.proofs.Tests.{either, both_ways}
use Rattle.directory.specs.Entries.{table_of, entry_at, is_free, is_kind}
use Rattle.directory.specs.Search.{find}
use Rattle.directory.specs.declared.Entry.{Entry}
use Rattle.requests.specs.declared.Request.TheVariants.{Open}
use Rattle.mounting.specs.Mounting.{mounts}
use Rattle.storing.specs.Stored.{size_of, has_buffers, is_session, session_in, lent_session}
use Rattle.storing.proofs.Read.{told-by-size}
use Rattle.storing.proofs.Start.{is_size, other-number}
use Rattle.engines.specs.Engines.{requested}
use Rattle.calling.specs.Mounted.{mount_number, mount_bytes}
use Rattle.calling.proofs.Mounted.{mount-done, mount-bad}
use Rattle.telling.specs.Told.{found, field_of, field_in}
use Rattle.typing.specs.Typing.{name_of}
use Rattle.listing.specs.Listing.{is_short, lists}
use Rattle.showing.specs.Showing.{Begun, begun, opening, opened_as}
use Rattle.callers.specs.Lent.{lent_engine}
use Rattle.callers.proofs.Called.{called}
use Rattle.callers.proofs.Kept.{starts, stored-table}
use Rattle.showing.proofs.Opening.{random-stops, other-opens, long-stops, bad-stops, unknown-stops, known-opens}
use Rattle.passes.proofs.Asks.{start-told}

abbrev number : Begun → ℕ
number x = x.number

module _ (u : Bool) (image b : List ℕ) (l : length b ≡ size_of u) where
  -- what is told of the session that the mounting stores
  module _ (ok : mounts image ≡ true) where
    abbrev s : List ℕ
    s = ((lent_engine u).mount image).session

    is-session : is_session (has_buffers s) s ≡ true
    is-session = rw (start-told u image) (starts u image).0

    table_is : (lent_session s).table ≡ table_of image
    table_is = ap (λ (v : Bool). (session_in v s).table) (start-told u image) ∙ stored-table u image ok

    found-is : (name : List ℕ) → found s name ≡ find (table_of image) name
    unfolding found
    found-is name = rw (is-session, found) (ap (λ (t : List Entry). find t name) table_is)

    field_is : (i k : ℕ) → field_in s i k ≡ field_of (entry_at (table_of image) i) k
    unfolding field_in
    field_is i k = rw (is-session, field_in) (ap (λ (t : List Entry). field_of (entry_at t i) k) table_is)

  -- ---- what is begun

  is-size : is_size b ≡ true
  is-size = either (is_size b) (λ h. h)
      (λ h. both_ways (eqb (length b) (size_of (has_buffers b))) (eq-eqb _ _ (l ∙ ap size_of (sym (told-by-size u b l)))) (other-number b image h))

  module _ (typed : List ℕ) where
    pub begun-bad : lists image ≡ false → (begun image b typed).number ≡ 11
    begun-bad h = either (is_short image)
        (λ (short : is_short image ≡ true).
        let m : mounts image ≡ false = rw short at h in
        ap number (bad-stops image b typed short 11 _ (mount-bad image b is-size false (sym m) refl) refl λ z. absurd (omega arith)))
        (λ (short : is_short image ≡ false). ap number (long-stops image b typed short))

    module _ (short : is_short image ≡ true) (ok : mounts image ≡ true) where
      good : 0 ≡ mount_number image b
      good = mount-done image b is-size true (sym ok) refl

      session : s ok ≡ mount_bytes image b
      session = sym (called.session u image b l)

      pub begun-unknown : find (table_of image) (name_of typed) ≡ (8, []) → (begun image b typed).number ≡ 8
      begun-unknown e =
          let f : 8 ≡ (found (s ok) (name_of typed)).0 = sym (ap (λ (r : ℕ × List ℕ). r.0) (found-is ok (name_of typed) ∙ e)) in
          ap number (unknown-stops image b typed short 0 (s ok) good session refl 8 f λ z. absurd (omega arith))

      module _ (i : ℕ) (e : find (table_of image) (name_of typed) ≡ (0, i ∷ [])) (used : is_free (entry_at (table_of image) i) ≡ false) where
        begun-here : begun image b typed ≡ opening image (s ok) i
        begun-here =
            let f : found (s ok) (name_of typed) ≡ (0, i ∷ []) = found-is ok (name_of typed) ∙ e in
            sym (known-opens image b typed short 0 (s ok) good session refl (ap (λ (r : ℕ × List ℕ). r.0) f) i
            (sym (ap (λ (r : ℕ × List ℕ). get_or r.1 0 0) f)))

        kind-is : field_in (s ok) i 1 ≡ (entry_at (table_of image) i).kind
        unfolding field_of
        kind-is = field_is ok i 1 ∙ rw (used, field_of)

        length-is : field_in (s ok) i 2 ≡ (entry_at (table_of image) i).length
        unfolding field_of
        length-is = field_is ok i 2 ∙ rw (used, field_of)

        pub begun-random : is_kind random (entry_at (table_of image) i) ≡ true → (begun image b typed).number ≡ 7
        begun-random r = ap number (begun-here ∙ random-stops image (s ok) i (kind-is ∙ eqb-true _ _ r))

        pub begun_opened : is_kind random (entry_at (table_of image) i) ≡ false
            → begun image b typed ≡ opened_as i (entry_at (table_of image) i).length (requested image (s ok) i Open [] [])
        begun_opened r =
            begun-here
            ∙ other-opens image (s ok) i (λ z. eqb-false _ _ r (sym kind-is ∙ z))
            ∙ ap (λ (R : ℕ). opened_as i R (requested image (s ok) i Open [] [])) length-is
