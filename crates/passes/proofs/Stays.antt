-- A listing leaves the image as it was: it is a run of an opening and reads from a mounting, and such a run changes no byte.
use mathlib.Core.Path.{◌≡◌, refl, sym, ap, ◌∙◌}
use mathlib.Core.Bool.{Bool, true}
use mathlib.Core.List.{List, []}
use Prim.Native.Nat.{ℕ, zero, suc}
use native.Mathlib.Omega.{arith}
use lib.Dec.{eqb}
use lib.ListN.{length, take, get_or}
use Rattle.geometry.specs.Lists.{every}
use Rattle.geometry.specs.Sizes.{random}
use Rattle.geometry.proofs.Tests.{and_both}
use Rattle.directory.proofs.Free.{every_append}
use Rattle.requests.specs.Numbers.{number_of}
use Rattle.requests.specs.declared.Request.{Request}
use Rattle.requests.specs.declared.Request.TheVariants.{Open, Read}
use Rattle.steps.specs.Step.{After}
use Rattle.storing.specs.Stored.{size_of}
use Rattle.engines.specs.Engines.{requested}
use Rattle.calling.specs.Mounted.{mount_number, mount_bytes}
use Rattle.tapes.specs.Runs.{Asking}
use Rattle.typing.specs.Typing.{name_of}
use Rattle.telling.specs.Told.{found, field_in}
use Rattle.listing.specs.Listing.{is_short}
use Rattle.demands.specs.Engine.{Standing, step_of, run, mounted, are_bytes, in_bytes}
use Rattle.serving.proofs.Taped.{of-both}
use Rattle.promises.specs.Quiet.{is_quiet, asks_quietly}
use Rattle.showing.specs.Showing.{Begun, stopped, begun, begun_on, sought, opening, room_for, read_into}
use Rattle.callers.proofs.Called.{called}
use Rattle.callers.proofs.Demands.{lent-quiet}
use Rattle.passes.specs.Printed.{goes_on, image_by, left_by}
use Rattle.passes.proofs.Asks.{more, then, nothing-asked, more-fit, call-is, more-is}

-- whether it goes on or ends
goes-or-ends : (n : ℕ) (x y z : List ℕ) → x ≡ z → (n ≡ 0 → y ≡ z) → goes_on n x y ≡ z
unfolding goes_on
goes-or-ends zero x y z p q = q refl
goes-or-ends (suc n) x y z p q = p

module _ (u : Bool) (image : List ℕ) (bytes : are_bytes image ≡ true) where
  -- ---- where quiet requests lead from the mounting

  record Reached (v b : List ℕ) : Type 0 where
    asked : List Asking
    fit : in_bytes image asked ≡ true
    quiet : every asks_quietly asked ≡ true
    there : then u image asked ≡ record { image = v; session = b }

  stays : (v b : List ℕ) → Reached v b → v ≡ image
  stays v b r = sym (ap (λ (w : Standing (List ℕ)). w.image) r.there) ∙ (lent-quiet u).stays image r.asked r.fit r.quiet

  -- and one more
  goes_on_lem : (v b : List ℕ) → Reached v b → (i : ℕ) (q : Request) → is_quiet q ≡ true → (buffer : List ℕ)
      → Reached (requested v b i q [] buffer).image (requested v b i q [] buffer).session
  unfolding step_of every asks_quietly
  goes_on_lem v b r i q h buffer = record {
    asked = more r.asked i q buffer;
    fit = more-fit u image r.asked r.fit i q buffer;
    quiet = every_append asks_quietly r.asked _ ∙ and_both _ _ r.quiet (and_both (is_quiet q) true h refl);
    there =
        more-is u image r.asked r.fit i q buffer
        ∙ sym (ap left (call-is u image r.asked r.fit i q buffer))
        ∙ ap (λ (w : Standing (List ℕ)). left (requested w.image w.session i q [] buffer)) r.there;
  }
    where
      left : After (List ℕ) → Standing (List ℕ)
      left x = record { image = x.image; session = x.session }

  -- ---- the calls for the next line

  lines-leave : (k : ℕ) (v b : List ℕ) → Reached v b → (i R : ℕ) (out : List ℕ) → image_by k v b i R out ≡ image
  unfolding image_by
  lines-leave zero v b r i R out = stays v b r
  lines-leave (suc k) v b r i R out =
      let w : After (List ℕ) = read_into v b i R out in
      let s : Reached w.image w.session = unfold read_into is_quiet in goes_on_lem v b r i Read refl (take (room_for R out) out) in
      goes-or-ends (number_of w.answer) _ _ image (stays w.image w.session s) λ n. lines-leave k w.image w.session s i R _

  -- ---- and the one that begins

  -- a number other than 0 ends the listing, whatever the bytes are
  abbrev Left : Begun → Type 0
  Left s = (s.image ≡ image) × (s.number ≡ 0 → Reached s.image s.session)

  ends : (n : ℕ) (b : List ℕ) → Left (stopped (suc n) image b)
  ends n b = (refl, λ m. absurd (omega arith))

  module _ (b : List ℕ) (r : Reached image b) where
    opening-leaves : (i : ℕ) → Left (opening image b i)
    unfolding opening is_quiet
    opening-leaves i =
        let s : Reached (requested image b i Open [] []).image (requested image b i Open [] []).session = goes_on_lem image b r i Open refl [] in
        of-both Left (eqb (field_in b i 1) random) (ends 6 b) (stays _ _ s, λ n. s)

    sought-leaves : (told : ℕ × List ℕ) → Left (sought image b told)
    unfolding sought
    sought-leaves (zero, told) = opening-leaves (get_or told 0 0)
    sought-leaves (suc n, told) = ends n b

    mounted-leaves : (typed : List ℕ) (n : ℕ) → Left (begun_on image b typed n)
    unfolding begun_on
    mounted-leaves typed zero = sought-leaves (found b (name_of typed))
    mounted-leaves typed (suc n) = ends n b

  module _ (b : List ℕ) (l : length b ≡ size_of u) where
    mounted-reached : Reached image (mount_bytes image b)
    unfolding every run mounted
    mounted-reached = record {
      asked = [];
      fit = nothing-asked image bytes;
      quiet = refl;
      there = ap (λ (x : List ℕ). record { image = image; session = x }) (sym (called.session u image b l));
    }

    begun-leaves : (typed : List ℕ) → Left (begun image b typed)
    unfolding begun
    begun-leaves typed = of-both Left (is_short image) (mounted-leaves (mount_bytes image b) mounted-reached typed (mount_number image b)) (ends 10 b)

    pub listing-leaves : (typed out : List ℕ) (k : ℕ) → left_by k image b typed out ≡ image
    unfolding left_by
    listing-leaves typed out k =
        let s : Begun = begun image b typed in
        let h : Left s = begun-leaves typed in
        goes-or-ends s.number _ _ image h.0 λ n. lines-leave k s.image s.session (h.1 n) (get_or s.told 0 0) (get_or s.told 1 0) _
