-- What a look shows is the part of the image that begins at the place told, with as many bytes as the call answers.
use mathlib.Core.Path.{◌≡◌, refl, sym, ap, ◌∙◌}
use mathlib.Core.List.{List}
use Prim.Native.Nat.{ℕ, ◌-◌, ◌<◌, min}
use native.Mathlib.Omega.{arith}
use lib.ListN.{length}
use Rattle.geometry.specs.Bytes.{part}
use Rattle.geometry.proofs.Bytes.{same_bytes, length-part-min, get_d_part}
use Rattle.directory.specs.Entries.{entry_at}
use Rattle.directory.specs.declared.Entry.{Entry}
use Rattle.requests.specs.declared.Answer.{Answer}
use Rattle.requests.specs.declared.Answer.TheVariants.{Done, Met, Refused}
use Rattle.steps.specs.Look.{shown}
use Rattle.storing.specs.Stored.{lent_session}
use Rattle.looking.specs.Looking.{look_in, look_answer_in, place_by, look_place}
use Rattle.looking.proofs.Looks.{shown_by}

-- a part has the bytes that it has
part_length : (image : List ℕ) (at n : ℕ) → part image at (length (part image at n)) ≡ part image at n
part_length image at n =
    let m : ℕ = length (part image at n) in
    let l₁ : length (part image at m) ≡ min m (length image - at) = length-part-min image at m in
    let l₂ : m ≡ min n (length image - at) = length-part-min image at n in
    same_bytes _ _ (omega arith) λ (k : ℕ) (q : k < length (part image at m)).
    get_d_part image at m k 0 (omega arith) ∙ sym (get_d_part image at n k 0 (omega arith))

module _ (image b : List ℕ) (i g old : ℕ) where
  pub look_is : part image (look_place image b i g old) (length (look_in image b i g)) ≡ look_in image b i g
  unfolding look_place
  look_is = ap (λ (x : List ℕ). part image at (length x)) (sym shown-so) ∙ by (look_answer_in image b i g) ∙ shown-so
    where
      e : Entry
      e = entry_at (lent_session b).table i

      at : ℕ
      at = place_by (look_answer_in image b i g) e g old

      shown-so : shown (look_answer_in image b i g) e g image ≡ look_in image b i g
      shown-so = shown_by image b i g

      by : (a : Answer) → part image (place_by a e g old) (length (shown a e g image)) ≡ shown a e g image
      by Done = unfold place_by shown in part_length image _ _
      by (Met x) = unfold shown part in refl
      by (Refused x) = unfold shown part in refl
