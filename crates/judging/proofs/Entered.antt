-- The first two tests, 12 and 8, are made before anything else; behind them the entry and its state are lawful, and the extent is whole.
use mathlib.Core.Path.{◌≡◌, sym, ap, ◌∙◌}
use mathlib.Core.Bool.{Bool, true, false, not}
use mathlib.Core.List.{List}
use Prim.Native.Nat.{ℕ, ◌+◌, ◌*◌, ◌≤◌}
use native.Mathlib.Omega.{arith}
use lib.ListN.{length}
use borrow.Author.Tests.{eqb-false, eq-eqb, ne_eqb, not-true, not-false}
use Rattle.geometry.specs.Sizes.{sector, sectors_of}
use Rattle.geometry.proofs.Bytes.{length_part}
use Rattle.geometry.proofs.Places.{lawful-whole}
use Rattle.directory.specs.Entries.{entry_at, is_free}
use Rattle.directory.proofs.Good.{Lies, lies}
use Rattle.requests.proofs.First.{not-legal, not_there}
use Rattle.sessions.specs.Session.{bare, file_of, extent, legal}
use Rattle.sessions.proofs.Legal.{lawful-length, good-table, bare-legal}
use Rattle.steps.specs.Next.{Scene, facts_with}
use Rattle.steps.specs.Verdict.{seen_bytes, entry_next, file_with, buffer_next, answer_of, verdict_of}
use Rattle.steps.proofs.Lawful.{Lawful}
use Rattle.steps.proofs.Inside.{lawful}
use Rattle.finding.specs.Lent.{lent_by, lent_in, own_state, seen_of, seen_in}
use Rattle.storing.specs.Stored.{lent_session}
use Rattle.finding.proofs.Lent.{lent-own}
use Rattle.straight.specs.Straight.{code_given}
use Rattle.following.specs.Following.{entry_from, file_from, verdict_from}
use Rattle.judging.specs.Judged.{scene_seen, judged_by, buffer_by}
use Rattle.finding.specs.declared.Seen.{Seen}
use Rattle.judging.specs.Turns.{Stands, scene_of, Ruled}
use Rattle.geometry.specs.declared.Place.{Place}
use Rattle.directory.specs.declared.Entry.{Entry}
use Rattle.sessions.specs.declared.OpenFile.{OpenFile}
use Rattle.sessions.specs.declared.Session.{Session}
use Rattle.requests.specs.declared.Request.{Request}
use Rattle.requests.specs.declared.Refusal.{Refusal}
use Rattle.requests.specs.declared.Refusal.TheVariants.{NotThere, NotLegal}
use Rattle.requests.specs.declared.Answer.{Answer}
use Rattle.requests.specs.declared.Answer.TheVariants.{Refused}
use Rattle.steps.specs.declared.Verdict.{Verdict}

-- a refusal changes nothing
module _ (lawful : Bool) (files buffer code : ℕ) (q : Request) (c : Scene) (x : Refusal) (h : answer_of lawful files buffer code q c ≡ Refused x) where
  refused-is : (p : Place) → verdict_from (Refused x) q c.number c.entry c.file p ≡ verdict_of lawful files buffer code q c
  unfolding verdict_of entry_next file_with entry_from file_from
  refused-is p = rw h

  refused-buffer : (old : List ℕ) → old ≡ buffer_next (answer_of lawful files buffer code q c) q c old
  unfolding buffer_next
  refused-buffer old = rw h

-- an entry's extent lies in the image
extent-in : (image : List ℕ) (s : Session) (i : ℕ) → legal image s ≡ true → is_free (entry_at s.table i) ≡ false
    → sector * ((entry_at s.table i).first + (entry_at s.table i).sectors) ≤ length image
extent-in image s i ok used =
    let l : Lies (sectors_of image) (entry_at s.table i) = lies (sectors_of image) s.table (good-table image s ok) i (eqb-false (entry_at s.table i).kind 0 used) in
    omega (arith, l.ends, lawful-whole image (lawful-length image s ok))

-- as the program goes: the session is legal or not, the entry is used or not
module _ (image : List ℕ) (ok : Bool) (files : ℕ) (e : Entry) (f : OpenFile) (held : ℕ) (over : List ℕ) (i : ℕ) (q : Request) (given : List ℕ) (code : ℕ) (buffer : List ℕ) where
  abbrev scene : Scene
  scene = scene_of i e f (seen_bytes e f (extent e image) held over) given

  -- a ruling
  abbrev Rules : Answer → Place → List ℕ → Type 0
  Rules a p b = Ruled ok files code q scene buffer a p b

  refused : (x : Refusal) → answer_of ok files (length buffer) code q scene ≡ Refused x → (p : Place) → Rules (Refused x) p buffer
  unfolding Ruled
  refused x h p = (sym h, refused-is ok files (length buffer) code q scene x h p, refused-buffer ok files (length buffer) code q scene x h buffer)

  pub twelve : not ok ≡ true → (p : Place) → Rules (Refused NotLegal) p buffer
  twelve h = refused NotLegal (not-legal q (facts_with ok files (length buffer) code q scene) (not-true ok h))

  module _ (h : not ok ≡ false) where
    pub eight : e.kind ≡ 0 → (p : Place) → Rules (Refused NotThere) p buffer
    eight k = refused NotThere (not_there q (facts_with ok files (length buffer) code q scene) (not-false ok h) (eq-eqb e.kind 0 k))

    module _ (s : Stands image ok e f) (k : e.kind ≡ 0 → ⊥) where
      pub inside : sector * (e.first + e.sectors) ≤ length image
      inside = (s (not-false ok h) (ne_eqb e.kind 0 k)).1

      pub enters : (bytes : List ℕ) → bytes ≡ extent e image → (Lawful e f) × (length bytes ≡ sector * e.sectors)
      unfolding extent
      enters bytes eb = ((s (not-false ok h) (ne_eqb e.kind 0 k)).0, rw eb (length_part image _ _ (omega (arith, inside))))

    pub ruled : (bytes : List ℕ) (a : Answer) (p : Place) (b : List ℕ) → bytes ≡ extent e image
        → Ruled true files code q (scene_of i e f (seen_bytes e f bytes held over) given) buffer a p b → Rules a p b
    ruled bytes a p b eb h2 = rw (not-false ok h) (rw eb at h2)

  -- the verdict that a ruling makes
  abbrev Comes : Verdict → List ℕ → Type 0
  Comes v b = (v ≡ verdict_of ok files (length buffer) code q scene) × (b ≡ buffer_next (answer_of ok files (length buffer) code q scene) q scene buffer)

  pub comes : (a : Answer) (p : Place) (b : List ℕ) (v : Verdict) → Rules a p b → v ≡ verdict_from a q i e f p → Comes v b
  unfolding Ruled
  comes a p b v r ev = (ev ∙ r.1, r.2)

-- a legal session's entry and state stand
pub stands : (image : List ℕ) (s : Session) (i : ℕ) (e : Entry) (f : OpenFile) (ok : Bool)
    → e ≡ entry_at s.table i → f ≡ file_of s.files i → (ok ≡ true → legal image s ≡ true) → Stands image ok e f
stands image s i e f ok ee ef el l used =
    let u : is_free (entry_at s.table i) ≡ false = rw ee at used in
    rw (ee, ef) (lawful image s (el l) i u, extent-in image s i (el l) u)

-- ---- a session in lent bytes

module _ (image b : List ℕ) (i : ℕ) (x : Seen) (ex : x ≡ seen_in image b i) where
  -- what is seen of a legal session stands
  pub seen-stands : Stands image x.lawful x.entry x.file
  unfolding seen_of bare
  seen-stands =
      stands image (bare (lent_session b)) i x.entry x.file x.lawful (ap (λ (y : Seen). y.entry) ex) (ap (λ (y : Seen). y.file) ex) (λ t. bare-legal image (lent_session b) (sym (ap (λ (y : Seen). y.lawful) ex) ∙ t))

  -- the held sector is lent
  pub seen-lent : lent_in b x.slot x.hold.holds ≡ lent_by (own_state (lent_session b) i)
  unfolding seen_of
  seen-lent = ap (λ (y : Seen). lent_in b y.slot y.hold.holds) ex ∙ lent-own b i

-- the verdict that a ruling on what is seen makes
pub judged : (image : List ℕ) (x : Seen) (over : List ℕ) (i : ℕ) (q : Request) (given : List ℕ) (size : ℕ) (buffer : List ℕ) (z : Seen) (lent : List ℕ)
    → size ≡ length (code_given x.entry given) → x ≡ z → lent ≡ over → (a : Answer) (p : Place) (b : List ℕ) (v : Verdict)
    → Rules image x.lawful x.opened x.entry x.file x.hold.held lent i q given size buffer a p b → v ≡ verdict_from a q i x.entry x.file p
    → (record { verdict = v; seen = x; size = size } ≡ judged_by image z over i q given (length buffer)) × (b ≡ buffer_by image z over i q given buffer)
unfolding judged_by buffer_by
judged image x over i q given size buffer z lent es ex el a p b v r ev =
    let c = rw (es, el) at (comes image x.lawful x.opened x.entry x.file x.hold.held lent i q given size buffer a p b v r ev) in
    (same c.0 ∙ ap (λ (y : Seen). judged_by image y over i q given (length buffer)) ex, c.1 ∙ ap (λ (y : Seen). buffer_by image y over i q given buffer) ex)
  where
    same : v ≡ verdict_of x.lawful x.opened (length buffer) (length (code_given x.entry given)) q (scene_seen image x over i q given)
        → record { verdict = v; seen = x; size = size } ≡ judged_by image x over i q given (length buffer)
    same e = rw (e, es)
