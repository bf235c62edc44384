-- From one file to a whole session. What holds of every file from a mounting on holds behind every request: the file that is asked stays what its
-- tape or row is, by what is proved of it by itself; every other keeps its entry, its state and its extent, since extents share no sector.
use mathlib.Core.Path.{◌≡◌, refl, sym, ap, ◌∙◌, subst}
use mathlib.Core.Logic.{◌≢◌, ⊎_elim}
use mathlib.Core.Bool.{true, false}
use mathlib.Core.List.{List}
use Prim.Native.Nat.{ℕ, ◌+◌, ◌*◌, ◌<◌}
use native.Mathlib.Omega.{arith}
use native.Mathlib.Decide.{ℕ_discrete}
use lib.ListN.{length, get_or, set, length-set}
use lib.Seq.{get_or-set_same, get_or-set_other, ext_get_or}
use borrow.Author.Tests.{eqb-false}
use Rattle.geometry.specs.Bytes.{lay}
use Rattle.geometry.specs.Sizes.{entries, compressed, random, most_open, sectors_of, free, lawful_length}
use Rattle.geometry.proofs.Places.{lawful-whole, lawful-some}
use Rattle.geometry.proofs.Tests.{either, both_ways}
use Rattle.directory.specs.Entries.{entry_at, table_of, free_entry, is_free, is_kind}
use Rattle.directory.specs.Stamp.{stamp_bytes, restamped}
use Rattle.directory.proofs.Good.{Lies, lies, extents-apart}
use Rattle.directory.proofs.Table.{length-table}
use Rattle.directory.proofs.Stamped.{stamped-in, stamp-table}
use Rattle.requests.specs.Judge.{judge}
use Rattle.requests.proofs.Done.{done-allows}
use Rattle.sessions.specs.Session.{file_of, slot_of, open_files, extent, legal}
use Rattle.sessions.proofs.Legal.{good-table, lawful-length, legal-length}
use Rattle.steps.specs.Next.{Scene, facts_of, file_met, entry_done, counted}
use Rattle.steps.specs.Effects.{effects, plain_do, plain_all}
use Rattle.steps.specs.Verdict.{entry_next, file_next}
use Rattle.steps.proofs.Lawful.{Lawful}
use Rattle.steps.proofs.Inside.{AllSuit, lawful, suit}
use Rattle.steps.proofs.Frame.{length-plain, other-plain, own-plain, Unstamped, table-plain, stamps-or}
use Rattle.tapes.specs.Model.{Model, nothing, model_at, model_next}
use Rattle.serving.proofs.Solo.{Sound, Serves, Solo, solo_answer, bytes_next}
use Rattle.serving.proofs.Stays.{same_next}
use Rattle.serving.proofs.Packed.{packed-serves}
use Rattle.serving.proofs.Fixed.{fixed}
use Rattle.serving.proofs.Granules.{granules}
use Rattle.serving.proofs.Keeping.{Goes, on, off, goes, Of, Answered, done, session_next, legal-next, in-entries, file-then, file-others}
use Rattle.serving.proofs.View.{shows_at, view, shows_same, length-view, view-at}
use Rattle.directory.specs.declared.Entry.{Entry}
use Rattle.sessions.specs.declared.OpenFile.{OpenFile}
use Rattle.sessions.specs.declared.Session.{Session}
use Rattle.requests.specs.declared.Answer.{Answer}
use Rattle.requests.specs.declared.Answer.TheVariants.{Done, Met}
use Rattle.requests.specs.declared.Edge.{Edge}
use Rattle.requests.specs.declared.Edge.TheVariants.{EndOfFile, BeginningOfTape}
use Rattle.requests.specs.declared.Order.TheVariants.{RewindOffline}
use Rattle.requests.specs.declared.Request.{Request}
use Rattle.requests.specs.declared.Request.TheVariants.{Position}

-- ---- every kind

pub any-serves : Solo (λ e. is_free e ≡ false)
any-serves files buffer q c used v =
    either (is_kind compressed c.entry) (λ (k : is_kind compressed c.entry ≡ true). packed-serves files buffer q c k v)
    λ (k : is_kind compressed c.entry ≡ false). either (is_kind random c.entry) (λ (r : is_kind random c.entry ≡ true). granules files buffer q c r v)
    λ (r : is_kind random c.entry ≡ false). fixed files buffer q c (k, r) v

-- ---- what holds from a mounting on

pub record Stands (image : List ℕ) (s : Session) : Type 0 where
  pub ok : legal image s ≡ true
  -- it is from no refused mounting
  pub said : s.says.refused ≡ false
  pub many : length s.table ≡ entries
  pub four : length s.files ≡ most_open
  pub sound : (i : ℕ) → is_free (entry_at s.table i) ≡ false → Sound (entry_at s.table i) (file_of s.files i) (extent (entry_at s.table i) image)
  -- the image's directory is the session's table, but for the count and flags of a file that is open
  pub alike : (i : ℕ) → restamped (entry_at s.table i) 0 0 ≡ restamped (entry_at (table_of image) i) 0 0
  pub stored : (i : ℕ) → (file_of s.files i).used ≡ false → entry_at s.table i ≡ entry_at (table_of image) i

-- what a request on entry i finds
abbrev pub scene_of : List ℕ → Session → ℕ → List ℕ → Scene
scene_of image s i given = record {
  number = i;
  entry = entry_at s.table i;
  file = file_of s.files i;
  bytes = extent (entry_at s.table i) image;
  given = given;
}

-- what an answer leaves of the image's directory: it has other counts and flags in entry i alone, and behind a close those of the session
pub record Listed (image image' : List ℕ) (i : ℕ) (f : OpenFile) (e : Entry) : Type 0 where
  pub elsewhere : (j : ℕ) → j ≢ i → entry_at (table_of image') j ≡ entry_at (table_of image) j
  pub here : restamped (entry_at (table_of image') i) 0 0 ≡ restamped (entry_at (table_of image) i) 0 0
  pub shut : f.used ≡ false → e ≡ entry_at (table_of image') i

-- and of the image
pub record Moves (image image' : List ℕ) (s : Session) (i : ℕ) (a : Answer) (q : Request) (c : Scene) : Type 0 where
  pub long : length image' ≡ length image
  pub own : extent (entry_at s.table i) image' ≡ bytes_next a q c
  pub others : (j : ℕ) → j ≢ i → is_free (entry_at s.table j) ≡ false → extent (entry_at s.table j) image' ≡ extent (entry_at s.table j) image
  pub listed : Listed image image' i (file_next a q c) (entry_next a q c)

-- ---- a request that is answered 0, 1 or 2

module _ (image : List ℕ) (s : Session) (v : Stands image s) (i : ℕ) (used : is_free (entry_at s.table i) ≡ false) (given : List ℕ) (buffer : ℕ) (q : Request) where
  abbrev c : Scene
  c = scene_of image s i given

  its : Of s i c
  its = record { number = refl; entry = refl; file = refl }

  abbrev n : ℕ
  n = open_files s.files

  -- the image behind it
  pub met-moves : (x : Edge) → Moves image image s i (Met x) q c
  unfolding file_next bytes_next file_met
  met-moves x = record {
    long = refl;
    own = refl;
    others = λ j d u. refl;
    listed = record { elsewhere = λ j d. refl; here = refl; shut = λ e. both_ways (file_met x c.file).used (go x) e };
  }
    where
      go : (x : Edge) → (file_met x c.file).used ≡ true
      go EndOfFile = refl
      go BeginningOfTape = refl

  module _ (d : judge q (facts_of true n buffer q c) ≡ Done) where
    abbrev image' : List ℕ
    image' = plain_all c (effects q c) image

    t : Answered q n buffer c Done
    t = done (done-allows q (facts_of true n buffer q c) d)

    few : i < entries
    few = in-entries image s v.ok v.many v.four i c its used buffer q Done t

    w : Lawful c.entry c.file
    w = lawful image s v.ok i used

    suits : AllSuit c.entry (effects q c)
    suits = suit n buffer q c w d

    -- a used entry's extent
    lies_at : (j : ℕ) → is_free (entry_at s.table j) ≡ false → Lies (sectors_of image) (entry_at s.table j)
    lies_at j u = lies (sectors_of image) s.table (good-table image s v.ok) j (eqb-false (entry_at s.table j).kind free u)

    -- the directory
    unstamped : ((c : Scene) → Unstamped (effects q c)) → Listed image image' i (file_next Done q c) (entry_next Done q c)
    unfolding effects
    unstamped u =
        let e : table_of image' ≡ table_of image = table-plain c (lies_at i used).starts (effects q c) (u c) image in
        record { elsewhere = λ j ne. rw e; here = rw e; shut = λ h. absurd (go h (goes image s v.ok v.many v.four i c its used buffer q Done t)) }
      where
        go : (file_next Done q c).used ≡ false → Goes q i (file_next Done q c) → ⊥
        go h (on k e) = both_ways (file_next Done q c).used k h
        go h (off z e) = subst (λ (p : Request). (c : Scene) → Unstamped (effects p c)) z u c

    closing : q ≡ Position RewindOffline → Listed image image' i (file_next Done q c) (entry_next Done q c)
    unfolding effects plain_all plain_do entry_next entry_done
    closing z = subst (λ (p : Request). Listed image (plain_all c (effects p c) image) i (file_next Done p c) (entry_next Done p c)) (sym z) (record {
      elsewhere = λ j ne. rw table (get_or-set_other (table_of image) i j new free_entry ne);
      here = rw (table, get_or-set_same (table_of image) i new free_entry (omega (arith, few, length-table image)));
      shut = λ h.
          ap (λ (e : Entry). restamped e c.entry.count c.entry.flags) (v.alike i)
          ∙ sym (rw table (get_or-set_same (table_of image) i new free_entry (omega (arith, few, length-table image))));
    })
      where
        new : Entry
        new = restamped (entry_at (table_of image) i) c.entry.count c.entry.flags

        table : table_of (lay image (20 * i + 16) (stamp_bytes c.entry.count c.entry.flags)) ≡ set (table_of image) i (restamped (entry_at (table_of image) i) c.entry.count c.entry.flags)
        table =
            let ok : lawful_length image ≡ true = lawful-length image s v.ok in
            rw (← (stamped-in image i c.entry.count c.entry.flags few))
            (stamp-table image i c.entry.count c.entry.flags few w.words (omega (arith, lawful-whole image ok, lawful-some image ok)))

    pub done-moves : Moves image image' s i Done q c
    unfolding bytes_next
    done-moves = record {
      long = length-plain c (effects q c) image;
      own = own-plain c few (lies_at i used).starts (effects q c) suits image;
      others = λ j ne u.
          other-plain c (effects q c) suits few (entry_at s.table j) (lies_at j u).starts
          (extents-apart (sectors_of image) s.table (good-table image s v.ok) i j (λ z. ne (sym z)) (eqb-false _ free used) (eqb-false _ free u)) image;
      listed = ⊎_elim closing unstamped (stamps-or q);
    }

  -- the session behind it
  module _ (a : Answer) (is : solo_answer n buffer q c ≡ a) (t : Answered q n buffer c a) (image' : List ℕ) (moves : Moves image image' s i a q c) where
    abbrev s' : Session
    s' = session_next a q c s i

    served : Serves n buffer q c (shows_at image s i) a
    unfolding shows_at
    served = subst (λ (b : Answer). Serves n buffer q c (shows_at image s i) b) is (any-serves n buffer q c used (v.sound i used))

    inside-table : i < length s.table
    inside-table = omega (arith, v.many, in-entries image s v.ok v.many v.four i c its used buffer q a t)

    -- entry i itself
    entry_here : entry_at s'.table i ≡ entry_next a q c
    entry_here = get_or-set_same s.table i (entry_next a q c) free_entry inside-table

    file-here : file_of s'.files i ≡ file_next a q c
    file-here = file-then image s v.ok v.many v.four i c its used buffer q a t

    bytes-here : extent (entry_next a q c) image' ≡ bytes_next a q c
    unfolding extent counted
    bytes-here = same_next (λ (e : Entry). extent e image') q c a (λ k m h. refl) ∙ moves.own

    bare-next : restamped (entry_next a q c) 0 0 ≡ restamped (entry_at s.table i) 0 0
    unfolding counted
    bare-next = same_next (λ (e : Entry). restamped e 0 0) q c a (λ k m h. refl)

    -- the others
    entry-there : (j : ℕ) → j ≢ i → entry_at s'.table j ≡ entry_at s.table j
    entry-there j d = get_or-set_other s.table i j (entry_next a q c) free_entry d

    file-there : (j : ℕ) → j ≢ i → file_of s'.files j ≡ file_of s.files j
    file-there j d = file-others image s v.ok v.many v.four i c its used buffer q a t j d

    pub stands-next : Stands image' s'
    stands-next = record {
      ok = legal-length image' image s' moves.long ∙ legal-next image s v.ok v.many v.four i c its used buffer q a t;
      said = v.said;
      many = length-set s.table i (entry_next a q c) ∙ v.many;
      four = length-set s.files (slot_of s.files i) (file_next a q c) ∙ v.four;
      sound = λ j. sound-at j (ℕ_discrete j i);
      alike = λ j. alike_at j (ℕ_discrete j i);
      stored = λ j. stored_at j (ℕ_discrete j i);
    }
      where
        sound-at : (j : ℕ) → Dec (j ≡ i) → is_free (entry_at s'.table j) ≡ false
            → Sound (entry_at s'.table j) (file_of s'.files j) (extent (entry_at s'.table j) image')
        sound-at j (yes z) u = rw (z, entry_here, file-here, bytes-here) served.stays
        sound-at j (no d) u =
            let w : is_free (entry_at s.table j) ≡ false = rw (entry-there j d) at u in
            rw (entry-there j d, file-there j d, moves.others j d w) (v.sound j w)

        alike_at : (j : ℕ) → Dec (j ≡ i) → restamped (entry_at s'.table j) 0 0 ≡ restamped (entry_at (table_of image') j) 0 0
        alike_at j (yes z) = rw (z, entry_here) (bare-next ∙ v.alike i ∙ sym moves.listed.here)
        alike_at j (no d) = rw (entry-there j d, moves.listed.elsewhere j d) (v.alike j)

        stored_at : (j : ℕ) → Dec (j ≡ i) → (file_of s'.files j).used ≡ false → entry_at s'.table j ≡ entry_at (table_of image') j
        stored_at j (yes z) u = rw (z, entry_here) (moves.listed.shut (rw (z, file-here) at u))
        stored_at j (no d) u = rw (entry-there j d, moves.listed.elsewhere j d) (v.stored j (rw (file-there j d) at u))

    shows-here : shows_at image' s' i ≡ model_next q a given (shows_at image s i)
    unfolding shows_at
    shows-here = rw (entry_here, file-here, bytes-here) served.next

    shows-there : (j : ℕ) → j ≢ i → shows_at image' s' j ≡ shows_at image s j
    unfolding shows_at
    shows-there j d = rw (entry-there j d, file-there j d) (shows_same (entry_at s.table j) (file_of s.files j) _ _ (moves.others j d))

    pub view-next : view image' s' ≡ set (view image s) i (model_next q a given (model_at (view image s) i))
    view-next =
        ext_get_or nothing _ _ (length-view image' s' ∙ sym (length-view image s) ∙ sym (length-set (view image s) i _)) λ j l.
        view-at image' s' stands-next.many j ∙ go j (ℕ_discrete j i)
      where
        new : Model
        new = model_next q a given (model_at (view image s) i)

        go : (j : ℕ) → Dec (j ≡ i) → shows_at image' s' j ≡ get_or (set (view image s) i (model_next q a given (model_at (view image s) i))) j nothing
        go j (yes z) =
            rw (z, get_or-set_same (view image s) i (model_next q a given (model_at (view image s) i)) nothing (omega (arith, length-view image s, v.many, inside-table)), view-at image s v.many i)
            shows-here
        go j (no d) = rw (get_or-set_other (view image s) i j (model_next q a given (model_at (view image s) i)) nothing d, view-at image s v.many j) (shows-there j d)
