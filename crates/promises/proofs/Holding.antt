-- What is held, of every engine whose buffers are as promised: the sector taken last; and that one stays held while no other is taken.
use mathlib.Core.Path.{◌≡◌, refl, sym, ap, subst, ◌∙◌}
use mathlib.Core.Bool.{Bool, true, false, ◌&&◌}
use mathlib.Core.List.{List, [], ◌∷◌, map}
use Prim.Native.Nat.{ℕ}
use native.Mathlib.Decide.{ℕ_discrete}
use lib.Dec.{eqb, ltb}
use lib.ListN.{length}
use borrow.Author.Tests.{eqb-true}
use Rattle.geometry.specs.Lists.{every}
use Rattle.geometry.specs.Sizes.{sector, compressed}
use Rattle.geometry.proofs.Tests.{either, and_left, and_right}
use Rattle.coding.specs.Encode.{code_of}
use Rattle.directory.specs.Entries.{is_kind}
use Rattle.packing.specs.Placing.{Change, filled, goes_to, changes}
use Rattle.packing.specs.Reading.{start_of, goes_on}
use Rattle.packing.proofs.Placed.{Case, here, at_end, over, which}
use Rattle.sessions.specs.Session.{extent}
use Rattle.tapes.specs.Model.{Asked}
use Rattle.demands.specs.Engine.{Engine, Standing, answered, step_of}
use Rattle.promises.specs.Buffer.{Desk, desk_of, seen_on, back, taken, worked, in_turn, read_in, changes_of, desk_done, desk_next, taken_by, within, puts_back, file_at, desk_at, Buffered, Keeps, Buffering, lies_in, goes_in, Holds, Holding}
use Rattle.directory.specs.declared.Entry.{Entry}
use Rattle.requests.specs.declared.Answer.{Answer}
use Rattle.requests.specs.declared.Answer.TheVariants.{Done, Met, Refused}
use Rattle.requests.specs.declared.Order.TheVariants.{WriteMark, RewindOnline, RewindOffline, RecordForward, RecordBack, FileForward, FileBack}
use Rattle.requests.specs.declared.Request.{Request}
use Rattle.requests.specs.declared.Request.TheVariants.{Open, Read, Write, GranuleRead, GranuleWrite, GranuleLook, Position}
use Rattle.sessions.specs.declared.OpenFile.{OpenFile}

-- ---- the sector that is taken is then held

pub takes-holds : (k : ℕ) (d : Desk) → Holds (taken k d) k
unfolding taken
takes-holds k d = either (d.holds && eqb d.held k)
    (λ (t : (d.holds && eqb d.held k) ≡ true). rw (t, taken) (and_left d.holds _ t, eqb-true d.held k (and_right d.holds _ t)))
    (λ (t : (d.holds && eqb d.held k) ≡ false). rw (t, taken) (refl, refl))

pub works-holds : (x : Change) (d : Desk) → Holds (worked x d) x.place.sector
unfolding worked
works-holds x d = (refl, (takes-holds x.place.sector d).1)

-- a read takes its record's sector last
read-last : (e : Entry) (f : OpenFile) (bytes : List ℕ) (d : Desk) → Holds (in_turn taken (read_in e f bytes) d) (lies_in e f bytes)
unfolding read_in lies_in in_turn
read-last e f bytes d = either (is_kind compressed e)
    (λ (z : is_kind compressed e ≡ true). rw (z, read_in, lies_in) (go (goes_on bytes f.here && ltb f.here.byte sector)))
    (λ (z : is_kind compressed e ≡ false). rw (z, read_in, lies_in) (takes-holds _ d))
  where
    go : (g : Bool)
        → Holds (in_turn taken (elim g [ true ↦ f.here.sector ∷ (start_of bytes f.here).sector ∷ [] | false ↦ (start_of bytes f.here).sector ∷ [] ]) d) (start_of bytes f.here).sector
    go true = takes-holds _ _
    go false = takes-holds _ d

-- a write changes the one that its record goes to last
write-last : (e : Entry) (f : OpenFile) (given : List ℕ) (d : Desk) → Holds (in_turn worked (changes_of e f given) d) (goes_in e f given)
unfolding changes_of goes_in in_turn filled
write-last e f given d = either (is_kind compressed e)
    (λ (z : is_kind compressed e ≡ true). rw (z, changes_of, goes_in) (go (which f.here (code_of e.length given))))
    (λ (z : is_kind compressed e ≡ false). rw (z, changes_of, goes_in) (works-holds _ d))
  where
    go : Case f.here (code_of e.length given) → Holds (in_turn worked (changes f.here (code_of e.length given)) d) (goes_to f.here (length (code_of e.length given))).sector
    go (here l g x) = rw (x, g) (works-holds _ d)
    go (at_end l m g x) = rw (x, g) (works-holds _ d)
    go (over l m g x) = rw (x, g) (works-holds _ _)

-- ---- it stays held

back-holds : (k : ℕ) (d : Desk) → Holds d k → Holds (back d) k
unfolding back
back-holds k d h = either (d.holds && d.changed)
    (λ (t : (d.holds && d.changed) ≡ true). rw (t, back) (refl, h.1))
    (λ (t : (d.holds && d.changed) ≡ false). rw (t, back) h)

same_taken : (k : ℕ) (d : Desk) → (d.holds && eqb d.held k) ≡ true → taken k d ≡ d
unfolding taken
same_taken k d t = rw (t, taken)

takes_same : (k : ℕ) (ks : List ℕ) (d : Desk) → Holds d k → within d ks ≡ true → Holds (in_turn taken ks d) k
unfolding in_turn every
takes_same k [] d h t = h
takes_same k (j ∷ ks) d h t =
    let y : (d.holds && eqb d.held j) ≡ true = and_left (d.holds && eqb d.held j) _ t in
    subst (λ (v : Desk). Holds (in_turn taken ks v) k) (sym (same_taken j d y)) (takes_same k ks d h (and_right (d.holds && eqb d.held j) _ t))

works-same : (k : ℕ) (xs : List Change) (d : Desk) → Holds d k → within d (map (λ x. x.place.sector) xs) ≡ true → Holds (in_turn worked xs d) k
unfolding in_turn every
works-same k [] d h t = h
works-same k (x ∷ xs) d h t =
    let j : ℕ = x.place.sector in
    let y : (d.holds && eqb d.held j) ≡ true = and_left (d.holds && eqb d.held j) _ t in
    let z : d.held ≡ j = eqb-true d.held j (and_right d.holds _ y) in
    let v : Desk = worked x d in
    let g : Holds v j = works-holds x d in
    let r : within d (map (λ x. x.place.sector) xs) ≡ true = and_right (d.holds && eqb d.held j) _ t in
    works-same k xs v (g.0, g.1 ∙ sym z ∙ h.1) (go (map (λ x. x.place.sector) xs) r (h.0 ∙ sym g.0) (z ∙ sym g.1))
  where
    go : (ks : List ℕ) → within d ks ≡ true → d.holds ≡ (worked x d).holds → d.held ≡ (worked x d).held → within (worked x d) ks ≡ true
    go ks r p q = subst (λ (n : ℕ). every (λ k. (worked x d).holds && eqb n k) ks ≡ true) q (subst (λ (b : Bool). every (λ k. b && eqb d.held k) ks ≡ true) p r)

done-same : (q : Request) (e : Entry) (f : OpenFile) (given : List ℕ) (d : Desk) (k : ℕ) → Holds d k → ¬ (q ≡ Position RewindOffline) → within d (taken_by q e f given d) ≡ true
    → Holds (desk_done q e f given d) k
unfolding desk_done taken_by
done-same Open e f given d k h n t = h
done-same Read e f given d k h n t = takes_same k (read_in e f (seen_on d)) d h t
done-same Write e f given d k h n t = works-same k (changes_of e f given) d h t
done-same (GranuleRead g) e f given d k h n t = h
done-same (GranuleWrite g) e f given d k h n t = h
done-same (GranuleLook g) e f given d k h n t = h
done-same (Position WriteMark) e f given d k h n t = back-holds k d h
done-same (Position RewindOnline) e f given d k h n t = back-holds k d h
done-same (Position RewindOffline) e f given d k h n t = absurd (n refl)
done-same (Position RecordForward) e f given d k h n t = h
done-same (Position RecordBack) e f given d k h n t = h
done-same (Position FileForward) e f given d k h n t = back-holds k d h
done-same (Position FileBack) e f given d k h n t = back-holds k d h

next-same : (a : Answer) (q : Request) (e : Entry) (f : OpenFile) (given : List ℕ) (d : Desk) (k : ℕ) → Holds d k → ¬ (q ≡ Position RewindOffline) → within d (taken_by q e f given d) ≡ true
    → Holds (desk_next a q e f given d) k
unfolding desk_next
next-same Done q e f given d k h n t = done-same q e f given d k h n t
next-same (Met x) q e f given d k h n t = h
next-same (Refused x) q e f given d k h n t = h

-- ---- in an engine

module _ (E : Engine) (buffers : Buffering E) (w : Standing E.Session) (a : Asked) where
  module _ (e : Entry) (b : Buffered E w a a.entry e) (done : (answered E w a).answer ≡ Done) where
    abbrev f : OpenFile
    f = (file_at E w a.entry).file

    abbrev d : Desk
    d = desk_at E w e a.entry

    -- what is left where the request q is done
    left : (q : Request) → a.request ≡ q → desk_at E (step_of E w a) e a.entry ≡ desk_done q e f a.given d
    unfolding desk_next
    left q p =
        buffers.own w a e b
        ∙ ap (λ (x : Answer). desk_next x a.request e f a.given d) done
        ∙ ap (λ (y : Request). desk_done y e f a.given d) p

    reads-hold : a.request ≡ Read → Holds (desk_at E (step_of E w a) e a.entry) (lies_in e f (seen_on d))
    unfolding desk_done
    reads-hold p = subst (λ (v : Desk). Holds v (lies_in e f (seen_on d))) (sym (left Read p)) (read-last e f (seen_on d) d)

    writes-hold : a.request ≡ Write → Holds (desk_at E (step_of E w a) e a.entry) (goes_in e f a.given)
    unfolding desk_done
    writes-hold p = subst (λ (v : Desk). Holds v (goes_in e f a.given)) (sym (left Write p)) (write-last e f a.given d)

  -- what is so of the request's own file, and of any other
  by-entry : (P : ℕ → Type 0) → P a.entry → ((i : ℕ) → ¬ (i ≡ a.entry) → P i) → (i : ℕ) → P i
  by-entry P own other i = go (ℕ_discrete i a.entry)
    where
      go : Dec (i ≡ a.entry) → P i
      go (yes z) = subst P (sym z) own
      go (no n) = other i n

  stays-held : (e : Entry) (k : ℕ) (i : ℕ) → Buffered E w a i e → Holds (desk_at E w e i) k → (i ≡ a.entry → (¬ (a.request ≡ Position RewindOffline)) × Keeps E w a i e)
      → Holds (desk_at E (step_of E w a) e i) k
  stays-held e k = by-entry (λ i. Buffered E w a i e → Holds (desk_at E w e i) k → (i ≡ a.entry → (¬ (a.request ≡ Position RewindOffline)) × Keeps E w a i e) → Holds (desk_at E (step_of E w a) e i) k)
      (λ b h c. subst (λ (v : Desk). Holds v k) (sym (buffers.own w a e b)) (next-same (answered E w a).answer a.request e _ a.given _ k h (c refl).0 (c refl).1))
      (λ i n b h c. subst (λ (v : Desk). Holds v k) (sym (buffers.others w a i e b n)) h)

  stays_put : (e : Entry) (i : ℕ) → Buffered E w a i e → (i ≡ a.entry → (puts_back a.request ≡ false) × Keeps E w a i e) → (desk_at E (step_of E w a) e i).extent ≡ (desk_at E w e i).extent
  stays_put e = by-entry (λ i. Buffered E w a i e → (i ≡ a.entry → (puts_back a.request ≡ false) × Keeps E w a i e) → (desk_at E (step_of E w a) e i).extent ≡ (desk_at E w e i).extent)
      (λ b c. unfold step_of desk_of in ap (extent e) (buffers.inside w a e b (c refl).0 (c refl).1))
      (λ i n b c. ap (λ (d : Desk). d.extent) (buffers.others w a i e b n))

pub holding : (E : Engine) → Buffering E → Holding E
holding E buffers = record {
  stays = λ w a i e. stays_put E buffers w a e i;
  reads = λ w a e b p d. reads-hold E buffers w a e b d p;
  writes = λ w a e b p d. writes-hold E buffers w a e b d p;
  until = λ w a i e b k. stays-held E buffers w a e k i b;
}
