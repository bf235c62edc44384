-- Judging with decoding in its turn comes to the verdict. An answer other than 11 to the request judged as if a code were bad stands; at 11 the
-- request decodes: a bad code leaves the 11, behind a good one the tests behind it answer.
use mathlib.Core.Path.{◌≡◌, refl, sym, ap, ap₂, subst, ◌∙◌}
use mathlib.Core.Bool.{Bool, true, false, not, false≢true}
use mathlib.Core.List.{List, []}
use Prim.Native.Nat.{ℕ, ◌+◌, ◌<◌, ◌^◌}
use lib.Dec.{ltb}
use Rattle.std.specs.Prelude.{Result, Ok, Err}
use lib.ListN.{length}
use borrow.Author.Tests.{lt-ltb, ltb-true, eq-eqb, ne_eqb}
use Rattle.geometry.specs.Bytes.{lay}
use Rattle.geometry.specs.Places.{origin}
use Rattle.geometry.specs.Sizes.{compressed}
use Rattle.geometry.proofs.Bytes.{lay-nil}
use Rattle.geometry.proofs.Tests.{either, both_ways}
use Rattle.directory.specs.Entries.{is_kind}
use Rattle.packing.specs.Placing.{behind_new}
use Rattle.packing.specs.Reading.{Got, got, lost, Walk, decodes, records_of, behind, behind_from, walk, walked_to, led_to}
use Rattle.packing.proofs.Walks.{walk-length, decodes-walked, to-decodes, lost-breaks}
use Rattle.requests.specs.Judge.{judge, behind_code}
use Rattle.requests.specs.Numbers.{number_of}
use Rattle.requests.proofs.Done.{Allows, done-allows}
use Rattle.requests.proofs.InTurn.{is_bad, stands, turn, Then, ReadsThen, reads_on}
use Rattle.requests.proofs.InTurn as InTurn
use Rattle.mounting.specs.Mounting.{counted_walk}
use Rattle.steps.specs.Next.{Scene, record_here, fixed_at, is_lost, bytes_got, behind_got, the_counted, the_next, decoding, bad_in, end_place, moved, file_met, file_done, into_buffer, facts_but}
use Rattle.steps.proofs.Compressed.{end_is}
use Rattle.steps.specs.Verdict.{entry_next, buffer_next, done_with, file_with, verdict_of}
use Rattle.following.specs.Following.{one_more, order_from, done_from, file_from, verdict_from}
use Rattle.following.proofs.Following.{one_more_lem, entry-from}
use Rattle.judging.specs.Turns.{sight, end_led, here_led, laid_first, here_into, turn_led, turn_into, is_astray, place_in, written_at, carried_to, carried_into}
use Rattle.geometry.specs.declared.Place.{Place}
use Rattle.directory.specs.declared.Entry.{Entry}
use Rattle.packing.specs.declared.BadPlace.{BadPlace}
use Rattle.requests.specs.declared.Facts.{Facts}
use Rattle.requests.specs.declared.Order.TheVariants.{WriteMark, RewindOnline, RewindOffline, RecordForward, RecordBack, FileForward, FileBack}
use Rattle.requests.specs.declared.Request.{Request}
use Rattle.requests.specs.declared.Request.TheVariants.{Open, Read, Write, GranuleRead, GranuleWrite, GranuleLook, Position}
use Rattle.requests.specs.declared.Answer.{Answer}
use Rattle.requests.specs.declared.Answer.TheVariants.{Done, Met, Refused}
use Rattle.sessions.specs.declared.OpenFile.{OpenFile}
use Rattle.requests.specs.declared.Refusal.TheVariants.{BadImage}
use Rattle.requests.proofs.Numbers.{same_number}

-- ---- the count records: lost exactly where one is bad; else to the end place

pub end-packed : (e : Entry) (bytes : List ℕ) → is_kind compressed e ≡ true → end_led e bytes ≡ walked_to origin (counted_walk e bytes)
unfolding end_led
end-packed e bytes k = rw (k, end_led)

pub end-fixed : (e : Entry) (bytes : List ℕ) → is_kind compressed e ≡ false → end_led e bytes ≡ Ok origin
unfolding end_led
end-fixed e bytes k = rw (k, end_led)

end-astray : (c : Scene) → is_astray (end_led c.entry c.bytes) ≡ bad_in the_counted c
unfolding bad_in is_astray
end-astray c = either (is_kind compressed c.entry)
    (λ (k : is_kind compressed c.entry ≡ true). rw (end-packed c.entry c.bytes k, k) (go (walked_to origin (counted_walk c.entry c.bytes)) refl))
    (λ (k : is_kind compressed c.entry ≡ false). rw (end-fixed c.entry c.bytes k, k))
  where
    go : (l : Result Place BadPlace) → walked_to origin (counted_walk c.entry c.bytes) ≡ l → is_astray l ≡ not (decodes (counted_walk c.entry c.bytes))
    go (Ok q) h = ap not (sym (to-decodes origin (counted_walk c.entry c.bytes) q h).0)
    go (Err b) h = ap not (sym (lost-breaks origin (counted_walk c.entry c.bytes) b.place h))

end-place : (c : Scene) → bad_in the_counted c ≡ false → place_in (end_led c.entry c.bytes) ≡ end_place c
unfolding bad_in place_in end_place behind counted_walk
end-place c b = either (is_kind compressed c.entry)
    (λ (k : is_kind compressed c.entry ≡ true). rw (end-packed c.entry c.bytes k, end_is c k) (go (walked_to origin w) refl (rw k at b)))
    (λ (k : is_kind compressed c.entry ≡ false). rw (end-fixed c.entry c.bytes k, k, end_place))
  where
    w : Walk
    w = walk c.entry.length c.entry.sectors c.bytes c.entry.count origin

    go : (l : Result Place BadPlace) → walked_to origin w ≡ l → not (decodes w) ≡ false → place_in l ≡ behind_from origin (records_of w) c.entry.count
    go (Ok q) h n =
        let t = to-decodes origin w q h in
        t.1 ∙ ap (behind_from origin (records_of w)) (walk-length c.entry.length c.entry.sectors c.bytes c.entry.count origin (records_of w) (decodes-walked w t.0))
    go (Err b) h n = absurd (false≢true (sym n ∙ ap not (lost-breaks origin w b.place h)))

-- ---- the record at the position: lost where there is one and it is bad; else the place behind it

pub here-there : (e : Entry) (f : OpenFile) (bytes : List ℕ) → ltb f.position e.count ≡ true → here_led e f bytes ≡ led_to (record_here (sight e f bytes))
unfolding here_led
here-there e f bytes k = rw (k, here_led)

pub here_end : (e : Entry) (f : OpenFile) (bytes : List ℕ) → ltb f.position e.count ≡ false → here_led e f bytes ≡ Ok f.here
unfolding here_led
here_end e f bytes k = rw (k, here_led)

-- what is read depends on the entry, the file and its bytes
here-seen : (c : Scene) → record_here (sight c.entry c.file c.bytes) ≡ record_here c
unfolding record_here fixed_at
here-seen c = refl

led-astray : (g : Got) → is_astray (led_to g) ≡ is_lost g
unfolding is_astray led_to is_lost
led-astray (got r) = refl
led-astray (lost p) = refl

led-place : (g : Got) → is_lost g ≡ false → place_in (led_to g) ≡ behind_got g
unfolding place_in led_to is_lost behind_got
led-place (got r) h = refl
led-place (lost p) h = absurd (false≢true (sym h))

first-laid : (g : Got) (old : List ℕ) → is_lost g ≡ false → laid_first g old ≡ lay old 0 (bytes_got g)
unfolding laid_first is_lost bytes_got
first-laid (got r) old h = refl
first-laid (lost p) old h = absurd (false≢true (sym h))

first-kept : (g : Got) (old : List ℕ) → is_lost g ≡ true → laid_first g old ≡ old
unfolding laid_first is_lost
first-kept (got r) old h = absurd (false≢true h)
first-kept (lost p) old h = refl

here-astray : (c : Scene) → is_astray (here_led c.entry c.file c.bytes) ≡ bad_in the_next c
unfolding bad_in is_astray
here-astray c = either (ltb c.file.position c.entry.count)
    (λ (k : ltb c.file.position c.entry.count ≡ true). rw (here-there c.entry c.file c.bytes k, k) (led-astray (record_here (sight c.entry c.file c.bytes)) ∙ ap is_lost (here-seen c)))
    (λ (k : ltb c.file.position c.entry.count ≡ false). rw (here_end c.entry c.file c.bytes k, k))

-- a record that is there and good
module _ (c : Scene) (k : ltb c.file.position c.entry.count ≡ true) (b : bad_in the_next c ≡ false) where
  not-lost : is_lost (record_here (sight c.entry c.file c.bytes)) ≡ false
  unfolding bad_in
  not-lost = ap is_lost (here-seen c) ∙ (rw k at b)

  here_place : place_in (here_led c.entry c.file c.bytes) ≡ behind_got (record_here c)
  here_place = rw (here-there c.entry c.file c.bytes k) (led-place (record_here (sight c.entry c.file c.bytes)) not-lost ∙ ap behind_got (here-seen c))

  here-laid : (old : List ℕ) → here_into c.entry c.file c.bytes old ≡ lay old 0 (bytes_got (record_here c))
  unfolding here_into
  here-laid old = rw (k, here_into) (first-laid (record_here (sight c.entry c.file c.bytes)) old not-lost ∙ ap (λ (g : Got). lay old 0 (bytes_got g)) (here-seen c))

-- else the buffer stays as it is
pub here-kept : (e : Entry) (f : OpenFile) (bytes old : List ℕ) → ltb f.position e.count ≡ false → here_into e f bytes old ≡ old
unfolding here_into
here-kept e f bytes old k = rw (k, here_into)

here-spared : (c : Scene) (old : List ℕ) → bad_in the_next c ≡ true → here_into c.entry c.file c.bytes old ≡ old
unfolding here_into bad_in
here-spared c old b = either (ltb c.file.position c.entry.count)
    (λ (k : ltb c.file.position c.entry.count ≡ true). rw (k, here_into) (first-kept (record_here (sight c.entry c.file c.bytes)) old (ap is_lost (here-seen c) ∙ (rw k at b))))
    (here-kept c.entry c.file c.bytes old)

-- ---- the verdict

-- no bytes move but where the answer is 0
buffer-kept : (a : Answer) (q : Request) (c : Scene) (old : List ℕ) → (a ≡ Done → ⊥) → buffer_next a q c old ≡ old
unfolding buffer_next
buffer-kept Done q c old h = absurd (h refl)
buffer-kept (Met x) q c old h = refl
buffer-kept (Refused x) q c old h = refl

-- bytes move in a read and a granule read alone
unmoved : (a : Answer) (q : Request) (c : Scene) (old : List ℕ) → into_buffer q c ≡ [] → old ≡ buffer_next a q c old
unfolding buffer_next
unmoved Done q c old h = rw (h, lay-nil old 0)
unmoved (Met x) q c old h = refl
unmoved (Refused x) q c old h = refl

module _ (files buffer code : ℕ) (c : Scene) (small : c.file.position + 1 < 2 ^ 32) where
  abbrev facts : Bool → Facts
  facts b = facts_but b true files c.entry c.file (length c.given) code buffer

  -- what the request is first taken for, and its answer
  abbrev first : Request → Answer
  first q = judge q (facts true)

  abbrev ans : Request → Answer
  ans q = judge q (facts (bad_in (decoding q) c))

  -- a ruling: the answer, the place that the verdict is made from, and the buffer, which was old
  abbrev Rules : Request → List ℕ → Answer → Place → List ℕ → Type 0
  Rules q old a p new =
      (a ≡ ans q) × (verdict_from a q c.number c.entry c.file p ≡ verdict_of true files buffer code q c) × (new ≡ buffer_next (ans q) q c old)

  rules : (q : Request) (old : List ℕ) (a : Answer) (p : Place) (new : List ℕ) → a ≡ ans q
      → (a ≡ Done → done_from q c.number c.entry c.file p ≡ done_with code q c) → new ≡ buffer_next (ans q) q c old → Rules q old a p new
  unfolding verdict_of file_from file_with
  rules q old a p new h d eb =
      (h, subst (λ (x : Answer). verdict_from a q c.number c.entry c.file p ≡ record { answer = x; entry = entry_next x q c; file = file_with code x q c }) h (go a d), eb)
    where
      go : (x : Answer) → (x ≡ Done → done_from q c.number c.entry c.file p ≡ done_with code q c)
          → verdict_from x q c.number c.entry c.file p ≡ record { answer = x; entry = entry_next x q c; file = file_with code x q c }
      go Done d = ap₂ (λ (e : Entry) (f : OpenFile). record { answer = Done; entry = e; file = f }) (entry-from Done q c small) (d refl)
      go (Met x) d = ap (λ (e : Entry). record { answer = Met x; entry = e; file = file_met x c.file }) (entry-from (Met x) q c small)
      go (Refused x) d = ap (λ (e : Entry). record { answer = Refused x; entry = e; file = c.file }) (entry-from (Refused x) q c small)

  -- ---- another answer than 11

  stays : (q : Request) → is_bad (first q) ≡ false → ans q ≡ first q
  stays q h = stands q (facts true) (bad_in (decoding q) c) h

  past_is : one_more c.file.position ≡ c.file.position + 1
  past_is = one_more_lem c.file.position small

  -- done: a request that decodes nothing
  carried : (q : Request) → Allows q (facts true) → done_from q c.number c.entry c.file (carried_to code q c.entry c.file) ≡ done_with code q c
  unfolding done_from order_from done_with file_done carried_to written_at
  carried Open a = absurd (false≢true (sym a.sound))
  carried Read a = absurd (false≢true (sym a.advances.sound))
  carried Write a =
      let p : Place = elim (is_kind compressed c.entry) [ true ↦ behind_new c.file.here code | false ↦ c.file.here ] in
      ap (λ (n : ℕ). moved c.file n false p p) past_is
  carried (GranuleRead g) a = refl
  carried (GranuleWrite g) a = refl
  carried (GranuleLook g) a = refl
  carried (Position WriteMark) a = refl
  carried (Position RewindOnline) a = refl
  carried (Position RewindOffline) a = refl
  carried (Position RecordForward) a = absurd (false≢true (sym a.sound))
  carried (Position RecordBack) a = refl
  carried (Position FileForward) a = refl
  carried (Position FileBack) a = refl

  carried-into : (q : Request) (old : List ℕ) → Allows q (facts true) → carried_into q c.entry c.file c.bytes old ≡ lay old 0 (into_buffer q c)
  unfolding carried_into into_buffer fixed_at
  carried-into Open old a = sym (lay-nil old 0)
  carried-into Read old a = absurd (false≢true (sym a.advances.sound))
  carried-into Write old a = sym (lay-nil old 0)
  carried-into (GranuleRead g) old a = refl
  carried-into (GranuleWrite g) old a = sym (lay-nil old 0)
  carried-into (GranuleLook g) old a = sym (lay-nil old 0)
  carried-into (Position o) old a = sym (lay-nil old 0)

  module _ (q : Request) (d : first q ≡ Done) where
    settled : ans q ≡ Done
    settled = stays q (ap is_bad d) ∙ d

    carried-buffer : (old : List ℕ) → carried_into q c.entry c.file c.bytes old ≡ buffer_next (ans q) q c old
    unfolding buffer_next
    carried-buffer old = rw settled (carried-into q old (done-allows q (facts true) d))

    carried-rules : (old : List ℕ) → Rules q old (first q) (carried_to code q c.entry c.file) (carried_into q c.entry c.file c.bytes old)
    carried-rules old = rules q old (first q) _ _ (sym (stays q (ap is_bad d))) (λ h. carried q (done-allows q (facts true) d)) (carried-buffer old)

  -- neither 0 nor 11
  refused-rules : (q : Request) → is_bad (first q) ≡ false → (first q ≡ Done → ⊥) → (old : List ℕ) (p : Place) → Rules q old (first q) p old
  refused-rules q b n old p = rules q old (first q) p old (sym (stays q b)) (λ h. absurd (n h)) (sym (buffer-kept (ans q) q c old (λ h. n (sym (stays q b) ∙ h))))

  -- ---- at 11 the request decodes

  turn-astray : (q : Request) → Then q (facts true) → is_astray (turn_led q c.entry c.file c.bytes) ≡ bad_in (decoding q) c
  unfolding turn_led decoding
  turn-astray Open t = end-astray c
  turn-astray Read t = here-astray c
  turn-astray Write t = absurd t
  turn-astray (GranuleRead g) t = absurd t
  turn-astray (GranuleWrite g) t = absurd t
  turn-astray (GranuleLook g) t = absurd t
  turn-astray (Position WriteMark) t = absurd t
  turn-astray (Position RewindOnline) t = absurd t
  turn-astray (Position RewindOffline) t = absurd t
  turn-astray (Position RecordForward) t = here-astray c
  turn-astray (Position RecordBack) t = absurd t
  turn-astray (Position FileForward) t = absurd t
  turn-astray (Position FileBack) t = absurd t

  turn-done : (q : Request) → Then q (facts true) → Allows q (facts (bad_in (decoding q) c))
      → done_from q c.number c.entry c.file (place_in (turn_led q c.entry c.file c.bytes)) ≡ done_with code q c
  unfolding turn_led decoding done_from order_from done_with file_done
  turn-done Open t a = ap (λ (p : Place). record { used = true; entry = c.number; position = 0; beyond = false; here = origin; end = p }) (end-place c a.sound)
  turn-done Read t a =
      ap₂ (λ (n : ℕ) (p : Place). moved c.file n false p c.file.end) past_is (here_place c (lt-ltb _ _ a.advances.ahead) a.advances.sound)
  turn-done Write t a = absurd t
  turn-done (GranuleRead g) t a = absurd t
  turn-done (GranuleWrite g) t a = absurd t
  turn-done (GranuleLook g) t a = absurd t
  turn-done (Position WriteMark) t a = absurd t
  turn-done (Position RewindOnline) t a = absurd t
  turn-done (Position RewindOffline) t a = absurd t
  turn-done (Position RecordForward) t a =
      ap₂ (λ (n : ℕ) (p : Place). moved c.file n false p c.file.end) past_is (here_place c (lt-ltb _ _ a.ahead) a.sound)
  turn-done (Position RecordBack) t a = absurd t
  turn-done (Position FileForward) t a = absurd t
  turn-done (Position FileBack) t a = absurd t

  -- a read lays the record, where it is there and good
  read-into : ReadsThen (facts true) → (old : List ℕ) → here_into c.entry c.file c.bytes old ≡ buffer_next (ans Read) Read c old
  unfolding decoding buffer_next into_buffer
  read-into t old = either (ltb c.file.position c.entry.count) there ended
    where
      ended : ltb c.file.position c.entry.count ≡ false → here_into c.entry c.file c.bytes old ≡ buffer_next (ans Read) Read c old
      ended k =
          here-kept c.entry c.file c.bytes old k ∙ sym (buffer-kept (ans Read) Read c old (λ h.
          let a : c.file.position < c.entry.count = (done-allows Read (facts (bad_in the_next c)) h).advances.ahead in
          both_ways (ltb c.file.position c.entry.count) (lt-ltb _ _ a) k))

      there : ltb c.file.position c.entry.count ≡ true → here_into c.entry c.file c.bytes old ≡ buffer_next (ans Read) Read c old
      there k = either (bad_in the_next c)
          (λ (b : bad_in the_next c ≡ true). here-spared c old b ∙ sym (buffer-kept (ans Read) Read c old (λ h. false≢true (sym (done-allows Read (facts (bad_in the_next c)) h).advances.sound ∙ b))))
          (λ (b : bad_in the_next c ≡ false).
          let d : ans Read ≡ Done = ap (λ (x : Bool). judge Read (facts x)) b ∙ reads_on (facts true) t (ltb-true _ _ k) in
          rw d (here-laid c k b old))

  turn-into : (q : Request) → Then q (facts true) → (old : List ℕ) → turn_into q c.entry c.file c.bytes old ≡ buffer_next (ans q) q c old
  unfolding turn_into into_buffer
  turn-into Open t old = unmoved (ans Open) Open c old refl
  turn-into Read t old = read-into t old
  turn-into Write t old = absurd t
  turn-into (GranuleRead g) t old = absurd t
  turn-into (GranuleWrite g) t old = absurd t
  turn-into (GranuleLook g) t old = absurd t
  turn-into (Position o) t old = unmoved (ans (Position o)) (Position o) c old refl

  turn-rules : (q : Request) → is_bad (first q) ≡ true → (old : List ℕ) (a : Answer) → a ≡ judge q (facts (is_astray (turn_led q c.entry c.file c.bytes)))
      → Rules q old a (place_in (turn_led q c.entry c.file c.bytes)) (turn_into q c.entry c.file c.bytes old)
  turn-rules q b old a h =
      let t : Then q (facts true) = turn q (facts true) b in
      let s : a ≡ ans q = h ∙ ap (λ (x : Bool). judge q (facts x)) (turn-astray q t) in
      rules q old a _ _ s (λ d. turn-done q t (done-allows q (facts (bad_in (decoding q) c)) (sym s ∙ d))) (turn-into q t old)

  -- ---- as the program goes: the facts known, and what the request is first taken for

  module _ (q : Request) (known : Facts) (a : Answer) (k : known ≡ facts true) (j : a ≡ judge q known) where
    abbrev led : Result Place BadPlace
    led = turn_led q c.entry c.file c.bytes

    a_first : a ≡ first q
    a_first = j ∙ ap (judge q) k

    pub is-bad : a ≡ Refused BadImage → is_bad (first q) ≡ true
    is-bad h = eq-eqb (number_of (first q)) 11 (ap number_of (sym a_first ∙ h))

    module _ (h : a ≡ Refused BadImage) (old new : List ℕ) (l : Result Place BadPlace) (e : (l ≡ led) × (new ≡ turn_into q c.entry c.file c.bytes old)) where
      led-rules : (t : Result Place BadPlace) (b : Answer) → l ≡ t → b ≡ judge q (facts (is_astray t)) → Rules q old b (place_in t) new
      led-rules t b el eb = rw (sym e.1) at ans-rules
        where
          ans-rules : Rules q old b (place_in t) (turn_into q c.entry c.file c.bytes old)
          ans-rules =
              let s : t ≡ led = sym el ∙ e.0 in
              subst (λ (x : Result Place BadPlace). Rules q old b (place_in x) (turn_into q c.entry c.file c.bytes old)) (sym s) (turn-rules q (is-bad h) old b (eb ∙ ap (λ (x : Result Place BadPlace). judge q (facts (is_astray x))) s))

      -- a good code: the tests behind it answer
      pub good-rules : (p : Place) → l ≡ Ok p → (b : Answer) → b ≡ behind_code q known → Rules q old b p new
      unfolding is_astray place_in
      good-rules p el b eb = led-rules (Ok p) b el (eb ∙ ap (behind_code q) k ∙ sym (InTurn.behind q (facts true) (is-bad h)))

      -- a bad one
      pub lost-rules : (b : BadPlace) → l ≡ Err b → Rules q old a b.place new
      unfolding is_astray place_in
      lost-rules b el = led-rules (Err b) a el a_first

    pub is-done : a ≡ Done → first q ≡ Done
    is-done h = sym a_first ∙ h

    pub done-rules : a ≡ Done → (old new : List ℕ) (p : Place) → (p ≡ carried_to code q c.entry c.file) × (new ≡ carried_into q c.entry c.file c.bytes old)
        → Rules q old a p new
    done-rules h old new p e = rw (a_first, e.0, e.1) (carried-rules q (is-done h) old)

    -- any other
    pub other-rules : (a ≡ Refused BadImage → ⊥) → (a ≡ Done → ⊥) → (old : List ℕ) (p : Place) → Rules q old a p old
    other-rules h z old p = rw a_first (refused-rules q (ne_eqb (number_of (first q)) 11 (λ e. h (a_first ∙ same_number (first q) (Refused BadImage) e))) (λ d. z (a_first ∙ d)) old p)
