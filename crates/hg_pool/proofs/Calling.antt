-- The calls of a pool as its code makes them: each on its devices and what it keeps.
use Rattle.std.specs.Prelude.{◌≡◌, ℕ, ◌+◌, ◌-◌, ◌<◌, Bool, true, false, List, length, slice_set, Option, None, Some, Result, Ok, Err}
use Rattle.std.proofs.Common.{sym, ◌∙◌, ap, subst, refl, arith, length-set, inl, inr}
use Rattle.std.proofs.lemmas.Bool.Decides.{eqb_tells}
use Rattle.hg_base.specs.Space.{Space, at, key, key_in, with_counts, with_pin, without_pin, without_page, with_next, unpinned_bytes, IsSame, IsPinned, IsMade}
use Rattle.std.proofs.lemmas.Grind.{common_steps}
use Rattle.hg_base.specs.Lending.{refit}
use Rattle.hg_base.specs.Causes.{PinFault, FreshFault, MayBeFound, HasCause}
use Rattle.hg_base.specs.declared.File.{File}
use Rattle.hg_base.specs.declared.File.TheVariants.{Main, Temp}
use Rattle.hg_base.specs.declared.PageId.{PageId}
use Rattle.hg_base.specs.declared.pages.PageFault.{PageFault}
use Rattle.hg_base.specs.declared.pages.PageFault.TheVariants as fault
use Rattle.hg_space.specs.Shown.{pages_of}
use Rattle.hg_pool.specs.Disks.{Disks}
use Rattle.hg_pool.specs.Picture.{Picture, picture_of, counts_of, shown, frame_at, place_at, places_in, taken_at, next_at, limit_of, is_in, is_key_of}
use Rattle.hg_pool.specs.Sound.{IsSound, IsShaped, IsCoherent, AreSound}
use Rattle.hg_pool.specs.Keeping.{with_place, Widened, written, set_item, with_frame, is_inside, IsFoundAt, new_frame, MapsAfter, TakesLowest}
use Rattle.hg_pool.specs.Passing.{Passes, IsRoom, HasRoom}
use Rattle.hg_pool.specs.Keys.{at-here, at-other, key_in-one, by_key-main, by_key-temp, is_key_of-here}
use Rattle.hg_pool.specs.Views.{page-of-in, coherent-at, fits-kept}
use Rattle.hg_pool.specs.Loans.{frames-set, frame-in, and-left, picture-frame, with_written}
use Rattle.hg_pool.specs.Clocking.{IsRunning, is_busy, used, back, forgotten}
use Rattle.hg_pool.specs.Seen.{Frame}
use Rattle.hg_pool.specs.declared.maps.Maps.{Maps}
use Rattle.hg_pool.specs.declared.places.Places.{Places}
use Rattle.hg_pool.specs.declared.store.Store.{Store}
use Rattle.hg_pool.proofs.Steps.{Pinned, Made, Becomes, held, settled, unpinned, released, dropped, linked, pinned-found, lent-found, bytes-found, told-pin}
use Rattle.hg_pool.proofs.Counting.{pins-same, pins-more, pins-less, lent-same}
use Rattle.hg_pool.proofs.Ranges.{was-taken}
use Rattle.hg_pool.proofs.Passing.{shape-kept, shape-frame, shape-same, running-set, running-same, sound-scored, sound-out, place-set, places-same, room-same}

-- A pool is sound where its picture is one that is sound, and its devices are as they were.
pub sound-of : (d : Disks) (s z : Store) (b : Picture) → picture_of d z ≡ b → IsCoherent b → limit_of z.maps ≡ limit_of s.maps → IsSound d s → IsShaped z → IsSound d z
sound-of d s z b p coherent limit h made =
    let P : Picture → Type 0 = λ v. IsCoherent v in record {
      coherent = subst P (sym p) coherent;
      shape = made;
      main_fits = (let l = h.main_fits in let n = ap (λ g. g Main) limit in omega arith);
      temp_fits = (let l = h.temp_fits in let n = ap (λ g. g Temp) limit in omega arith);
    }

-- A pin.

pub record HoldsPin (d : Disks) (s z : Store) (p : PageId) : Type 0 where
  pub whole : IsSound d z
  pub ok : IsPinned (shown (picture_of d s)) (shown (picture_of d z)) (key p)
  pub inside : is_inside z (key p) ≡ true

-- the clock where a frame was used and is out
pub running-used : (s : Store) (f : ℕ) (y : Frame) → IsShaped s → f < length s.frames.items → is_busy y ≡ true → IsRunning (set_item s.frames f y) (used s.clock f)
running-used s f y h there busy = running-set s.frames s.clock (used s.clock f) f y h.clock there
    (sound-scored s.clock f 7 (slice_set s.clock.out f true) h.clock.sound (omega arith) (length-set s.clock.out f true))
    (length-set s.clock.scores f 7) (ap (slice_set s.clock.out f) (sym busy))

pub running-back : (s : Store) (f : ℕ) (y : Frame) → IsShaped s → f < length s.frames.items → is_busy y ≡ false → IsRunning (set_item s.frames f y) (back s.clock f)
running-back s f y h there busy = running-set s.frames s.clock (back s.clock f) f y h.clock there
    (sound-out s.clock (slice_set s.clock.out f false) h.clock.sound (length-set s.clock.out f false)) refl (ap (slice_set s.clock.out f) (sym busy))

-- its score alone
running-forgotten : (s : Store) (f : ℕ) (y : Frame) → IsShaped s → f < length s.frames.items → is_busy y ≡ is_busy (frame_at s.frames.items f) → IsRunning (set_item s.frames f y) (forgotten s.clock f)
running-forgotten s f y h there busy =
    let same = running-same s.frames s.clock f y h.clock there busy in record {
      sound = sound-scored s.clock f 0 s.clock.out h.clock.sound (omega arith) refl;
      count = length-set s.clock.scores f 0 ∙ same.count;
      inside = same.inside;
      most = same.most;
      out = same.out;
    }

pub holds-pin : (d : Disks) (s : Store) (f : ℕ) (p : PageId) → IsSound d s → IsFoundAt s p f → (frame_at s.frames.items f).pinned ≡ false → (frame_at s.frames.items f).lent ≡ false → s.pins < 8
    → HoldsPin d s (record (with_frame s f (record (frame_at s.frames.items f) { pinned = true })) { pins = s.pins + 1; clock = used s.clock f }) p
holds-pin d s f p h found free home few =
    let y : Frame = record (frame_at s.frames.items f) { pinned = true } in
    let z : Store = record (with_frame s f y) { pins = s.pins + 1; clock = used s.clock f } in
    let b : Picture = record (picture_of d s) { frame = at (frame_at s.frames.items) f y; pins = s.pins + 1 } in
    let step : Pinned (picture_of d s) b p (frame_at s.frames.items f).bytes = held (picture_of d s) f p h.coherent found.holds free home in
    let same : picture_of d z ≡ b = λ i. record (picture_of d z) { frame = frames-set s.frames.items f y found.there i; current = length-set s.frames.items f y i } in
    let whole : IsSound d z = sound-of d s z b same step.coherent refl h
    (shape-kept s z h.shape (pins-more s.frames.items f y found.there free refl ∙ ap (λ n. n + 1) h.shape.counted) (omega (arith, few))
    (lent-same s.frames.items f y found.there refl ∙ h.shape.lent_counted) h.shape.lent_fits (length-set s.frames.items f y)
    (running-used s f y h.shape found.there refl) (λ m. m) refl h.shape.placed (λ to. refl)) in record {
      whole = whole;
      ok = record {
        held = (frame_at s.frames.items f).bytes;
        size = (h.coherent f).whole p found.holds home;
        was = step.was;
        counts = counts_of d s;
        after = ap shown same ∙ step.after;
      };
      inside =
          ap (λ g. is_in g (place_at s.places) (key p)) (frames-set s.frames.items f y found.there)
          ∙ ap (λ k. is_key_of (key p) (at (frame_at s.frames.items) f y k).page) (sym found.place)
          ∙ ap (λ (x : Frame). is_key_of (key p) x.page) (at-here (frame_at s.frames.items) f y)
          ∙ ap (is_key_of (key p)) found.holds ∙ is_key_of-here p;
    }

-- a frame that a page was found in is pinned as the page is
pub pinned-of : (d : Disks) (s : Store) (f : ℕ) (p : PageId) → IsSound d s → IsFoundAt s p f → (frame_at s.frames.items f).pinned ≡ (shown (picture_of d s)).pinned (key p)
pinned-of d s f p h found = sym (pinned-found (picture_of d s) f p h.coherent found.holds)

pub lent-of : (d : Disks) (s : Store) (f : ℕ) (p : PageId) → IsSound d s → IsFoundAt s p f → (frame_at s.frames.items f).lent ≡ (shown (picture_of d s)).of_heap (key p)
lent-of d s f p h found = sym (lent-found (picture_of d s) f p h.coherent found.holds)

pub still-home : {X : Type 0} (d e : Disks) (s z : Store) (r : Result X PageFault) (f : ℕ) (p : PageId) → Passes d s e z r → IsFoundAt z p f
    → (shown (picture_of d s)).of_heap (key p) ≡ false → (frame_at z.frames.items f).lent ≡ false
still-home d e s z r f p h found free =
    lent-of e z f p h.whole found ∙ ap (λ (v : Space). v.of_heap (key p)) h.same.after ∙ free

-- a page that was not pinned is not pinned behind a step that passes
pub still-free : {X : Type 0} (d e : Disks) (s z : Store) (r : Result X PageFault) (f : ℕ) (p : PageId) → Passes d s e z r → IsFoundAt z p f
    → (shown (picture_of d s)).pinned (key p) ≡ false → (frame_at z.frames.items f).pinned ≡ false
still-free d e s z r f p h found free =
    pinned-of e z f p h.whole found ∙ ap (λ (v : Space). v.pinned (key p)) h.same.after ∙ free

pub pinned-behind : (a b c : Space) (p : ℕ) → IsSame a b → IsPinned b c p → IsPinned a c p
pinned-behind a b c p s h = record {
  held = h.held;
  size = h.size;
  was = sym (ap (λ v. v.bytes p) s.after) ∙ h.was ∙ ap (λ (t : Bool). unpinned_bytes t (Some h.held)) (ap (λ v. v.told) s.after);
  counts = h.counts;
  after = h.after ∙ ap (λ v. with_counts (with_pin v p h.held) h.counts) s.after;
}

-- a fault of a device is no damage
pub pin-may : (a : Space) (f : PageFault) → PinFault f → MayBeFound a f
pin-may a fault.MainFault h = tt
pin-may a fault.TempFault h = tt
pin-may a fault.MainFull h = absurd h
pin-may a fault.TempFull h = absurd h
pin-may a (fault.Damaged page check) h = absurd h

-- a step that fails by a device has its cause
pub passes-cause : {X : Type 0} (d e : Disks) (s z : Store) (f : PageFault) → Passes {X = X} d s e z (Err f) → HasCause (shown (picture_of d s)) (shown (picture_of e z)) (Some f)
passes-cause d e s z f h = record { later = h.later; counts = h.counts; damage = pin-may (shown (picture_of d s)) f h.fault }

pub passes-cause-none : {X : Type 0} (d e : Disks) (s z : Store) (x : X) → Passes d s e z (Ok x) → HasCause (shown (picture_of d s)) (shown (picture_of e z)) None
passes-cause-none d e s z x h = record { later = h.later; counts = h.counts; damage = tt }

pub passes-fresh : (a : Space) (file : File) (f : PageFault) → PinFault f → FreshFault file a f
passes-fresh a file fault.MainFault h = tt
passes-fresh a file fault.TempFault h = tt
passes-fresh a file fault.MainFull h = absurd h
passes-fresh a file fault.TempFull h = absurd h
passes-fresh a file (fault.Damaged page check) h = absurd h

-- A new page.

next-none : (m : Maps) (file : File) (n : ℕ) → AreSound m → taken_at m (key_in file n) ≡ false → next_at m (key_in file n) ≡ None
next-none m Main n h e =
    by_key-main (pages_of m.main).next (pages_of m.temp).next n ∙ h.main.no_next n (sym (by_key-main (pages_of m.main).used (pages_of m.temp).used n) ∙ e)
next-none m Temp n h e =
    by_key-temp (pages_of m.main).next (pages_of m.temp).next n ∙ h.temp.no_next n (sym (by_key-temp (pages_of m.main).used (pages_of m.temp).used n) ∙ e)

pub record MakesPage (file : File) (d : Disks) (s z : Store) (p : PageId) : Type 0 where
  pub whole : IsSound d z
  pub ok : IsMade file (shown (picture_of d s)) (shown (picture_of d z)) p
  pub inside : is_inside z (key p) ≡ true

-- each page that is taken behind that has a place
new-placed : (s : Store) (m : Maps) (w : Places) (file : File) (n : ℕ) → IsShaped s → TakesLowest file s.maps m n → Widened s.places w (record { file = file; no = n })
    → (to : File) (k : ℕ) → taken_at m (key_in to k) ≡ true → k < places_in w to
new-placed s m w file n h takes wide to k t =
    elim (eqb_tells (key_in to k) (key_in file n)) [
      | inl e ↦
          let one = key_in-one to file k n e.1 in
          let P : File → Type 0 = λ x. k < places_in w x in
          subst P (sym one.0) (let there = wide.there in let same = one.1 in omega arith)
      | inr apart ↦
          let before : taken_at s.maps (key_in to k) ≡ true =
          sym (at-other (taken_at s.maps) (key_in file n) true (key_in to k) apart.1) ∙ sym (ap (λ g. g (key_in to k)) takes.after.taken) ∙ t in
          let l = h.placed to k before in let wider = wide.wider to in omega arith
    ]

pub makes-page : (file : File) (d : Disks) (s : Store) (m : Maps) (w : Places) (f n : ℕ) → IsSound d s → IsRoom s f → TakesLowest file s.maps m n
    → Widened s.places w (record { file = file; no = n }) → s.pins < 8
    → MakesPage file d s (record (with_frame s f (new_frame (record { file = file; no = n }))) { places = with_place w (record { file = file; no = n }) f; pins = s.pins + 1; clock = used s.clock f; maps = m }) (record { file = file; no = n })
makes-page file d s m w f n h room takes wide few =
    let p : PageId = record { file = file; no = n } in
    let y : Frame = new_frame p in
    let z : Store = record (with_frame s f y) { places = with_place w p f; pins = s.pins + 1; clock = used s.clock f; maps = m } in
    let a : Picture = picture_of d s in
    let b : Picture = record a { frame = at (frame_at s.frames.items) f y; place = at (place_at s.places) (key p) f; taken = at (taken_at s.maps) (key p) true; next = at (next_at s.maps) (key p) None; pins = s.pins + 1 } in
    let step : Made a b p = settled a f p h.coherent room.none takes.free in
    let noted : place_at (with_place w p f) ≡ at (place_at s.places) (key p) f = place-set w p f wide.there ∙ ap (λ g. at g (key p) f) wide.same in
    let same : picture_of d z ≡ b = λ i. record (picture_of d z) {
      limit = takes.after.limit i;
      taken = takes.after.taken i;
      next = takes.after.next i;
      frame = frames-set s.frames.items f y room.there i;
      place = noted i;
      current = length-set s.frames.items f y i;
    } in record {
      whole = sound-of d s z b same step.coherent takes.after.limit h
          (shape-kept s z h.shape (pins-more s.frames.items f y room.there room.free refl ∙ ap (λ k. k + 1) h.shape.counted) (omega (arith, few))
          (lent-same s.frames.items f y room.there (sym room.home) ∙ h.shape.lent_counted) h.shape.lent_fits (length-set s.frames.items f y)
          (running-used s f y h.shape room.there refl) takes.after.sound takes.after.limit (λ to k t. let l = new-placed s m w file n h.shape takes wide to k t in let e = places-same w p f to in omega arith) (λ to. room-same w p f to ∙ wide.room to));
      ok = record {
        in_file = refl;
        below_limit = takes.below;
        unused = record {
          not_taken = takes.free;
          no_bytes = step.no_bytes;
          not_pinned = step.not_pinned;
          no_next = next-none s.maps file n h.shape.maps takes.free;
          no_heap = step.not_lent;
        };
        counts = counts_of d s;
        after = ap shown same ∙ step.after;
      };
      inside =
          ap (λ g. is_in g (place_at z.places) (key p)) (frames-set s.frames.items f y room.there)
          ∙ ap (λ g. is_key_of (key p) (at (frame_at s.frames.items) f y (g (key p))).page) noted
          ∙ ap (λ k. is_key_of (key p) (at (frame_at s.frames.items) f y k).page) (at-here (place_at s.places) (key p) f)
          ∙ ap (λ (x : Frame). is_key_of (key p) x.page) (at-here (frame_at s.frames.items) f y) ∙ is_key_of-here p;
    }

pub made-behind : (file : File) (a b c : Space) (p : PageId) → IsSame a b → IsMade file b c p → IsMade file a c p
made-behind file a b c p s h =
    let P : Space → Type 0 = λ v. IsMade file v c p in
    let k : IsMade file (with_counts a s.counts) c p = subst P s.after h in record {
      in_file = k.in_file;
      below_limit = k.below_limit;
      unused = record {
        not_taken = k.unused.not_taken;
        no_bytes = k.unused.no_bytes;
        not_pinned = k.unused.not_pinned;
        no_next = k.unused.no_next;
        no_heap = k.unused.no_heap;
      };
      counts = k.counts;
      after = k.after;
    }

-- A pin that is given back.

pub record Ends (d : Disks) (z : Store) (v : Space) : Type 0 where
  pub whole : IsSound d z
  pub after : shown (picture_of d z) ≡ v

pub found-of : (d : Disks) (s : Store) (p : PageId) → is_inside s (key p) ≡ true → IsFoundAt s p (place_at s.places (key p))
found-of d s p h = record {
  place = refl;
  there = frame-in s.frames.items (place_at s.places (key p)) (key p) h;
  holds = page-of-in (picture_of d s) p h;
}

-- a page that was found in a frame is in one
pub found-inside : (s : Store) (f : ℕ) (p : PageId) → IsFoundAt s p f → is_inside s (key p) ≡ true
found-inside s f p found =
    ap (λ k. is_key_of (key p) (frame_at s.frames.items k).page) (sym found.place) ∙ ap (is_key_of (key p)) found.holds ∙ is_key_of-here p

pub lets-go : (d : Disks) (s : Store) (p : PageId) → IsSound d s → (shown (picture_of d s)).pinned (key p) ≡ true
    → Ends d (record (with_frame s (place_at s.places (key p)) (record (frame_at s.frames.items (place_at s.places (key p))) { pinned = false })) { pins = s.pins - 1; clock = back s.clock (place_at s.places (key p)) }) (without_pin (shown (picture_of d s)) (key p))
lets-go d s p h out =
    let a : Picture = picture_of d s in
    let f : ℕ = place_at s.places (key p) in
    let found : IsFoundAt s p f = found-of d s p (and-left (is_inside s (key p)) (a.frame f).pinned out) in
    let pinned : (a.frame f).pinned ≡ true = pinned-of d s f p h found ∙ out in
    let y : Frame = record (frame_at s.frames.items f) { pinned = false } in
    let z : Store = record (with_frame s f y) { pins = s.pins - 1; clock = back s.clock f } in
    let home : (frame_at s.frames.items f).lent ≡ false = (h.coherent f).apart pinned in
    let b : Picture = record a { frame = at (frame_at s.frames.items) f y; pins = s.pins - 1 } in
    let step : Becomes b (without_pin (shown a) (key p)) = unpinned a f p h.coherent found.holds pinned in
    let same : picture_of d z ≡ b = λ i. record (picture_of d z) { frame = frames-set s.frames.items f y found.there i; current = length-set s.frames.items f y i } in record {
      whole = sound-of d s z b same step.coherent refl h
          (shape-kept s z h.shape (pins-less s.frames.items f y found.there pinned refl ∙ ap (λ n. n - 1) h.shape.counted) (let l = h.shape.few in omega (arith, l))
          (lent-same s.frames.items f y found.there refl ∙ h.shape.lent_counted) h.shape.lent_fits (length-set s.frames.items f y)
          (running-back s f y h.shape found.there home) (λ m. m) refl h.shape.placed (λ to. refl));
      after = ap shown same ∙ step.after;
    }

-- A page that is given back, and another successor.

given-placed : (s : Store) (m : Maps) (p : PageId) {links : ℕ → Option ℕ} → IsShaped s → MapsAfter s.maps m (at (taken_at s.maps) (key p) false) links
    → (file : File) (n : ℕ) → taken_at m (key_in file n) ≡ true → n < places_in s.places file
given-placed s m p h after file n t = h.placed file n (was-taken (taken_at s.maps) (key p) (key_in file n) (sym (ap (λ g. g (key_in file n)) after.taken) ∙ t))

linked-placed : (s : Store) (m : Maps) (links : ℕ → Option ℕ) → IsShaped s → MapsAfter s.maps m (taken_at s.maps) links
    → (file : File) (n : ℕ) → taken_at m (key_in file n) ≡ true → n < places_in s.places file
linked-placed s m links h after file n t = h.placed file n (sym (ap (λ g. g (key_in file n)) after.taken) ∙ t)

pub gives-back : (d : Disks) (s : Store) (m : Maps) (f : ℕ) (p : PageId) → IsSound d s → IsFoundAt s p f → (shown (picture_of d s)).pinned (key p) ≡ false → (shown (picture_of d s)).of_heap (key p) ≡ false
    → MapsAfter s.maps m (at (taken_at s.maps) (key p) false) (at (next_at s.maps) (key p) None)
    → Ends d (record (with_frame s f (record (frame_at s.frames.items f) { page = None })) { maps = m; clock = forgotten s.clock f }) (without_page (shown (picture_of d s)) (key p))
gives-back d s m f p h found free home after =
    let a : Picture = picture_of d s in
    let y : Frame = record (frame_at s.frames.items f) { page = None } in
    let z : Store = record (with_frame s f y) { maps = m; clock = forgotten s.clock f } in
    let b : Picture = record a { frame = at (frame_at s.frames.items) f y; taken = at (taken_at s.maps) (key p) false; next = at (next_at s.maps) (key p) None } in
    let step : Becomes b (without_page (shown a) (key p)) = released a f p h.coherent found.holds (pinned-of d s f p h found ∙ free) (lent-of d s f p h found ∙ home) in
    let same : picture_of d z ≡ b = λ i. record (picture_of d z) {
      limit = after.limit i;
      taken = after.taken i;
      next = after.next i;
      frame = frames-set s.frames.items f y found.there i;
      current = length-set s.frames.items f y i;
    } in record {
      whole = sound-of d s z b same step.coherent after.limit h
          (shape-kept s z h.shape (pins-same s.frames.items f y found.there refl ∙ h.shape.counted) h.shape.few
          (lent-same s.frames.items f y found.there refl ∙ h.shape.lent_counted) h.shape.lent_fits (length-set s.frames.items f y)
          (running-forgotten s f y h.shape found.there refl) after.sound after.limit (given-placed s m p h.shape after) (λ to. refl));
      after = ap shown same ∙ step.after;
    }

pub gives-back-out : (d : Disks) (s : Store) (m : Maps) (p : PageId) → IsSound d s → is_inside s (key p) ≡ false
    → MapsAfter s.maps m (at (taken_at s.maps) (key p) false) (at (next_at s.maps) (key p) None)
    → Ends d (record s { maps = m }) (without_page (shown (picture_of d s)) (key p))
gives-back-out d s m p h out after =
    let a : Picture = picture_of d s in
    let z : Store = record s { maps = m } in
    let b : Picture = record a { taken = at (taken_at s.maps) (key p) false; next = at (next_at s.maps) (key p) None } in
    let step : Becomes b (without_page (shown a) (key p)) = dropped a p h.coherent out in
    let same : picture_of d z ≡ b = λ i. record (picture_of d z) { limit = after.limit i; taken = after.taken i; next = after.next i } in record {
      whole = sound-of d s z b same step.coherent after.limit h (shape-same s z h.shape refl refl refl h.shape.clock after.sound after.limit (given-placed s m p h.shape after) (λ to. refl));
      after = ap shown same ∙ step.after;
    }

pub links-on : (d : Disks) (s : Store) (m : Maps) (p : PageId) (to : Option ℕ) → IsSound d s → MapsAfter s.maps m (taken_at s.maps) (at (next_at s.maps) (key p) to)
    → Ends d (record s { maps = m }) (with_next (shown (picture_of d s)) (key p) to)
links-on d s m p to h after =
    let a : Picture = picture_of d s in
    let z : Store = record s { maps = m } in
    let b : Picture = record a { next = at (next_at s.maps) (key p) to } in
    let step : Becomes b (with_next (shown a) (key p) to) = linked a p to h.coherent in
    let same : picture_of d z ≡ b = λ i. record (picture_of d z) { limit = after.limit i; taken = after.taken i; next = after.next i } in record {
      whole = sound-of d s z b same step.coherent after.limit h (shape-same s z h.shape refl refl refl h.shape.clock after.sound after.limit (linked-placed s m (at (next_at s.maps) (key p) to) h.shape after) (λ to. refl));
      after = ap shown same ∙ step.after;
    }

-- A loan of the bytes of a page that a pin holds.

length-refit : (xs ws : List ℕ) → length (refit xs ws) ≡ length xs
length-refit xs ws = grind (arith, common_steps)

pub loan-sound : (d : Disks) (s : Store) (p : PageId) (w : List ℕ) → IsSound d s → (shown (picture_of d s)).pinned (key p) ≡ true → IsSound d (with_written s (key p) w)
loan-sound d s p w h out =
    let a : Picture = picture_of d s in
    let f : ℕ = place_at s.places (key p) in
    let found : IsFoundAt s p f = found-of d s p (and-left (is_inside s (key p)) (a.frame f).pinned out) in
    let y : Frame = frame_at s.frames.items f in
    let x : Frame = written y w in
    let b : Picture = record a { frame = at (frame_at s.frames.items) f x } in
    sound-of d s (with_frame s f x) b (picture-frame d s f x found.there)
    (coherent-at a b f x refl
    (λ g apart. fits-kept a b g (a.frame g) (h.coherent g) refl (λ r e. refl) (λ r e. refl) (λ r e _ t. refl))
    (record {
      found = (h.coherent f).found;
      taken = (h.coherent f).taken;
      whole = λ r e l. length-refit y.bytes w ∙ (h.coherent f).whole r e l;
      clean = λ r e new l t. absurd (cc);
      apart = (h.coherent f).apart;
      paged = (h.coherent f).paged;
    }))
    refl h
    (shape-frame s (with_frame s f x) f x h.shape found.there refl refl refl refl refl refl (λ m. m) refl h.shape.placed (λ to. refl))

-- the bytes of a page that a pin holds are told
pub pinned-bytes : (d : Disks) (s : Store) (p : PageId) → IsSound d s → (shown (picture_of d s)).pinned (key p) ≡ true
    → (shown (picture_of d s)).bytes (key p) ≡ Some (frame_at s.frames.items (place_at s.places (key p))).bytes
pinned-bytes d s p h out =
    let a : Picture = picture_of d s in
    let f : ℕ = place_at s.places (key p) in
    let found : IsFoundAt s p f = found-of d s p (and-left (is_inside s (key p)) (a.frame f).pinned out) in
    let pinned : (frame_at s.frames.items f).pinned ≡ true = pinned-of d s f p h found ∙ out in
    bytes-found a f p true h.coherent found.holds (told-pin a.told (frame_at s.frames.items f) pinned ((h.coherent f).apart pinned))

-- the frame of a page that a pin holds is pinned
pub pinned-frame : (d : Disks) (s : Store) (p : PageId) → IsSound d s → (shown (picture_of d s)).pinned (key p) ≡ true
    → (place_at s.places (key p) < length s.frames.items) × ((frame_at s.frames.items (place_at s.places (key p))).pinned ≡ true)
pinned-frame d s p h out =
    let f : ℕ = place_at s.places (key p) in
    let found : IsFoundAt s p f = found-of d s p (and-left (is_inside s (key p)) (frame_at s.frames.items f).pinned out) in
    (found.there, pinned-of d s f p h found ∙ out)

-- with few pins there is room
pub few-room : (s : Store) → IsShaped s → s.pins < 8 → HasRoom s
few-room s h few = let a = h.lent_fits in omega (arith, a, few)
