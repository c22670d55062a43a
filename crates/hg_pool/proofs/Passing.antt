-- The steps of a pool as its code makes them: on its devices and what it keeps.
use Rattle.std.specs.Prelude.{◌≡◌, ℕ, ◌+◌, ◌<◌, ◌≤◌, ◌||◌, Bool, true, false, List, length, None, Some, Result, Ok, Err, slice_set, slice_index_or}
use Rattle.std.proofs.Common.{sym, ◌∙◌, ap, subst, refl, arith, length-set, inl, inr}
use Rattle.std.proofs.lemmas.Bool.Decides.{eqb_tells}
use Rattle.std.proofs.lemmas.List.{get_or-set_same, get_or-set_other}
use Rattle.std.proofs.lemmas.List.Elements.{All-set}
use Rattle.hg_base.specs.Space.{at, key, key_in, with_counts, IsSame}
use Rattle.hg_base.specs.Changes.{items-set}
use Rattle.hg_base.specs.Causes.{Later, counts_after, fault_of}
use Rattle.hg_base.specs.SteadyLaws.{Later_same, Later_then}
use Rattle.hg_base.specs.declared.File.{File}
use Rattle.hg_base.specs.declared.File.TheVariants.{Main, Temp}
use Rattle.hg_base.specs.declared.PageId.{PageId}
use Rattle.hg_base.specs.declared.pages.PageFault.{PageFault}
use Rattle.hg_base.specs.declared.pages.PageFault.TheVariants as fault
use Rattle.hg_pool.specs.Files.{by_key}
use Rattle.hg_pool.specs.Disks.{Disks, all_told, page_on, SameShape, same_pages_in, SamePages, SameButOne, DeviceCause}
use Rattle.hg_pool.specs.Picture.{Picture, picture_of, counts_of, shown, no_frame, frame_at, place_at, places_in, room_in, taken_at, limit_of, is_in, is_key_of}
use Rattle.hg_pool.specs.Sound.{IsSound, IsShaped, IsCoherent, AreSound, pinned_in, lent_in}
use Rattle.hg_clock.specs.Clock.{ClockState}
use Rattle.hg_clock.specs.Clock as clock
use Rattle.hg_pool.specs.Clocking.{IsRunning, is_busy}
use Rattle.hg_pool.specs.Keeping.{with_place, with_place_in, set_item, with_frame, counted, is_inside}
use Rattle.hg_pool.specs.Passing.{Passes, LaterAnswers, Clears, IsClean, IsRoom}
use Rattle.hg_pool.specs.Keys.{at-main, at-temp, at-here, at-other}
use Rattle.hg_pool.specs.Loans.{frames-set}
use Rattle.hg_pool.specs.Seen.{Frame, FramesSeen}
use Rattle.hg_pool.specs.declared.places.Places.{Places}
use Rattle.hg_pool.specs.declared.store.Answers.{Answers}
use Rattle.hg_pool.specs.declared.store.Store.{Store}
use Rattle.hg_pool.specs.declared.PoolCounts.{PoolCounts}
use Rattle.hg_pool.proofs.Steps.{Keeps, cleaned, write-failed, emptied, blurred, loaded}
use Rattle.hg_pool.proofs.Counting.{pins-same, lent-same}

place-set-in : (s : Places) (file : File) (n f : ℕ) → n < places_in s file → place_at (with_place_in s file n f) ≡ at (place_at s) (key_in file n) f
place-set-in s Main n f h =
    let temp : ℕ → ℕ = λ k. slice_index_or s.temp.items k 0 in
    ap (λ g. by_key g temp) (items-set s.main.items n f 0 h) ∙ at-main (λ k. slice_index_or s.main.items k 0) temp n f
place-set-in s Temp n f h =
    let main : ℕ → ℕ = λ k. slice_index_or s.main.items k 0 in
    ap (λ g. by_key main g) (items-set s.temp.items n f 0 h) ∙ at-temp main (λ k. slice_index_or s.temp.items k 0) n f

-- a place that is noted is a change at the page's key
pub place-set : (s : Places) (page : PageId) (f : ℕ) → page.no < places_in s page.file → place_at (with_place s page f) ≡ at (place_at s) (key page) f
place-set s page f h = place-set-in s page.file page.no f h

places-same-in : (s : Places) (file to : File) (n f : ℕ) → places_in (with_place_in s file n f) to ≡ places_in s to
places-same-in s Main Main n f = length-set s.main.items n f
places-same-in s Main Temp n f = refl
places-same-in s Temp Main n f = refl
places-same-in s Temp Temp n f = length-set s.temp.items n f

room-same-in : (s : Places) (file to : File) (n f : ℕ) → room_in (with_place_in s file n f) to ≡ room_in s to
room-same-in s Main Main n f = refl
room-same-in s Main Temp n f = refl
room-same-in s Temp Main n f = refl
room-same-in s Temp Temp n f = refl

-- a place that is noted is none more
pub places-same : (s : Places) (page : PageId) (f : ℕ) (to : File) → places_in (with_place s page f) to ≡ places_in s to
places-same s page f to = places-same-in s page.file to page.no f

pub room-same : (s : Places) (page : PageId) (f : ℕ) (to : File) → room_in (with_place s page f) to ≡ room_in s to
room-same s page f to = room-same-in s page.file to page.no f

-- The clock.

-- another score of one frame, and another frame that is out, leave a clock sound
pub sound-scored : (c : ClockState) (f x : ℕ) (out : List Bool) → clock.IsSound c → x ≤ 7 → length out ≡ length c.out → clock.IsSound (record c { scores = slice_set c.scores f x; out = out })
sound-scored c f x out h small len = record {
  same_length = len ∙ h.same_length ∙ sym (length-set c.scores f x);
  small = All-set (λ k. k ≤ 7) c.scores f x small h.small;
}

pub sound-out : (c : ClockState) (out : List Bool) → clock.IsSound c → length out ≡ length c.out → clock.IsSound (record c { out = out })
sound-out c out h len = record { same_length = len ∙ h.same_length; small = h.small }

pub running-set : (fr : FramesSeen) (c e : ClockState) (f : ℕ) (y : Frame) → IsRunning fr c → f < length fr.items → clock.IsSound e → clock.frame_count e ≡ clock.frame_count c
    → e.out ≡ slice_set c.out f (is_busy y) → IsRunning (set_item fr f y) e
running-set fr c e f y h there sound count out = record {
  sound = sound;
  count = count ∙ h.count;
  inside = (let a = length-set fr.items f y in let b = h.inside in omega (arith, a, b));
  most = h.most;
  out = λ k. elim (eqb_tells k f) [
    | inl s ↦ ap (λ (l : List Bool). slice_index_or l k false) out ∙ ap (λ n. slice_index_or (slice_set c.out f (is_busy y)) n false) s.1
        ∙ get_or-set_same c.out f (is_busy y) false (let a = h.sound.same_length in let b = h.count in let d = h.inside in omega (arith, a, b, d, there))
        ∙ sym (ap (λ n. is_busy (slice_index_or (slice_set fr.items f y) n no_frame)) s.1 ∙ ap is_busy (get_or-set_same fr.items f y no_frame there))
    | inr n ↦ ap (λ (l : List Bool). slice_index_or l k false) out ∙ get_or-set_other c.out f k (is_busy y) false n.1 ∙ h.out k
        ∙ sym (ap is_busy (get_or-set_other fr.items f k y no_frame n.1))
  ];
}

pub running-same : (fr : FramesSeen) (c : ClockState) (f : ℕ) (y : Frame) → IsRunning fr c → f < length fr.items → is_busy y ≡ is_busy (frame_at fr.items f) → IsRunning (set_item fr f y) c
running-same fr c f y h there same = record {
  sound = h.sound;
  count = h.count;
  inside = (let a = length-set fr.items f y in let b = h.inside in omega (arith, a, b));
  most = h.most;
  out = λ k. elim (eqb_tells k f) [
    | inl s ↦ ap (λ n. slice_index_or c.out n false) s.1 ∙ h.out f ∙ sym same
        ∙ sym (ap (λ n. is_busy (slice_index_or (slice_set fr.items f y) n no_frame)) s.1 ∙ ap is_busy (get_or-set_same fr.items f y no_frame there))
    | inr n ↦ h.out k ∙ sym (ap is_busy (get_or-set_other fr.items f k y no_frame n.1))
  ];
}

pub running-takes : (fr : FramesSeen) (c e : ClockState) (n f : ℕ) → IsRunning fr c → clock.IsSound e → clock.Takes n c f e → IsRunning fr e
running-takes fr c e n f h sound takes = record {
  sound = sound;
  count = takes.frames ∙ h.count;
  inside = h.inside;
  most = h.most;
  out = λ k. ap (λ (l : List Bool). slice_index_or l k false) takes.out ∙ h.out k;
}

-- a frame of the pool is one of its clock
pub ticks : (s : Store) (f : ℕ) → IsShaped s → f < length s.frames.items → f < clock.frame_count s.clock
ticks s f h there = let a = h.clock.count in let b = h.clock.inside in omega (arith, a, b, there)

-- the shape of a store that is as large as before, and whose taken pages have places
pub shape-kept : (s z : Store) → IsShaped s → pinned_in z.frames.items ≡ z.pins → z.pins ≤ 8 → lent_in z.frames.items ≡ z.lent → z.lent + 8 ≤ length s.frames.items
    → length z.frames.items ≡ length s.frames.items → IsRunning z.frames z.clock → (AreSound s.maps → AreSound z.maps) → limit_of z.maps ≡ limit_of s.maps
    → ((file : File) (n : ℕ) → taken_at z.maps (key_in file n) ≡ true → n < places_in z.places file)
    → ((file : File) → room_in z.places file ≡ room_in s.places file) → IsShaped z
shape-kept s z h counted few lent_counted lent_fits frames running maps limit placed room = record {
  counted = counted;
  few = few;
  lent_counted = lent_counted;
  lent_fits = omega (arith, lent_fits, frames);
  at_least = (let l = h.at_least in omega (arith, l, frames));
  at_most = (let l = h.at_most in omega (arith, l, frames));
  clock = running;
  maps = maps h.maps;
  placed = placed;
  room = λ file. let l = ap (λ g. g file) limit in let k = room file in let m = h.room file in omega (arith, l, k, m);
}

-- one frame changed, which is out or not as before
pub shape-frame : (s z : Store) (f : ℕ) (y : Frame) → IsShaped s → f < length s.frames.items → y.pinned ≡ (frame_at s.frames.items f).pinned → y.lent ≡ (frame_at s.frames.items f).lent
    → z.frames ≡ set_item s.frames f y → z.pins ≡ s.pins → z.lent ≡ s.lent → z.clock ≡ s.clock → (AreSound s.maps → AreSound z.maps) → limit_of z.maps ≡ limit_of s.maps
    → ((file : File) (n : ℕ) → taken_at z.maps (key_in file n) ≡ true → n < places_in z.places file)
    → ((file : File) → room_in z.places file ≡ room_in s.places file) → IsShaped z
shape-frame s z f y h there p l frames pins lent clk maps limit placed room =
    shape-kept s z h
    (ap (λ (fr : FramesSeen). pinned_in fr.items) frames ∙ pins-same s.frames.items f y there p ∙ h.counted ∙ sym pins)
    (let a = h.few in omega (arith, a, pins))
    (ap (λ (fr : FramesSeen). lent_in fr.items) frames ∙ lent-same s.frames.items f y there l ∙ h.lent_counted ∙ sym lent)
    (let l = h.lent_fits in omega (arith, l, lent))
    (ap (λ (fr : FramesSeen). length fr.items) frames ∙ length-set s.frames.items f y)
    (subst (λ (c : ClockState). IsRunning z.frames c) (sym clk) (subst (λ (fr : FramesSeen). IsRunning fr s.clock) (sym frames) (running-same s.frames s.clock f y h.clock there (λ j. p j || l j))))
    maps limit placed room

-- no frame changed
pub shape-same : (s z : Store) → IsShaped s → z.frames ≡ s.frames → z.pins ≡ s.pins → z.lent ≡ s.lent → IsRunning s.frames z.clock → (AreSound s.maps → AreSound z.maps) → limit_of z.maps ≡ limit_of s.maps
    → ((file : File) (n : ℕ) → taken_at z.maps (key_in file n) ≡ true → n < places_in z.places file)
    → ((file : File) → room_in z.places file ≡ room_in s.places file) → IsShaped z
shape-same s z h frames pins lent running maps limit placed room =
    shape-kept s z h
    (ap (λ (fr : FramesSeen). pinned_in fr.items) frames ∙ h.counted ∙ sym pins)
    (let a = h.few in omega (arith, a, pins))
    (ap (λ (fr : FramesSeen). lent_in fr.items) frames ∙ h.lent_counted ∙ sym lent)
    (let l = h.lent_fits in omega (arith, l, lent))
    (ap (λ (fr : FramesSeen). length fr.items) frames)
    (subst (λ (fr : FramesSeen). IsRunning fr z.clock) (sym frames) running)
    maps limit placed room

-- a fault of a device that was counted
pub device-counts : {X : Type 0} (d e : Disks) (s z : Store) (f : PageFault) → DeviceCause {X = X} d e (Err f) → z.answers ≡ counted s.answers f
    → counts_of e z ≡ counts_after (counts_of d s) (Some f)
device-counts {X} d e s z fault.MainFault h a = λ i. record {
  main_device = (h.counts i).main;
  temp_device = (h.counts i).temp;
  main = (a i).main;
  temp = (a i).temp;
  main_full = (a i).main_full;
  temp_full = (a i).temp_full;
}
device-counts {X} d e s z fault.TempFault h a = λ i. record {
  main_device = (h.counts i).main;
  temp_device = (h.counts i).temp;
  main = (a i).main;
  temp = (a i).temp;
  main_full = (a i).main_full;
  temp_full = (a i).temp_full;
}
device-counts {X} d e s z fault.MainFull h a = absurd h.device
device-counts {X} d e s z fault.TempFull h a = absurd h.device
device-counts {X} d e s z (fault.Damaged page check) h a = absurd h.device

same-counts : {X : Type 0} (d e : Disks) (s z : Store) (x : X) → DeviceCause d e (Ok x) → z.answers ≡ s.answers → counts_of e z ≡ counts_of d s
same-counts d e s z x h a = λ i. record {
  main_device = (h.counts i).main;
  temp_device = (h.counts i).temp;
  main = (a i).main;
  temp = (a i).temp;
  main_full = (a i).main_full;
  temp_full = (a i).temp_full;
}

later-of : {X : Type 0} (d e : Disks) (s z : Store) (r : Result X PageFault) → DeviceCause d e r → LaterAnswers s.answers z.answers → Later (counts_of d s) (counts_of e z)
later-of d e s z r h a = record {
  main_device = h.main;
  temp_device = h.temp;
  main = a.main;
  temp = a.temp;
  main_full = a.main_full;
  temp_full = a.temp_full;
}

later-same : {X : Type 0} (d e : Disks) (s z : Store) (r : Result X PageFault) → DeviceCause d e r → z.answers ≡ s.answers → Later (counts_of d s) (counts_of e z)
later-same d e s z r h a = record {
  main_device = h.main;
  temp_device = h.temp;
  main = (let l = ap (λ (x : Answers). x.main) a in omega arith);
  temp = (let l = ap (λ (x : Answers). x.temp) a in omega arith);
  main_full = (let l = ap (λ (x : Answers). x.main_full) a in omega arith);
  temp_full = (let l = ap (λ (x : Answers). x.temp_full) a in omega arith);
}

-- what Keeps says, along another name of the picture
keeps-sound : (d e : Disks) (s z : Store) (b : Picture) → picture_of e z ≡ b → Keeps (picture_of d s) b → SameShape d e → limit_of z.maps ≡ limit_of s.maps
    → IsSound d s → IsShaped z → IsSound e z
keeps-sound d e s z b p k shape limit h made =
    let P : Picture → Type 0 = λ v. IsCoherent v in record {
      coherent = subst P (sym p) k.coherent;
      shape = made;
      main_fits = (let l = h.main_fits in let m = shape.main in let n = ap (λ g. g Main) limit in omega arith);
      temp_fits = (let l = h.temp_fits in let m = shape.temp in let n = ap (λ g. g Temp) limit in omega arith);
    }

keeps-same : (d e : Disks) (s z : Store) (b : Picture) → picture_of e z ≡ b → Keeps (picture_of d s) b → IsSame (shown (picture_of d s)) (shown (picture_of e z))
keeps-same d e s z b p k = record { counts = b.counts; after = ap shown p ∙ k.same }

-- The frames that a step leaves.

out-at : (frame : ℕ → Frame) (place : ℕ → ℕ) (f : ℕ) (x : Frame) (q : ℕ) → (is_key_of q (frame f).page ≡ false → is_key_of q x.page ≡ false)
    → is_in frame place q ≡ false → is_in (at frame f x) place q ≡ false
out-at frame place f x q h out =
    elim (eqb_tells (place q) f) [
      | inl e ↦ ap (λ (y : Frame). is_key_of q y.page) (ap (at frame f x) e.1 ∙ at-here frame f x) ∙ h (sym (ap (λ k. is_key_of q (frame k).page) e.1) ∙ out)
      | inr n ↦ ap (λ (y : Frame). is_key_of q y.page) (at-other frame f x (place q) n.1) ∙ out
    ]

-- a frame that changed, but not to another page
pub clears-frame : (s : Store) (f : ℕ) (x : Frame) (n : PoolCounts) → f < length s.frames.items → n.reads ≡ s.counts.reads
    → ((q : ℕ) → is_key_of q (frame_at s.frames.items f).page ≡ false → is_key_of q x.page ≡ false)
    → Clears s (record (with_frame s f x) { counts = n })
clears-frame s f x n there reads h = record {
  maps = refl;
  places = refl;
  pins = refl;
  frames = length-set s.frames.items f x;
  out = λ q out. ap (λ g. is_in g (place_at s.places) q) (frames-set s.frames.items f x there) ∙ out-at (frame_at s.frames.items) (place_at s.places) f x q (h q) out;
  reads = reads;
}

pub clears-then : (a b c : Store) → Clears a b → Clears b c → Clears a c
clears-then a b c p r = record {
  maps = r.maps ∙ p.maps;
  places = r.places ∙ p.places;
  pins = r.pins ∙ p.pins;
  frames = r.frames ∙ p.frames;
  out = λ q o. r.out q (p.out q o);
  reads = r.reads ∙ p.reads;
}

-- One step behind another.

pub passes-then : {X Y : Type 0} (d e g : Disks) (s z w : Store) (x : X) (u : Result Y PageFault) → Passes d s e z (Ok x) → Passes e z g w u → Passes d s g w u
passes-then d e g s z w x u p k = record {
  whole = k.whole;
  same = record { counts = k.same.counts; after = k.same.after ∙ ap (λ v. with_counts v k.same.counts) p.same.after };
  later = Later_then (counts_of d s) (counts_of e z) (counts_of g w) p.later k.later;
  counts = k.counts ∙ ap (λ n. counts_after n (fault_of u)) p.counts;
  fault = k.fault;
  stock = record { lent = k.stock.lent ∙ p.stock.lent; max = k.stock.max ∙ p.stock.max; region = k.stock.region ∙ p.stock.region };
}

-- the answer may be put otherwise where it is no fault
pub passes-ok : {X Y : Type 0} (d e : Disks) (s z : Store) (x : X) (y : Y) → Passes d s e z (Ok x) → Passes d s e z (Ok y)
passes-ok d e s z x y p = record { whole = p.whole; same = p.same; later = p.later; counts = p.counts; fault = p.fault; stock = p.stock }

pub passes-err : {X Y : Type 0} (d e : Disks) (s z : Store) (f : PageFault) → Passes {X = X} d s e z (Err f) → Passes {X = Y} d s e z (Err f)
passes-err d e s z f p = record { whole = p.whole; same = p.same; later = p.later; counts = p.counts; fault = p.fault; stock = p.stock }

-- The steps.

same-disks : (d : Disks) → SameShape d d
same-disks d = record { told = refl; main = refl; temp = refl }

-- nothing happened but that the clock moved on
pub moved : {X : Type 0} (d : Disks) (s : Store) (c : ClockState) (x : X) → IsSound d s → IsRunning s.frames c
    → Passes d s d (record s { clock = c }) (Ok x)
moved d s c x h l =
    let z : Store = record s { clock = c } in record {
      whole = record {
        coherent = h.coherent;
        shape = shape-same s z h.shape refl refl refl l (λ m. m) refl h.shape.placed (λ to. refl);
        main_fits = h.main_fits;
        temp_fits = h.temp_fits;
      };
      same = record { counts = counts_of d s; after = refl };
      later = Later_same (counts_of d s);
      counts = refl;
      fault = tt;
      stock = record { lent = refl; max = refl; region = refl };
    }

-- a write of a frame's page failed
pub wrote-not : {X : Type 0} (d e : Disks) (s : Store) (n : PoolCounts) (a : Answers) (f : ℕ) (p : PageId) (x : PageFault) → IsSound d s
    → (frame_at s.frames.items f).page ≡ Some p → (frame_at s.frames.items f).dirty ≡ true → SameButOne d e (key p) → DeviceCause {X = X} d e (Err x)
    → LaterAnswers s.answers a → a ≡ counted s.answers x → Passes {X = X} d s e (record s { counts = n; answers = a }) (Err x)
wrote-not {X} d e s n a f p x h page dirty kept cause later counts =
    let z : Store = record s { counts = n; answers = a } in
    let b : Picture = record (picture_of d s) { page = page_on e; counts = counts_of e z } in
    let keeps : Keeps (picture_of d s) b = write-failed (picture_of d s) f p (page_on e) (counts_of e z) h.coherent page dirty kept.others in
    let same : picture_of e z ≡ b = λ i. record (picture_of e z) { told = kept.shape.told i; device_limit = same_pages_in d e kept.shape i } in record {
      whole = keeps-sound d e s z b same keeps kept.shape refl h (shape-same s z h.shape refl refl refl h.shape.clock (λ m. m) refl h.shape.placed (λ to. refl));
      same = keeps-same d e s z b same keeps;
      later = later-of {X = X} d e s z (Err x) cause later;
      counts = device-counts {X = X} d e s z x cause counts;
      fault = cause.device;
      stock = record { lent = refl; max = refl; region = refl };
    }

-- a frame's page was written
pub wrote : {X : Type 0} (d e : Disks) (s : Store) (n : PoolCounts) (f : ℕ) (p : PageId) (x : X) → IsSound d s → f < length s.frames.items
    → (frame_at s.frames.items f).page ≡ Some p → SameButOne d e (key p) → DeviceCause d e (Ok x)
    → (all_told d ≡ true → page_on e (key p) ≡ (frame_at s.frames.items f).bytes)
    → Passes d s e (record (with_frame s f (record (frame_at s.frames.items f) { dirty = false })) { counts = n }) (Ok x)
wrote d e s n f p x h there page kept cause put =
    let y : Frame = record (frame_at s.frames.items f) { dirty = false } in
    let z : Store = record (with_frame s f y) { counts = n } in
    let b : Picture = record (picture_of d s) { frame = at (frame_at s.frames.items) f y; page = page_on e; counts = counts_of e z } in
    let keeps : Keeps (picture_of d s) b = cleaned (picture_of d s) f p (page_on e) (counts_of e z) h.coherent page put kept.others in
    let same : picture_of e z ≡ b = λ i. record (picture_of e z) {
      told = kept.shape.told i;
      device_limit = same_pages_in d e kept.shape i;
      frame = frames-set s.frames.items f y there i;
      current = length-set s.frames.items f y i;
    } in record {
      whole = keeps-sound d e s z b same keeps kept.shape refl h
          (shape-frame s z f y h.shape there refl refl refl refl refl refl (λ m. m) refl h.shape.placed (λ to. refl));
      same = keeps-same d e s z b same keeps;
      later = later-same d e s z (Ok x) cause refl;
      counts = same-counts d e s z x cause refl;
      fault = tt;
      stock = record { lent = refl; max = refl; region = refl };
    }

-- a frame became empty
pub cleared : {X : Type 0} (d : Disks) (s : Store) (n : PoolCounts) (f : ℕ) (x : X) → IsSound d s → f < length s.frames.items
    → IsClean (frame_at s.frames.items f) → (frame_at s.frames.items f).pinned ≡ false → (frame_at s.frames.items f).lent ≡ false
    → Passes d s d (record (with_frame s f (record (frame_at s.frames.items f) { page = None })) { counts = n }) (Ok x)
cleared d s n f x h there clean free home =
    let y : Frame = record (frame_at s.frames.items f) { page = None } in
    let z : Store = record (with_frame s f y) { counts = n } in
    let b : Picture = record (picture_of d s) { frame = at (frame_at s.frames.items) f y } in
    let keeps : Keeps (picture_of d s) b = emptied (picture_of d s) f h.coherent clean free home in
    let same : picture_of d z ≡ b = λ i. record (picture_of d z) { frame = frames-set s.frames.items f y there i; current = length-set s.frames.items f y i } in record {
      whole = keeps-sound d d s z b same keeps (same-disks d) refl h
          (shape-frame s z f y h.shape there refl refl refl refl refl refl (λ m. m) refl h.shape.placed (λ to. refl));
      same = keeps-same d d s z b same keeps;
      later = Later_same (counts_of d s);
      counts = refl;
      fault = tt;
      stock = record { lent = refl; max = refl; region = refl };
    }

-- a read into an empty frame failed
pub read-not : {X : Type 0} (d e : Disks) (s : Store) (n : PoolCounts) (a : Answers) (f : ℕ) (bytes : List ℕ) (x : PageFault) → IsSound d s → f < length s.frames.items
    → (frame_at s.frames.items f).page ≡ None → (frame_at s.frames.items f).lent ≡ false → SamePages d e → DeviceCause {X = X} d e (Err x)
    → LaterAnswers s.answers a → a ≡ counted s.answers x
    → Passes {X = X} d s e (record (with_frame s f (record (frame_at s.frames.items f) { bytes = bytes })) { counts = n; answers = a }) (Err x)
read-not {X} d e s n a f bytes x h there page home kept cause later counts =
    let y : Frame = record (frame_at s.frames.items f) { bytes = bytes } in
    let z : Store = record (with_frame s f y) { counts = n; answers = a } in
    let b : Picture = record (picture_of d s) { frame = at (frame_at s.frames.items) f y; page = page_on e; counts = counts_of e z } in
    let keeps : Keeps (picture_of d s) b = blurred (picture_of d s) f y (page_on e) (counts_of e z) h.coherent page page home kept.pages in
    let same : picture_of e z ≡ b = λ i. record (picture_of e z) {
      told = kept.shape.told i;
      device_limit = same_pages_in d e kept.shape i;
      frame = frames-set s.frames.items f y there i;
      current = length-set s.frames.items f y i;
    } in record {
      whole = keeps-sound d e s z b same keeps kept.shape refl h
          (shape-frame s z f y h.shape there refl refl refl refl refl refl (λ m. m) refl h.shape.placed (λ to. refl));
      same = keeps-same d e s z b same keeps;
      later = later-of {X = X} d e s z (Err x) cause later;
      counts = device-counts {X = X} d e s z x cause counts;
      fault = cause.device;
      stock = record { lent = refl; max = refl; region = refl };
    }

-- a page was read into an empty frame
pub read-in : {X : Type 0} (d e : Disks) (s : Store) (n : PoolCounts) (f : ℕ) (bytes : List ℕ) (p : PageId) (x : X) → IsSound d s → IsRoom s f
    → SamePages d e → DeviceCause d e (Ok x) → length bytes ≡ 4096 → (all_told d ≡ true → bytes ≡ page_on d (key p))
    → taken_at s.maps (key p) ≡ true → is_inside s (key p) ≡ false → p.no < places_in s.places p.file
    → Passes d s e (record (with_frame s f (record (frame_at s.frames.items f) { bytes = bytes; page = Some p; dirty = false })) { places = with_place s.places p f; counts = n }) (Ok x)
read-in d e s n f bytes p x h room kept cause whole gives taken out in_range =
    let y : Frame = record (frame_at s.frames.items f) { bytes = bytes; page = Some p; dirty = false } in
    let y' : Frame = record { bytes = bytes; page = Some p; dirty = false; pinned = false; lent = false } in
    let z : Store = record (with_frame s f y) { places = with_place s.places p f; counts = n } in
    let b : Picture = record (picture_of d s) { frame = at (frame_at s.frames.items) f y'; place = at (place_at s.places) (key p) f; page = page_on e; counts = counts_of e z } in
    let keeps : Keeps (picture_of d s) b = loaded (picture_of d s) f p bytes (page_on e) (counts_of e z) h.coherent room.none taken out whole gives kept.pages in
    let frames : frame_at (slice_set s.frames.items f y) ≡ at (frame_at s.frames.items) f y' =
    frames-set s.frames.items f y room.there ∙ (λ i. at (frame_at s.frames.items) f (record y { pinned = room.free i; lent = room.home i })) in
    let same : picture_of e z ≡ b = λ i. record (picture_of e z) {
      told = kept.shape.told i;
      device_limit = same_pages_in d e kept.shape i;
      frame = frames i;
      place = place-set s.places p f in_range i;
      current = length-set s.frames.items f y i;
    } in record {
      whole = keeps-sound d e s z b same keeps kept.shape refl h
          (shape-frame s z f y h.shape room.there refl refl refl refl refl refl (λ m. m) refl (λ to k t. let l = h.shape.placed to k t in let e = places-same s.places p f to in omega arith) (room-same s.places p f));
      same = keeps-same d e s z b same keeps;
      later = later-same d e s z (Ok x) cause refl;
      counts = same-counts d e s z x cause refl;
      fault = tt;
      stock = record { lent = refl; max = refl; region = refl };
    }

pub counted-later : (w s a : Answers) → w ≡ s → LaterAnswers w a → LaterAnswers s a
counted-later w s a e h = let P : Answers → Type 0 = λ x. LaterAnswers x a in subst P e h

-- a store whose counts alone are other ones
pub recounted : (z w : Store) (n : PoolCounts) → z ≡ record w { counts = n } → z ≡ record w { counts = z.counts }
recounted z w n e = e ∙ ap (λ m. record w { counts = m }) (sym (ap (λ (y : Store). y.counts) e))

-- the frame that was set
pub frame-set : (s : Store) (f : ℕ) (x : Frame) → f < length s.frames.items → frame_at (with_frame s f x).frames.items f ≡ x
frame-set s f x h = ap (λ g. g f) (frames-set s.frames.items f x h) ∙ at-here (frame_at s.frames.items) f x

pub room-at : (s : Store) (f : ℕ) (x : Frame) (n : PoolCounts) → f < length s.frames.items → x.page ≡ None → x.pinned ≡ false → x.lent ≡ false → IsRoom (record (with_frame s f x) { counts = n }) f
room-at s f x n there page free home = record {
  there = (let l = length-set s.frames.items f x in omega arith);
  none = ap (λ (y : Frame). y.page) (frame-set s f x there) ∙ page;
  free = ap (λ (y : Frame). y.pinned) (frame-set s f x there) ∙ free;
  home = ap (λ (y : Frame). y.lent) (frame-set s f x there) ∙ home;
}

-- the same of a store that is named otherwise, where the hand took a frame
pub moved-on : {X : Type 0} (d : Disks) (s z : Store) (n f : ℕ) (x : X) → IsSound d s → clock.IsSound z.clock → clock.Takes n s.clock f z.clock → z ≡ record s { clock = z.clock } → Passes d s d z (Ok x)
moved-on d s z n f x h sound takes e =
    let P : Store → Type 0 = λ y. Passes d s d y (Ok x) in
    subst P (sym e) (moved d s z.clock x h (running-takes s.frames s.clock z.clock n f h.shape.clock sound takes))
