-- Another number of frames in use: the pages that are written before, and the frames behind it.
use Rattle.std.specs.Prelude.{◌≡◌, ◌≢◌, ℕ, zero, suc, ◌<◌, ◌≤◌, ◌⊎◌, ◌||◌, ◌&&◌, true, false, List, [], ◌∷◌, length, Option, None, Some, Ok, if◌then◌else◌}
use Rattle.std.proofs.Common.{sym, ◌∙◌, ap, subst, refl, inl, inr, arith}
use Rattle.std.proofs.lemmas.Bool.{false≢true}
use Rattle.std.proofs.lemmas.Bool.Decides.{nat_tests, eqb_tells}
use Rattle.hg_io.specs.declared.device.PageDevice.{Ghosts}
use Rattle.hg_base.specs.Space.{Space, key, with_counts}
use Rattle.hg_base.specs.declared.File.{File}
use Rattle.hg_base.specs.declared.PageId.{PageId}
use Rattle.hg_base.specs.declared.pages.PageFault.{PageFault}
use Rattle.hg_pool.specs.Disks.{Disks, disks_in}
use Rattle.hg_pool.specs.Picture.{Picture, shown, picture_of, frame_at, no_frame, is_key_of}
use Rattle.hg_pool.specs.Sound.{Fits, IsCoherent, IsSound}
use Rattle.hg_clock.specs.Clock.{is_out}
use Rattle.hg_pool.specs.Clocking.{is_busy}
use Rattle.hg_pool.specs.Keeping.{Resizes}
use Rattle.hg_pool.specs.Keys.{is_key_of-true}
use Rattle.hg_pool.specs.Passing.{Passes, PassesParts, Clears, IsClean}
use Rattle.hg_pool.specs.Resizing.{NoneOut, with_current, with_writes, with_calls, Writes, KeepsBelow, StaysWhole, Cleaned}
use Rattle.hg_pool.specs.Seen.{Frame, FramesSeen}
use Rattle.hg_pool.specs.Shown.{state_of, disks_of, frame_of, page_in, owed, current_of, Asked, SameFrames}
use Rattle.hg_pool.specs.Views.{shown-same, same-at, same-here, fits-kept}
use Rattle.hg_pool.specs.Work.{Calls, calls_in, with_write, with_call, owed_of, owed_by, IsFaultOf}
use Rattle.hg_pool.specs.declared.devices.Devices.{Devices}
use Rattle.hg_pool.specs.declared.PoolCounts.{PoolCounts}
use Rattle.hg_pool.specs.declared.parts.Parts.{Parts}
use Rattle.hg_pool.specs.declared.store.Store.{Store}
use Rattle.hg_pool.proofs.Asking.{owed-none}
use Rattle.hg_pool.proofs.Counting.{none-pinned, pinned-none, lent-none}
use Rattle.hg_pool.proofs.InFrames.{not-or}
use Rattle.hg_pool.proofs.Moves.{le_or_lt}
use Rattle.hg_pool.proofs.Passing.{passes-then, clears-then, moved}
use Rattle.hg_pool.proofs.Staying.{same-then, frames-stay}
use Rattle.hg_pool.proofs.Steps.{Keeps, none-apart, and-false, or-false, clean-held, lent-found, bool-not}

-- What a frame is that goes out of use or comes into use: its page is on its device as it is, and then it has none.
pub record Goes (y x : Frame) : Type 0 where
  pub clean : IsClean y
  pub pinned : y.pinned ≡ false
  pub lent : y.lent ≡ false
  pub none : x.page ≡ None
  pub free : x.pinned ≡ false
  pub home : x.lent ≡ false

abbrev pub StaysOrGoes : Frame → Frame → Type 0
StaysOrGoes y x = (x ≡ y) ⊎ Goes y x

-- each frame stays as it is, or its page goes or it comes in empty
pub regrouped : (a : Picture) (frame : ℕ → Frame) (n : ℕ) → IsCoherent a → ((f : ℕ) → StaysOrGoes (a.frame f) (frame f))
    → Keeps (record a { current = n }) (record a { frame = frame; current = n })
regrouped a frame n h each =
    let w : Picture = record a { current = n } in
    let b : Picture = record a { frame = frame; current = n } in record {
      coherent = λ f. elim (each f) [
        | inl e ↦ (let P : Frame → Type 0 = λ y. Fits b f y in
            subst P (sym e) (fits-kept a b f (a.frame f) (h f) refl (λ r d. refl) (λ r d. refl) (λ r d _ t. refl)))
        | inr g ↦ record {
          found = λ r d. none-apart (frame f).page r (a.place (key r) ≡ f) g.none d;
          taken = λ r d. none-apart (frame f).page r (a.taken (key r) ≡ true) g.none d;
          whole = λ r d l. none-apart (frame f).page r (length (frame f).bytes ≡ 4096) g.none d;
          clean = λ r d _ l t. none-apart (frame f).page r ((frame f).bytes ≡ a.page (key r)) g.none d;
          apart = λ _. g.home;
          paged = λ l. absurd (false≢true (sym g.home ∙ l));
        }
      ];
      same = shown-same w b (record { told = refl; limit = refl; device_limit = refl; taken = refl; next = refl; pins = refl; current = refl; most = refl })
          (λ q. elim (each (a.place q)) [
            | inl e ↦ same-at w b q (a.frame (a.place q)) (a.frame (a.place q)) refl e
                (same-here a.told q (a.frame (a.place q)) (a.frame (a.place q)) a.page a.page refl refl refl refl (λ t out. refl))
            | inr g ↦ (let y : Frame = a.frame (a.place q) in
                let x : Frame = frame (a.place q) in
                let gone : is_key_of q x.page ≡ false = ap (is_key_of q) g.none in
                same-at w b q y x refl refl (record {
                  pinned = ap (λ s. s && x.pinned) gone ∙ sym (ap (λ s. is_key_of q y.page && s) g.pinned ∙ and-false (is_key_of q y.page));
                  lent = ap (λ s. s && x.lent) gone ∙ sym (ap (λ s. is_key_of q y.page && s) g.lent ∙ and-false (is_key_of q y.page));
                  held = λ t. ap (λ s. if s then x.bytes else a.page q) gone ∙ clean-held (is_key_of q y.page) y.bytes (a.page q) (λ k.
                      let r = is_key_of-true q y.page k in
                      let told : a.told ≡ true = sym (or-false a.told) ∙ sym (ap (λ s. a.told || s) (ap (λ s. is_key_of q y.page && s) g.pinned ∙ and-false (is_key_of q y.page))) ∙ t in
                      (h (a.place q)).clean r.0 r.1 (g.clean r.0 r.1) g.lent told ∙ ap a.page r.2);
                }))
          ]);
    }

-- The frames in use.

pub beyond : (l : List Frame) (f : ℕ) → length l ≤ f → frame_at l f ≡ no_frame
beyond [] f h = refl
beyond (x ∷ xs) zero h = absurd (omega (arith, h))
beyond (x ∷ xs) (suc f) h = beyond xs f (omega (arith, h))

no-frame-clean : (y : Frame) → y ≡ no_frame → IsClean y
no-frame-clean y e p d = none-apart y.page p (y.dirty ≡ false) (ap (λ (x : Frame). x.page) e) d

-- each of them stays, or goes with its page on its device, or comes in empty
pub stays-or-goes : (a b : FramesSeen) (n : ℕ) → Resizes a b n → ((f : ℕ) → is_busy (frame_at a.items f) ≡ false) → ((f : ℕ) → n ≤ f → IsClean (frame_at a.items f))
    → (f : ℕ) → StaysOrGoes (frame_at a.items f) (frame_at b.items f)
stays-or-goes a b n r free clean f =
    let was = not-or (frame_at a.items f).pinned (frame_at a.items f).lent (free f) in
    elim (le_or_lt (length a.items) f) [
      | inl l ↦ (let now = not-or (frame_at b.items f).pinned (frame_at b.items f).lent (r.free f l) in
          inr (record { clean = no-frame-clean (frame_at a.items f) (beyond a.items f l); pinned = was.0; lent = was.1; none = r.none f l; free = now.0; home = now.1 }))
      | inr l ↦ elim (le_or_lt n f) [
        | inl m ↦ (let is : frame_at b.items f ≡ no_frame = beyond b.items f (let c = r.count in omega (arith, c, m)) in
            inr (record {
              clean = clean f m;
              pinned = was.0;
              lent = was.1;
              none = ap (λ (x : Frame). x.page) is;
              free = ap (λ (x : Frame). x.pinned) is;
              home = ap (λ (x : Frame). x.lent) is;
            }))
        | inr m ↦ inl (r.kept f m l)
      ]
    ]

still-free : (y x : Frame) → is_busy y ≡ false → StaysOrGoes y x → is_busy x ≡ false
still-free y x free each = elim each [
  | inl e ↦ ap is_busy e ∙ free
  | inr g ↦ (λ i. g.free i || g.home i)
]

pub resized-sound : (d : Disks) (s : Store) (fr : FramesSeen) (n : ℕ) → IsSound d s → s.pins ≡ 0 → s.lent ≡ 0 → 16 ≤ n → n ≤ s.frames.max → Resizes s.frames fr n
    → ((f : ℕ) → is_busy (frame_at s.frames.items f) ≡ false) → ((f : ℕ) → n ≤ f → IsClean (frame_at s.frames.items f)) → IsSound d (record s { frames = fr })
resized-sound d s fr n h pins lent least most r free clean =
    let each = stays-or-goes s.frames fr n r free clean in
    let busy : (f : ℕ) → is_busy (frame_at fr.items f) ≡ false = λ f. still-free (frame_at s.frames.items f) (frame_at fr.items f) (free f) (each f) in
    let keeps = regrouped (picture_of d s) (frame_at fr.items) (length fr.items) h.coherent each in record {
      coherent = subst (λ m. IsCoherent (record (picture_of d s) { frame = frame_at fr.items; current = length fr.items; most = m })) (sym r.max) keeps.coherent;
      shape = record {
        counted = pinned-none fr.items (λ f. (not-or (frame_at fr.items f).pinned (frame_at fr.items f).lent (busy f)).0) ∙ sym pins;
        few = h.shape.few;
        lent_counted = lent-none fr.items (λ f. (not-or (frame_at fr.items f).pinned (frame_at fr.items f).lent (busy f)).1) ∙ sym lent;
        lent_fits = (let c = r.count in omega (arith, c, lent, least));
        at_least = (let c = r.count in omega (arith, c, least));
        at_most = (let c = r.count in let k = h.shape.clock.most in omega (arith, c, k, most));
        clock = record {
          sound = h.shape.clock.sound;
          count = h.shape.clock.count ∙ sym r.max;
          inside = (let c = r.count in let k = r.max in omega (arith, c, k, most));
          most = (let k = r.max in let l = h.shape.clock.most in omega (arith, k, l));
          out = λ f. h.shape.clock.out f ∙ free f ∙ sym (busy f);
        };
        maps = h.shape.maps;
        placed = h.shape.placed;
        room = h.shape.room;
      };
      main_fits = h.main_fits;
      temp_fits = h.temp_fits;
    }

pub resized-shown : (d : Disks) (s : Store) (fr : FramesSeen) (n : ℕ) → IsSound d s → Resizes s.frames fr n
    → ((f : ℕ) → is_busy (frame_at s.frames.items f) ≡ false) → ((f : ℕ) → n ≤ f → IsClean (frame_at s.frames.items f))
    → shown (picture_of d (record s { frames = fr })) ≡ with_current (shown (picture_of d s)) n
resized-shown d s fr n h r free clean =
    (λ i. shown (record (picture_of d (record s { frames = fr })) { most = r.max i }))
    ∙ (regrouped (picture_of d s) (frame_at fr.items) (length fr.items) h.coherent (stays-or-goes s.frames fr n r free clean)).same
    ∙ ap (with_current (shown (picture_of d s))) r.count

-- where no frame is out, none is pinned or handed out
no-lent : (d : Disks) (s : Store) (f : ℕ) (o : Option PageId) → IsSound d s → (frame_at s.frames.items f).page ≡ o → (frame_at s.frames.items f).lent ≡ true
    → ((q : ℕ) → (shown (picture_of d s)).of_heap q ≡ false) → ⊥
no-lent d s f None h e l none = (h.coherent f).paged l e
no-lent d s f (Some p) h e l none = false≢true (sym (none (key p)) ∙ lent-found (picture_of d s) f p h.coherent e ∙ l)

pub none-lent-at : (d : Disks) (s : Store) → IsSound d s → NoneOut (shown (picture_of d s)) → (f : ℕ) → (frame_at s.frames.items f).lent ≡ false
none-lent-at d s h out f = bool-not (frame_at s.frames.items f).lent (λ l. no-lent d s f (frame_at s.frames.items f).page h refl l out.none_lent)

pub none-out : (d : Disks) (s : Store) → IsSound d s → NoneOut (shown (picture_of d s)) → (f : ℕ) → is_busy (frame_at s.frames.items f) ≡ false
none-out d s h out f = λ i. none-pinned s.frames.items (h.shape.counted ∙ out.no_pins.none_out) f i || none-lent-at d s h out f i

pub none-handed : (d : Disks) (s : Store) → IsSound d s → NoneOut (shown (picture_of d s)) → s.lent ≡ 0
none-handed d s h out = sym h.shape.lent_counted ∙ lent-none s.frames.items (none-lent-at d s h out)

-- The writes, one after the other.

with_writes-none : (n : Calls) (o : ℕ → Option File) (first end : ℕ) → end ≤ first → with_writes n o first end ≡ n
with_writes-none n o first zero h = refl
with_writes-none n o first (suc f) h = grind (arith, nat_tests)

with_calls-none : (n : ℕ) (o : ℕ → Option File) (first end : ℕ) → end ≤ first → with_calls n o first end ≡ n
with_calls-none n o first zero h = refl
with_calls-none n o first (suc f) h = grind (arith, nat_tests)

with_writes-more : (n : Calls) (o : ℕ → Option File) (first f : ℕ) → first ≤ f → with_writes n o first (suc f) ≡ with_write (with_writes n o first f) (o f)
with_writes-more n o first f h = grind (arith, nat_tests)

with_calls-more : (n : ℕ) (o : ℕ → Option File) (first f : ℕ) → first ≤ f → with_calls n o first (suc f) ≡ with_call (with_calls n o first f) (o f)
with_calls-more n o first f h = grind (arith, nat_tests)

module _ {M T : Type 0} (m : Ghosts M) (t : Ghosts T) where
  -- what one of the writes leaves
  pub record CleansOne (a b : Parts M T) (f : ℕ) : Type 0 where
    pub clears : Clears a.store b.store
    pub clock : b.store.clock ≡ a.store.clock
    pub asked : Asked m t a b (owed a f) None
    pub evictions : b.store.counts.evictions ≡ a.store.counts.evictions
    pub frames : SameFrames a b
    pub others : (g : ℕ) → g ≢ f → frame_at b.store.frames.items g ≡ frame_at a.store.frames.items g

  owed-kept : (a b : Parts M T) (g : ℕ) → frame_at b.store.frames.items g ≡ frame_at a.store.frames.items g → owed b g ≡ owed a g
  owed-kept a b g e = ap owed_of e

  pub writes-none : (a b : Parts M T) (first end : ℕ) → b.devices ≡ a.devices → b.store.counts ≡ a.store.counts → end ≤ first → Writes m t a b first end
  writes-none a b first end d e h = record {
    calls = ap (λ (x : Devices M T). calls_in (disks_in m t x)) d ∙ sym (with_writes-none (calls_in (disks_of m t a)) (owed a) first end h);
    reads = ap (λ (x : PoolCounts). x.reads) e;
    writes = ap (λ (x : PoolCounts). x.writes) e ∙ sym (with_calls-none a.store.counts.writes (owed a) first end h);
  }

  writes-more : (a b c : Parts M T) (first f : ℕ) → first ≤ f → Writes m t a b first f → Asked m t b c (owed b f) None → owed b f ≡ owed a f → Writes m t a c first (suc f)
  writes-more a b c first f l w k e = record {
    calls = k.calls ∙ ap (with_write (calls_in (disks_of m t b))) e ∙ ap (λ (n : Calls). with_write n (owed a f)) w.calls
        ∙ sym (with_writes-more (calls_in (disks_of m t a)) (owed a) first f l);
    reads = k.reads ∙ w.reads;
    writes = k.writes ∙ ap (with_call b.store.counts.writes) e ∙ ap (λ (n : ℕ). with_call n (owed a f)) w.writes
        ∙ sym (with_calls-more a.store.counts.writes (owed a) first f l);
  }

  pub cleaned-none : (a : Parts M T) (first : ℕ) → IsSound (disks_of m t a) a.store → Cleaned m t a a first first
  cleaned-none a first h = record {
    passes = moved (disks_of m t a) a.store a.store.clock tt h h.shape.clock;
    clears = record { maps = refl; places = refl; pins = refl; frames = refl; out = λ q o. o; reads = refl };
    clock = refl;
    asked = writes-none a a first first refl refl (omega arith);
    evictions = refl;
    frames = frames-stay a a refl refl;
    done = λ g l k. absurd (omega (arith, l, k));
    others = λ g l. refl;
  }

  others-more : (f g : ℕ) (first : ℕ) → first ≤ f → (g < first) ⊎ (suc f ≤ g) → (g ≢ f) × ((g < first) ⊎ (f ≤ g))
  others-more f g first l (inl h) = (λ e. omega (arith, e, h, l), inl h)
  others-more f g first l (inr h) = (λ e. omega (arith, e, h), inr (omega (arith, h)))

  pub cleaned-more : (a b c : Parts M T) (first f : ℕ) → first ≤ f → Cleaned m t a b first f → PassesParts {X = Unit {0}} m t b c (Ok tt) → CleansOne b c f
      → IsClean (frame_at c.store.frames.items f) → Cleaned m t a c first (suc f)
  cleaned-more a b c first f l was passes one clean = record {
    passes = passes-then (disks_of m t a) (disks_of m t b) (disks_of m t c) a.store b.store c.store tt (Ok tt) was.passes passes;
    clears = clears-then a.store b.store c.store was.clears one.clears;
    clock = one.clock ∙ was.clock;
    asked = writes-more a b c first f l was.asked one.asked (owed-kept a b f (was.others f (inr (omega arith))));
    evictions = one.evictions ∙ was.evictions;
    frames = same-then a b c was.frames one.frames;
    done = λ g i k. elim (eqb_tells g f) [
      | inl e ↦ (let P : ℕ → Type 0 = λ j. IsClean (frame_at c.store.frames.items j) in subst P (sym e.1) clean)
      | inr n ↦ (let P : Frame → Type 0 = λ x. IsClean x in subst P (sym (one.others g n.1)) (was.done g i (let apart = n.1 in omega (arith, k, apart))))
    ];
    others = λ g i. let both = others-more f g first l i in one.others g both.0 ∙ was.others g both.1;
  }

  pub cleaned-not : (a b c : Parts M T) (first f : ℕ) (fault : PageFault) → first ≤ f → f < length a.store.frames.items → Cleaned m t a b first f → CleansOne b c f
      → IsFaultOf (owed b f) fault → frame_at c.store.frames.items f ≡ frame_at b.store.frames.items f → StaysWhole m t a c first fault
  cleaned-not a b c first f fault l there was one fails stays =
      let all : (g : ℕ) → frame_at c.store.frames.items g ≡ frame_at b.store.frames.items g = λ g. elim (eqb_tells g f) [
        | inl e ↦ ap (frame_at c.store.frames.items) e.1 ∙ stays ∙ sym (ap (frame_at b.store.frames.items) e.1)
        | inr n ↦ one.others g n.1
      ] in
      let owes : owed b f ≡ owed a f = owed-kept a b f (was.others f (inr (omega arith))) in record {
        frame = f;
        was_to_go = l;
        in_use = there;
        fails = (let P : Option File → Type 0 = λ o. IsFaultOf o fault in subst P owes fails);
        asked = writes-more a b c first f l was.asked one.asked owes;
        frames = same-then a b c was.frames one.frames;
        written = λ g i k. owed-kept b c g (all g) ∙ owed-none (frame_at b.store.frames.items g) (was.done g i k);
        owing = λ g i. owed-kept b c g (all g) ∙ owed-kept a b g (was.others g i);
      }

  page-below : (b : Parts M T) (n : ℕ) (fr : FramesSeen) → Resizes b.store.frames fr n → (g : ℕ) → g < n → (frame_at fr.items g).page ≡ page_in b g
  page-below b n fr r g l = elim (le_or_lt (length b.store.frames.items) g) [
    | inl h ↦ r.none g h ∙ sym (ap (λ (x : Frame). x.page) (beyond b.store.frames.items g h))
    | inr h ↦ ap (λ (x : Frame). x.page) (r.kept g l h)
  ]

  owed-below : (b : Parts M T) (n : ℕ) (fr : FramesSeen) → Resizes b.store.frames fr n → (g : ℕ) → g < n → owed_of (frame_at fr.items g) ≡ owed b g
  owed-below b n fr r g l = elim (le_or_lt (length b.store.frames.items) g) [
    | inl h ↦ ap (owed_by (frame_at fr.items g).dirty) (r.none g h) ∙ sym (ap owed_of (beyond b.store.frames.items g h))
    | inr h ↦ ap owed_of (r.kept g l h)
  ]

  page-above : (b : Parts M T) (n : ℕ) (fr : FramesSeen) → Resizes b.store.frames fr n → (g : ℕ) → n ≤ g → (frame_at fr.items g).page ≡ None
  page-above b n fr r g l = ap (λ (x : Frame). x.page) (beyond fr.items g (let c = r.count in omega (arith, c, l)))

  -- the frames behind it
  pub keeps-below : (a b : Parts M T) (n end : ℕ) (fr : FramesSeen) → Cleaned m t a b n end → Resizes b.store.frames fr n
      → KeepsBelow a (record b { store = record b.store { frames = fr } }) n
  keeps-below a b n end fr was r = record {
    stay = λ q i l. let one = was.frames.stay q i in
        let low : frame_of b q < n = (let P : ℕ → Type 0 = λ k. k < n in subst P (sym one.1) l) in
        (ap (is_key_of (key q)) (page-below b n fr r (frame_of b q) low) ∙ one.0, one.1);
    gone = λ q i l. let one = was.frames.stay q i in
        ap (is_key_of (key q)) (page-above b n fr r (frame_of b q) (let e = one.1 in omega (arith, e, l)));
    none_came = λ q o. elim (le_or_lt n (frame_of b q)) [
      | inl l ↦ ap (is_key_of (key q)) (page-above b n fr r (frame_of b q) l)
      | inr l ↦ ap (is_key_of (key q)) (page-below b n fr r (frame_of b q) l) ∙ was.frames.none_came q o
    ];
    frames = λ g l. page-below b n fr r g l ∙ was.frames.frames g;
    owing = λ g l. owed-below b n fr r g l ∙ owed-kept a b g (was.others g (inl l));
    empty = page-above b n fr r;
  }

  -- what a smaller number of frames finds behind the writes
  pub record Ready (b : Parts M T) (n : ℕ) : Type 0 where
    pub whole : IsSound (disks_of m t b) b.store
    pub pins : b.store.pins ≡ 0
    pub lent : b.store.lent ≡ 0
    pub most : n ≤ b.store.frames.max
    pub free : (f : ℕ) → is_busy (frame_at b.store.frames.items f) ≡ false
    pub clean : (f : ℕ) → n ≤ f → IsClean (frame_at b.store.frames.items f)

  pub ready : (a b : Parts M T) (n : ℕ) → IsSound (disks_of m t a) a.store → NoneOut (state_of m t a) → n ≤ a.store.frames.max → Cleaned m t a b n (current_of a) → Ready b n
  ready a b n h out most was =
      let d : Disks = disks_of m t a in record {
        whole = was.passes.whole;
        pins = was.clears.pins ∙ out.no_pins.none_out;
        lent = was.passes.stock.lent ∙ none-handed d a.store h out;
        most = (let k = was.passes.stock.max in omega (arith, k, most));
        free = λ f. sym (was.passes.whole.shape.clock.out f) ∙ ap (λ k. is_out k f) was.clock ∙ h.shape.clock.out f ∙ none-out d a.store h out f;
        clean = λ f l. elim (le_or_lt (current_of a) f) [
          | inl k ↦ no-frame-clean (frame_at b.store.frames.items f) (beyond b.store.frames.items f (let e = was.clears.frames in omega (arith, e, k)))
          | inr k ↦ was.done f l k
        ];
      }

  -- a larger number finds all as it is
  pub ready-now : (a : Parts M T) (n : ℕ) → IsSound (disks_of m t a) a.store → NoneOut (state_of m t a) → n ≤ a.store.frames.max → current_of a ≤ n → Ready a n
  ready-now a n h out most large =
      let d : Disks = disks_of m t a in record {
        whole = h;
        pins = out.no_pins.none_out;
        lent = none-handed d a.store h out;
        most = most;
        free = none-out d a.store h out;
        clean = λ f l. no-frame-clean (frame_at a.store.frames.items f) (beyond a.store.frames.items f (omega (arith, large, l)));
      }

  pub ready-sound : (b : Parts M T) (n : ℕ) (fr : FramesSeen) → Ready b n → 16 ≤ n → Resizes b.store.frames fr n → IsSound (disks_of m t b) (record b.store { frames = fr })
  ready-sound b n fr h least r = resized-sound (disks_of m t b) b.store fr n h.whole h.pins h.lent least h.most r h.free h.clean

  pub ready-shown : (b : Parts M T) (n : ℕ) (fr : FramesSeen) → Ready b n → Resizes b.store.frames fr n
      → state_of m t (record b { store = record b.store { frames = fr } }) ≡ with_current (state_of m t b) n
  ready-shown b n fr h r = resized-shown (disks_of m t b) b.store fr n h.whole r h.free h.clean

-- a step that passes and answers Ok leaves the space as it was
pub passes-same : {X : Type 0} (d e : Disks) (s z : Store) (x : X) → Passes d s e z (Ok x) → shown (picture_of e z) ≡ shown (picture_of d s)
passes-same d e s z x h =
    h.same.after
    ∙ ap (with_counts (shown (picture_of d s))) (sym (ap (λ (k : Space). k.counts) h.same.after) ∙ h.counts)
