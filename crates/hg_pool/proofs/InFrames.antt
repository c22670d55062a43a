-- What the marks and chains of a pool's frames say of the frames, and what a change of one of them leaves.
use Rattle.std.specs.Prelude.{◌≡◌, ◌≢◌, ℕ, zero, suc, ◌+◌, ◌<◌, ◌||◌, ◌^◌, Bool, true, false, not, List, [], ◌∷◌, length, if◌then◌else◌, slice_index_or, slice_set, vec_capacity}
use Rattle.std.proofs.Common.{sym, ◌∙◌, ap, subst, refl, arith, inl, inr, length-set}
use Rattle.std.proofs.lemmas.Bool.{false≢true}
use Rattle.std.proofs.lemmas.Bool.Decides.{eqb_tells}
use Rattle.std.proofs.lemmas.List.{get_or-set_same, get_or-set_other}
use Rattle.hg_raw.specs.Frames.{RegionId, RegionSeen, ChainSeen, numbers, is_in, bytes_of, is_home, home_bytes}
use Rattle.hg_pool.specs.Seen.{Frame, FramesSeen, IsFrames, no_mark, mark_at, bytes_at, frame_seen, seen_from, frames_seen, is_away}
use Rattle.hg_pool.specs.Picture.{frame_at, no_frame}
use Rattle.hg_pool.specs.Clocking.{is_busy}
use Rattle.hg_pool.specs.Keeping.{set_item}
use Rattle.hg_pool.specs.declared.frames.Mark.{Mark}
use Rattle.hg_pool.specs.declared.frames.Frames.TheInside.{Inside}

no_less : (k f : ℕ) → f < k → k ≢ f
no_less k f l e = absurd (omega (arith, l, e))

suc_apart : (k f g : ℕ) → k + suc g ≡ f → k ≢ f
suc_apart k f g e d = absurd (omega (arith, e, d))

next_sum : (k f g : ℕ) → k + suc g ≡ f → suc k + g ≡ f
next_sum k f g e = omega (arith, e)

last_sum : (k f : ℕ) → k + zero ≡ f → k ≡ f
last_sum k f e = omega (arith, e)

pub not-or : (s t : Bool) → (s || t) ≡ false → (s ≡ false) × (t ≡ false)
not-or false t e = (refl, e)
not-or true t e = absurd (false≢true (sym e))

-- The frames that marks say.

pub seen-length : (r : RegionSeen) (c : ChainSeen) (k : ℕ) (ms : List Mark) → length (seen_from r c k ms) ≡ length ms
seen-length r c k [] = refl
seen-length r c k (m ∷ ms) = ap suc (seen-length r c (suc k) ms)

seen-at : (r : RegionSeen) (c : ChainSeen) (k f i : ℕ) (ms : List Mark) → k + i ≡ f → i < length ms → slice_index_or (seen_from r c k ms) i no_frame ≡ frame_seen r c f (mark_at ms i)
seen-at r c k f i [] e l = absurd (omega (arith, l))
seen-at r c k f zero (m ∷ ms) e l = ap (λ (j : ℕ). frame_seen r c j m) (last_sum k f e)
seen-at r c k f (suc i) (m ∷ ms) e l = seen-at r c (suc k) f i ms (next_sum k f i e) (omega (arith, l))

-- what a mark says and a frame shows is the same, also of a frame that is not in use
pub field-at : {X : Type 0} (g : Frame → X) (h : Mark → X) (r : RegionSeen) (c : ChainSeen) (k i : ℕ) (ms : List Mark)
    → g no_frame ≡ h no_mark → ((j : ℕ) (m : Mark) → g (frame_seen r c j m) ≡ h m) → g (slice_index_or (seen_from r c k ms) i no_frame) ≡ h (mark_at ms i)
field-at g h r c k i [] none some = none
field-at g h r c k zero (m ∷ ms) none some = some k m
field-at g h r c k (suc i) (m ∷ ms) none some = field-at g h r c (suc k) i ms none some

module _ (i : Inside) (v : FramesSeen) (e : frames_seen i ≡ v) where
  pub count-is : length v.items ≡ length i.marks.items
  count-is = ap (λ (w : FramesSeen). length w.items) (sym e) ∙ seen-length i.region i.out 0 i.marks.items

  pub there-is : (f : ℕ) → f < length v.items → f < length i.marks.items
  there-is f l = let k = count-is in omega (arith, l, k)

  pub frame-is : (f : ℕ) → f < length v.items → frame_at v.items f ≡ frame_seen i.region i.out f (mark_at i.marks.items f)
  frame-is f l = ap (λ (w : FramesSeen). frame_at w.items f) (sym e) ∙ seen-at i.region i.out 0 f f i.marks.items (omega arith) (there-is f l)

  pub page-is : (f : ℕ) → (frame_at v.items f).page ≡ (mark_at i.marks.items f).page
  page-is f = ap (λ (w : FramesSeen). (frame_at w.items f).page) (sym e) ∙ field-at (λ x. x.page) (λ m. m.page) i.region i.out 0 f i.marks.items refl (λ j m. refl)

  pub dirty-is : (f : ℕ) → (frame_at v.items f).dirty ≡ (mark_at i.marks.items f).dirty
  dirty-is f = ap (λ (w : FramesSeen). (frame_at w.items f).dirty) (sym e) ∙ field-at (λ x. x.dirty) (λ m. m.dirty) i.region i.out 0 f i.marks.items refl (λ j m. refl)

  pub pinned-is : (f : ℕ) → (frame_at v.items f).pinned ≡ (mark_at i.marks.items f).pinned
  pinned-is f = ap (λ (w : FramesSeen). (frame_at w.items f).pinned) (sym e) ∙ field-at (λ x. x.pinned) (λ m. m.pinned) i.region i.out 0 f i.marks.items refl (λ j m. refl)

  pub lent-is : (f : ℕ) → (frame_at v.items f).lent ≡ (mark_at i.marks.items f).lent
  lent-is f = ap (λ (w : FramesSeen). (frame_at w.items f).lent) (sym e) ∙ field-at (λ x. x.lent) (λ m. m.lent) i.region i.out 0 f i.marks.items refl (λ j m. refl)

  pub away-is : (f : ℕ) → is_busy (frame_at v.items f) ≡ is_away (mark_at i.marks.items f)
  away-is f = λ j. pinned-is f j || lent-is f j

  pub max-is : v.max ≡ i.region.region.frames
  max-is = ap (λ (w : FramesSeen). w.max) (sym e)

  pub region-is : v.region ≡ i.region.region
  region-is = ap (λ (w : FramesSeen). w.region) (sym e)

  module _ (is : IsFrames i) where
    -- a frame that is in use is one of the region
    pub below-max : (f : ℕ) → f < length v.items → f < i.region.region.frames
    below-max f l = let k = count-is in let m = is.inside in omega (arith, l, k, m)

    pub below-word : (f : ℕ) → f < length v.items → f < 2 ^ 32
    below-word f l = let k = below-max f l in let m = is.few in omega (arith, k, m)

    -- a frame that is not out is at home, and its bytes are those that it has there
    pub home-is : (f : ℕ) → f < length v.items → is_busy (frame_at v.items f) ≡ false → is_home i.region f ≡ true
    home-is f l free = is.home f (below-max f l) ∙ ap not (sym (away-is f) ∙ free)

    pub home-bytes-is : (f : ℕ) → f < length v.items → is_busy (frame_at v.items f) ≡ false → (frame_at v.items f).bytes ≡ home_bytes i.region f
    home-bytes-is f l free =
        let both = not-or (mark_at i.marks.items f).pinned (mark_at i.marks.items f).lent (sym (away-is f) ∙ free) in
        ap (λ (x : Frame). x.bytes) (frame-is f l)
        ∙ ap (λ b. if b then bytes_of i.out.frames f else (if (mark_at i.marks.items f).lent then [] else home_bytes i.region f)) both.0
        ∙ ap (λ b. if b then [] else home_bytes i.region f) both.1

    -- a pinned frame is in the chain of those, and its bytes are those that it has there
    pub has-is : (f : ℕ) → (frame_at v.items f).pinned ≡ true → is_in f (numbers i.out.frames) ≡ true
    has-is f out = is.out f ∙ sym (pinned-is f) ∙ out

    pub out-bytes-is : (f : ℕ) → f < length v.items → (frame_at v.items f).pinned ≡ true → (frame_at v.items f).bytes ≡ bytes_of i.out.frames f
    out-bytes-is f l out =
        ap (λ (x : Frame). x.bytes) (frame-is f l)
        ∙ ap (λ b. if b then bytes_of i.out.frames f else (if (mark_at i.marks.items f).lent then [] else home_bytes i.region f)) (sym (pinned-is f) ∙ out)

-- One frame that changed.

-- m is noted of the frame f, and each other frame is where it was, with its bytes
pub record Changes (i e : Inside) (f : ℕ) (m : Mark) : Type 0 where
  pub marks : e.marks.items ≡ slice_set i.marks.items f m
  pub room : vec_capacity e.marks ≡ vec_capacity i.marks
  pub region : e.region.region ≡ i.region.region
  pub same : e.out.region ≡ i.out.region
  pub others_in : (k : ℕ) → k ≢ f → is_in k (numbers e.out.frames) ≡ is_in k (numbers i.out.frames)
  pub others_held : (k : ℕ) → k ≢ f → bytes_of e.out.frames k ≡ bytes_of i.out.frames k
  pub others_home : (k : ℕ) → k ≢ f → is_home e.region k ≡ is_home i.region k
  pub others_bytes : (k : ℕ) → k ≢ f → home_bytes e.region k ≡ home_bytes i.region k
  pub here_in : is_in f (numbers e.out.frames) ≡ m.pinned
  pub here_home : is_home e.region f ≡ not (is_away m)
  pub here_apart : m.pinned ≡ true → m.lent ≡ false
  pub here_whole : is_home e.region f ≡ true → length (home_bytes e.region f) ≡ 4096
  pub here_held : m.pinned ≡ true → length (bytes_of e.out.frames f) ≡ 4096

module _ (i e : Inside) (f : ℕ) (m : Mark) (c : Changes i e f m) where
  bytes-agree : (k : ℕ) (x : Mark) → k ≢ f → bytes_at e.region e.out k x ≡ bytes_at i.region i.out k x
  bytes-agree k x n = λ j. if x.pinned then c.others_held k n j else (if x.lent then [] else c.others_bytes k n j)

  seen-agree : (k : ℕ) (x : Mark) → k ≢ f → frame_seen e.region e.out k x ≡ frame_seen i.region i.out k x
  seen-agree k x n = λ j. record { bytes = bytes-agree k x n j; page = x.page; dirty = x.dirty; pinned = x.pinned; lent = x.lent }

  beyond : (k : ℕ) (ms : List Mark) → f < k → seen_from e.region e.out k ms ≡ seen_from i.region i.out k ms
  beyond k [] l = refl
  beyond k (x ∷ ms) l = λ j. seen-agree k x (no_less k f l) j ∷ beyond (suc k) ms (omega (arith, l)) j

  changed-from : (k g : ℕ) (ms : List Mark) → k + g ≡ f → g < length ms
      → seen_from e.region e.out k (slice_set ms g m) ≡ slice_set (seen_from i.region i.out k ms) g (frame_seen e.region e.out f m)
  changed-from k g [] s l = absurd (omega (arith, l))
  changed-from k zero (x ∷ ms) s l = λ j. frame_seen e.region e.out (last_sum k f s j) m ∷ beyond (suc k) ms (omega (arith, s)) j
  changed-from k (suc g) (x ∷ ms) s l = λ j. seen-agree k x (suc_apart k f g s) j ∷ changed-from (suc k) g ms (next_sum k f g s) (omega (arith, l)) j

  pub changed-seen : (v : FramesSeen) (x : Frame) → frames_seen i ≡ v → f < length i.marks.items → frame_seen e.region e.out f m ≡ x → frames_seen e ≡ set_item v f x
  changed-seen v x eq l is =
      (λ j. record {
        items = (ap (seen_from e.region e.out 0) c.marks ∙ changed-from 0 f i.marks.items (omega arith) l ∙ ap (slice_set (seen_from i.region i.out 0 i.marks.items) f) is) j;
        max = (c.region j).frames;
        region = c.region j;
      }) ∙ ap (λ (w : FramesSeen). set_item w f x) eq

  mark-here : f < length i.marks.items → mark_at e.marks.items f ≡ m
  mark-here l = ap (λ (ms : List Mark). mark_at ms f) c.marks ∙ get_or-set_same i.marks.items f m no_mark l

  mark-other : (k : ℕ) → k ≢ f → mark_at e.marks.items k ≡ mark_at i.marks.items k
  mark-other k n = ap (λ (ms : List Mark). mark_at ms k) c.marks ∙ get_or-set_other i.marks.items f k m no_mark n

  pub changed-is : IsFrames i → f < length i.marks.items → IsFrames e
  changed-is is l = record {
    same = c.same ∙ is.same ∙ sym c.region;
    few = subst (λ (r : RegionId). r.frames < 2 ^ 32) (sym c.region) is.few;
    inside = (let n : length e.marks.items ≡ length i.marks.items = ap (λ (ms : List Mark). length ms) c.marks ∙ length-set i.marks.items f m in
        let r : e.region.region.frames ≡ i.region.region.frames = ap (λ (r : RegionId). r.frames) c.region in let k = is.inside in omega (arith, n, r, k));
    room = (let r : e.region.region.frames ≡ i.region.region.frames = ap (λ (r : RegionId). r.frames) c.region in let k = is.room in let w = c.room in omega (arith, r, k, w));
    out = λ k. elim (eqb_tells k f) [
      | inl h ↦ ap (λ (n : ℕ). is_in n (numbers e.out.frames)) h.1 ∙ c.here_in ∙ sym (ap (λ (x : Mark). x.pinned) (ap (mark_at e.marks.items) h.1 ∙ mark-here l))
      | inr n ↦ c.others_in k n.1 ∙ is.out k ∙ sym (ap (λ (x : Mark). x.pinned) (mark-other k n.1))
    ];
    home = λ k below. elim (eqb_tells k f) [
      | inl h ↦ ap (is_home e.region) h.1 ∙ c.here_home ∙ sym (ap (λ (x : Mark). not (is_away x)) (ap (mark_at e.marks.items) h.1 ∙ mark-here l))
      | inr n ↦ c.others_home k n.1 ∙ is.home k (subst (λ (r : RegionId). k < r.frames) c.region below) ∙ sym (ap (λ (x : Mark). not (is_away x)) (mark-other k n.1))
    ];
    apart = λ k. elim (eqb_tells k f) [
      | inl h ↦ subst (λ (x : Mark). x.pinned ≡ true → x.lent ≡ false) (sym (ap (mark_at e.marks.items) h.1 ∙ mark-here l)) c.here_apart
      | inr n ↦ subst (λ (x : Mark). x.pinned ≡ true → x.lent ≡ false) (sym (mark-other k n.1)) (is.apart k)
    ];
    whole = λ k. elim (eqb_tells k f) [
      | inl h ↦ subst (λ (n : ℕ). is_home e.region n ≡ true → length (home_bytes e.region n) ≡ 4096) (sym h.1) c.here_whole
      | inr n ↦ (λ home. ap (λ (b : List ℕ). length b) (c.others_bytes k n.1) ∙ is.whole k (sym (c.others_home k n.1) ∙ home))
    ];
    pinned_whole = λ k. elim (eqb_tells k f) [
      | inl h ↦ (λ out. ap (λ (n : ℕ). length (bytes_of e.out.frames n)) h.1 ∙ c.here_held (sym (ap (λ (x : Mark). x.pinned) (ap (mark_at e.marks.items) h.1 ∙ mark-here l)) ∙ out))
      | inr n ↦ (λ out. ap (λ (b : List ℕ). length b) (c.others_held k n.1) ∙ is.pinned_whole k (sym (ap (λ (x : Mark). x.pinned) (mark-other k n.1)) ∙ out))
    ];
  }
