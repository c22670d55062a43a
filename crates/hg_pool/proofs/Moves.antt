-- A frame of a pool that goes from one owner of memory to another.
use Rattle.std.specs.Prelude.{◌≡◌, ◌≢◌, ℕ, zero, suc, ◌<◌, ◌≤◌, ◌||◌, ◌&&◌, ◌==◌, Bool, true, false, not, List, [], ◌∷◌, ◌++◌, length, take, replicate, ◌⊎◌, ◌^◌, Option, None, Some, if◌then◌else◌, slice_index_or, slice_set, is_some, vec_capacity}
use Rattle.std.proofs.Common.{sym, ◌∙◌, ap, subst, refl, arith, inl, inr}
use Rattle.std.proofs.lemmas.Bool.{false≢true}
use Rattle.std.proofs.lemmas.Bool.Decides.{nat_tests}
use Rattle.std.proofs.lemmas.Grind.{common_steps}
use Rattle.std.proofs.lemmas.List.{get_or-set_same, get_or-set_other, set-get_or}
use Rattle.hg_raw.specs.Frames.{RegionId, RegionSeen, ChainSeen, numbers, is_in, bytes_of, is_home, home_bytes, bytes_or_none, taken, given_back}
use Rattle.hg_raw.specs.Frames as raw
use Rattle.hg_base.specs.Lending.{refit}
use Rattle.hg_pool.specs.Seen.{Frame, FramesSeen, IsFrames, no_mark, mark_at, frame_seen, frames_seen, is_away}
use Rattle.hg_pool.specs.Picture.{frame_at, no_frame}
use Rattle.hg_pool.specs.Clocking.{is_busy}
use Rattle.hg_pool.specs.Keeping.{set_item, write_item, written, new_frame, Resizes}
use Rattle.hg_base.specs.Space.{zero_page}
use Rattle.hg_base.specs.declared.PageId.{PageId}
use Rattle.hg_pool.specs.declared.frames.Mark.{Mark}
use Rattle.hg_pool.specs.declared.frames.Frames.TheInside.{Inside}
use Rattle.hg_pool.proofs.InFrames.{Changes, changed-is, changed-seen, not-or, count-is, there-is, frame-is, page-is, dirty-is, pinned-is, lent-is, away-is, max-is, region-is, home-bytes-is, out-bytes-is}

pub mark-at-here : (marks : List Mark) (f : ℕ) (x : Mark) → f < length marks → x ≡ slice_index_or marks f x → x ≡ mark_at marks f
mark-at-here marks f x h e = grind (arith, nat_tests, common_steps)

pub mark-not-there : (marks : List Mark) (f : ℕ) → length marks ≤ f → no_mark ≡ mark_at marks f
mark-not-there [] f l = refl
mark-not-there (m ∷ ms) zero l = absurd (omega (arith, l))
mark-not-there (m ∷ ms) (suc f) l = mark-not-there ms f (omega (arith, l))

-- n is at most f, or f is below n
pub le_or_lt : (n f : ℕ) → (n ≤ f) ⊎ (f < n)
le_or_lt n f = grind arith

-- Frames of a region.

set-none : {X : Type 0} (l : List (Option X)) (f : ℕ) → ◌≡◌ {A = Option X} (slice_index_or (slice_set l f None) f None) None
set-none [] f = refl
set-none (x ∷ xs) zero = refl
set-none (x ∷ xs) (suc f) = set-none xs f

pub taken-here : (r : RegionSeen) (f : ℕ) → is_home (taken r f) f ≡ false
taken-here r f = ap is_some (set-none r.home f)

pub taken-home : (r : RegionSeen) (f k : ℕ) → k ≢ f → is_home (taken r f) k ≡ is_home r k
taken-home r f k n = ap is_some (get_or-set_other r.home f k None None n)

pub taken-bytes : (r : RegionSeen) (f k : ℕ) → k ≢ f → home_bytes (taken r f) k ≡ home_bytes r k
taken-bytes r f k n = ap bytes_or_none (get_or-set_other r.home f k None None n)

pub back-home : (r : RegionSeen) (f k : ℕ) (b : List ℕ) → k ≢ f → is_home (given_back r ((f, b) ∷ [])) k ≡ is_home r k
back-home r f k b n = ap is_some (get_or-set_other r.home f k (Some b) None n)

pub back-bytes : (r : RegionSeen) (f k : ℕ) (b : List ℕ) → k ≢ f → home_bytes (given_back r ((f, b) ∷ [])) k ≡ home_bytes r k
back-bytes r f k b n = ap bytes_or_none (get_or-set_other r.home f k (Some b) None n)

-- Frames of a chain.

bytes-none : (fs : List raw.Frame) (k : ℕ) → is_in k (numbers fs) ≡ false → bytes_of fs k ≡ []
bytes-none [] k h = refl
bytes-none (x ∷ xs) k h =
    let both = not-or (x.0 == k) (is_in k (numbers xs)) h in
    ap (λ b. if b then x.1 else bytes_of xs k) both.0 ∙ bytes-none xs k both.1

is-not : (f k : ℕ) → k ≢ f → (f == k) ≡ false
is-not f k n = grind (arith, nat_tests)

is-self : (f : ℕ) → (f == f) ≡ true
is-self f = grind (arith, nat_tests)

or-false : (t : Bool) → (t || false) ≡ t
or-false true = refl
or-false false = refl

pub or-true : (t : Bool) → (t || true) ≡ true
or-true true = refl
or-true false = refl

and-true : (t : Bool) → (t && true) ≡ t
and-true true = refl
and-true false = refl

and-false : (t : Bool) → (t && false) ≡ false
and-false true = refl
and-false false = refl

one-not : (f k : ℕ) → k ≢ f → is_in k (f ∷ []) ≡ false
one-not f k n = ap (λ b. b || false) (is-not f k n)

pub one-is : (f : ℕ) → is_in f (f ∷ []) ≡ true
one-is f = ap (λ b. b || false) (is-self f)

choose-first : (b : Bool) (x y : List ℕ) → (b ≡ false → y ≡ x) → (if b then x else y) ≡ x
choose-first true x y h = refl
choose-first false x y h = h refl

-- what a call says of a chain to which a chain of the frame f alone is joined
pub record Joins (old new : ChainSeen) (f : ℕ) (b : List ℕ) : Type 0 where
  pub region : new.region ≡ old.region
  pub has : (k : ℕ) → is_in k (numbers new.frames) ≡ (is_in k (numbers old.frames) || is_in k (f ∷ []))
  pub bytes : (k : ℕ) → bytes_of new.frames k ≡ (if is_in k (numbers old.frames) then bytes_of old.frames k else bytes_of ((f, b) ∷ []) k)

-- and from which the frame f was taken
pub record Splits (old new : ChainSeen) (f : ℕ) : Type 0 where
  pub region : new.region ≡ old.region
  pub has : (k : ℕ) → is_in k (numbers new.frames) ≡ (is_in k (numbers old.frames) && not (k == f))
  pub bytes : (k : ℕ) → k ≢ f → bytes_of new.frames k ≡ bytes_of old.frames k

-- a frame with the fields of a mark
frame-of : (x y : Frame) → x.bytes ≡ y.bytes → x.page ≡ y.page → x.dirty ≡ y.dirty → x.pinned ≡ y.pinned → x.lent ≡ y.lent → x ≡ y
frame-of x y a b c d e = λ j. record { bytes = a j; page = b j; dirty = c j; pinned = d j; lent = e j }

-- what is known before a call on the frame f, whose mark is m
pub record Knows (i : Inside) (v : FramesSeen) (f : ℕ) (m : Mark) : Type 0 where
  pub view : frames_seen i ≡ v
  pub is : IsFrames i
  pub there : f < length v.items
  pub mark : m ≡ mark_at i.marks.items f

-- what holds behind it: the frames are as before, but for x
pub record Leads (e : Inside) (v : FramesSeen) (f : ℕ) (x : Frame) : Type 0 where
  pub is : IsFrames e
  pub view : frames_seen e ≡ set_item v f x

module _ (i e : Inside) (v : FramesSeen) (f : ℕ) (m : Mark) (k : Knows i v f m) where
  leads : (x : Frame) (n : Mark) → Changes i e f n → frame_seen e.region e.out f n ≡ x → Leads e v f x
  leads x n c s = record { is = changed-is i e f n c k.is (there-is i v k.view f k.there); view = changed-seen i e f n c v x k.view (there-is i v k.view f k.there) s }

  pub m-page : m.page ≡ (frame_at v.items f).page
  m-page = ap (λ (n : Mark). n.page) k.mark ∙ sym (page-is i v k.view f)

  pub m-dirty : m.dirty ≡ (frame_at v.items f).dirty
  m-dirty = ap (λ (n : Mark). n.dirty) k.mark ∙ sym (dirty-is i v k.view f)

  m-pinned : m.pinned ≡ (frame_at v.items f).pinned
  m-pinned = ap (λ (n : Mark). n.pinned) k.mark ∙ sym (pinned-is i v k.view f)

  m-lent : m.lent ≡ (frame_at v.items f).lent
  m-lent = ap (λ (n : Mark). n.lent) k.mark ∙ sym (lent-is i v k.view f)

  -- only what is noted of the page and its bytes changed
  pub noted : (n : Mark) → e.region ≡ i.region → e.out ≡ i.out → e.marks.items ≡ slice_set i.marks.items f n → vec_capacity e.marks ≡ vec_capacity i.marks
      → n.pinned ≡ m.pinned → n.lent ≡ m.lent → Leads e v f (record (frame_at v.items f) { page = n.page; dirty = n.dirty })
  noted n er eo em ec ep el =
      let l : f < length i.marks.items = there-is i v k.view f k.there in
      let y : Mark = mark_at i.marks.items f in
      let np : n.pinned ≡ y.pinned = ep ∙ ap (λ (n : Mark). n.pinned) k.mark in
      let nl : n.lent ≡ y.lent = el ∙ ap (λ (n : Mark). n.lent) k.mark in
      leads (record (frame_at v.items f) { page = n.page; dirty = n.dirty }) n
      (record {
        marks = em;
        room = ec;
        region = ap (λ (r : RegionSeen). r.region) er;
        same = ap (λ (c : ChainSeen). c.region) eo;
        others_in = λ j d. ap (λ (c : ChainSeen). is_in j (numbers c.frames)) eo;
        others_held = λ j d. ap (λ (c : ChainSeen). bytes_of c.frames j) eo;
        others_home = λ j d. ap (λ (r : RegionSeen). is_home r j) er;
        others_bytes = λ j d. ap (λ (r : RegionSeen). home_bytes r j) er;
        here_in = ap (λ (c : ChainSeen). is_in f (numbers c.frames)) eo ∙ k.is.out f ∙ sym np;
        here_home = ap (λ (r : RegionSeen). is_home r f) er ∙ k.is.home f (let a = k.is.inside in omega (arith, l, a)) ∙ (λ j. not (sym np j || sym nl j));
        here_apart = λ p. nl ∙ k.is.apart f (sym np ∙ p);
        here_whole = λ h. ap (λ (r : RegionSeen). length (home_bytes r f)) er ∙ k.is.whole f (sym (ap (λ (r : RegionSeen). is_home r f) er) ∙ h);
        here_held = λ p. ap (λ (c : ChainSeen). length (bytes_of c.frames f)) eo ∙ k.is.pinned_whole f (sym np ∙ p);
      })
      (frame-of (frame_seen e.region e.out f n) (record (frame_at v.items f) { page = n.page; dirty = n.dirty })
      ((λ j. if np j then bytes_of (eo j).frames f else (if nl j then [] else home_bytes (er j) f)) ∙ sym (ap (λ (x : Frame). x.bytes) (frame-is i v k.view f k.there)))
      refl refl (ep ∙ m-pinned) (el ∙ m-lent))

  -- a frame at home went into the chain of the pinned ones
  pub held : is_busy (frame_at v.items f) ≡ false → (b : List ℕ) → b ≡ home_bytes i.region f → length b ≡ 4096 → e.region ≡ taken i.region f → Joins i.out e.out f b
      → e.marks.items ≡ slice_set i.marks.items f (record m { pinned = true }) → vec_capacity e.marks ≡ vec_capacity i.marks
      → Leads e v f (record (frame_at v.items f) { pinned = true })
  held free b eb size er join em ec =
      let both = not-or (frame_at v.items f).pinned (frame_at v.items f).lent free in
      let away : is_in f (numbers i.out.frames) ≡ false = k.is.out f ∙ sym (pinned-is i v k.view f) ∙ both.0 in
      let out : is_home e.region f ≡ false = ap (λ (r : RegionSeen). is_home r f) er ∙ taken-here i.region f in
      let held : bytes_of e.out.frames f ≡ b = join.bytes f ∙ ap (λ t. if t then bytes_of i.out.frames f else bytes_of ((f, b) ∷ []) f) away ∙ ap (λ t. if t then b else []) (is-self f) in
      leads (record (frame_at v.items f) { pinned = true }) (record m { pinned = true })
      (record {
        marks = em;
        room = ec;
        region = ap (λ (r : RegionSeen). r.region) er;
        same = join.region;
        others_in = λ j d. join.has j ∙ ap (λ t. is_in j (numbers i.out.frames) || t) (one-not f j d) ∙ or-false (is_in j (numbers i.out.frames));
        others_held = λ j d. join.bytes j ∙ choose-first (is_in j (numbers i.out.frames)) (bytes_of i.out.frames j) (bytes_of ((f, b) ∷ []) j)
            (λ n. ap (λ t. if t then b else []) (is-not f j d) ∙ sym (bytes-none i.out.frames j n));
        others_home = λ j d. ap (λ (r : RegionSeen). is_home r j) er ∙ taken-home i.region f j d;
        others_bytes = λ j d. ap (λ (r : RegionSeen). home_bytes r j) er ∙ taken-bytes i.region f j d;
        here_in = join.has f ∙ ap (λ t. is_in f (numbers i.out.frames) || t) (one-is f) ∙ or-true (is_in f (numbers i.out.frames));
        here_home = out;
        here_apart = λ p. m-lent ∙ both.1;
        here_whole = λ h. absurd (false≢true (sym out ∙ h));
        here_held = λ p. ap (λ (x : List ℕ). length x) held ∙ size;
      })
      (frame-of (frame_seen e.region e.out f (record m { pinned = true })) (record (frame_at v.items f) { pinned = true })
      (held ∙ eb ∙ sym (home-bytes-is i v k.view k.is f k.there free)) m-page m-dirty refl m-lent)

  -- a pinned frame went home
  pub let-home : (frame_at v.items f).pinned ≡ true → (b : List ℕ) → b ≡ bytes_of i.out.frames f → Splits i.out e.out f → e.region ≡ given_back i.region ((f, b) ∷ [])
      → is_home e.region f ≡ true → home_bytes e.region f ≡ b
      → e.marks.items ≡ slice_set i.marks.items f (record m { pinned = false }) → vec_capacity e.marks ≡ vec_capacity i.marks
      → Leads e v f (record (frame_at v.items f) { pinned = false })
  let-home pinned b eb split er home bytes em ec =
      let was : (mark_at i.marks.items f).pinned ≡ true = sym (pinned-is i v k.view f) ∙ pinned in
      let free : m.lent ≡ false = ap (λ (n : Mark). n.lent) k.mark ∙ k.is.apart f was in
      leads (record (frame_at v.items f) { pinned = false }) (record m { pinned = false })
      (record {
        marks = em;
        room = ec;
        region = ap (λ (r : RegionSeen). r.region) er;
        same = split.region;
        others_in = λ j d. split.has j ∙ ap (λ t. is_in j (numbers i.out.frames) && not t) (is-not j f (λ s. d (sym s))) ∙ and-true (is_in j (numbers i.out.frames));
        others_held = split.bytes;
        others_home = λ j d. ap (λ (r : RegionSeen). is_home r j) er ∙ back-home i.region f j b d;
        others_bytes = λ j d. ap (λ (r : RegionSeen). home_bytes r j) er ∙ back-bytes i.region f j b d;
        here_in = split.has f ∙ ap (λ t. is_in f (numbers i.out.frames) && not t) (is-self f) ∙ and-false (is_in f (numbers i.out.frames));
        here_home = home ∙ sym (ap not free);
        here_apart = λ p. absurd (false≢true p);
        here_whole = λ h. ap (λ (x : List ℕ). length x) (bytes ∙ eb) ∙ k.is.pinned_whole f was;
        here_held = λ p. absurd (false≢true p);
      })
      (frame-of (frame_seen e.region e.out f (record m { pinned = false })) (record (frame_at v.items f) { pinned = false })
      (ap (λ t. if t then [] else home_bytes e.region f) free ∙ bytes ∙ eb ∙ sym (out-bytes-is i v k.view k.is f k.there pinned)) m-page m-dirty refl m-lent)

  -- a frame at home was handed out
  pub lent-out : is_busy (frame_at v.items f) ≡ false → e.region ≡ taken i.region f → e.out ≡ i.out
      → e.marks.items ≡ slice_set i.marks.items f (record m { lent = true }) → vec_capacity e.marks ≡ vec_capacity i.marks
      → Leads e v f (record (frame_at v.items f) { bytes = []; lent = true })
  lent-out free er eo em ec =
      let both = not-or (frame_at v.items f).pinned (frame_at v.items f).lent free in
      let unpinned : m.pinned ≡ false = m-pinned ∙ both.0 in
      let out : is_home e.region f ≡ false = ap (λ (r : RegionSeen). is_home r f) er ∙ taken-here i.region f in
      leads (record (frame_at v.items f) { bytes = []; lent = true }) (record m { lent = true })
      (record {
        marks = em;
        room = ec;
        region = ap (λ (r : RegionSeen). r.region) er;
        same = ap (λ (c : ChainSeen). c.region) eo;
        others_in = λ j d. ap (λ (c : ChainSeen). is_in j (numbers c.frames)) eo;
        others_held = λ j d. ap (λ (c : ChainSeen). bytes_of c.frames j) eo;
        others_home = λ j d. ap (λ (r : RegionSeen). is_home r j) er ∙ taken-home i.region f j d;
        others_bytes = λ j d. ap (λ (r : RegionSeen). home_bytes r j) er ∙ taken-bytes i.region f j d;
        here_in = ap (λ (c : ChainSeen). is_in f (numbers c.frames)) eo ∙ k.is.out f ∙ sym (ap (λ (n : Mark). n.pinned) k.mark);
        here_home = out ∙ sym (ap not (or-true m.pinned));
        here_apart = λ p. absurd (false≢true (sym unpinned ∙ p));
        here_whole = λ h. absurd (false≢true (sym out ∙ h));
        here_held = λ p. absurd (false≢true (sym unpinned ∙ p));
      })
      (frame-of (frame_seen e.region e.out f (record m { lent = true })) (record (frame_at v.items f) { bytes = []; lent = true })
      (ap (λ t. if t then bytes_of e.out.frames f else []) unpinned) m-page m-dirty m-pinned refl)

  -- and came back
  pub come-back : (frame_at v.items f).lent ≡ true → (b : List ℕ) → length b ≡ 4096 → e.region ≡ given_back i.region ((f, b) ∷ []) → e.out ≡ i.out
      → is_home e.region f ≡ true → home_bytes e.region f ≡ b
      → e.marks.items ≡ slice_set i.marks.items f (record m { lent = false }) → vec_capacity e.marks ≡ vec_capacity i.marks
      → Leads e v f (record (frame_at v.items f) { bytes = b; lent = false })
  come-back lent b size er eo home bytes em ec =
      let unpinned : m.pinned ≡ false = bool-apart m.pinned (λ p. false≢true (sym (k.is.apart f (sym (ap (λ (n : Mark). n.pinned) k.mark) ∙ p)) ∙ sym (lent-is i v k.view f) ∙ lent)) in
      leads (record (frame_at v.items f) { bytes = b; lent = false }) (record m { lent = false })
      (record {
        marks = em;
        room = ec;
        region = ap (λ (r : RegionSeen). r.region) er;
        same = ap (λ (c : ChainSeen). c.region) eo;
        others_in = λ j d. ap (λ (c : ChainSeen). is_in j (numbers c.frames)) eo;
        others_held = λ j d. ap (λ (c : ChainSeen). bytes_of c.frames j) eo;
        others_home = λ j d. ap (λ (r : RegionSeen). is_home r j) er ∙ back-home i.region f j b d;
        others_bytes = λ j d. ap (λ (r : RegionSeen). home_bytes r j) er ∙ back-bytes i.region f j b d;
        here_in = ap (λ (c : ChainSeen). is_in f (numbers c.frames)) eo ∙ k.is.out f ∙ sym (ap (λ (n : Mark). n.pinned) k.mark);
        here_home = home ∙ sym (ap (λ t. not (t || false)) unpinned);
        here_apart = λ p. refl;
        here_whole = λ h. ap (λ (x : List ℕ). length x) bytes ∙ size;
        here_held = λ p. absurd (false≢true (sym unpinned ∙ p));
      })
      (frame-of (frame_seen e.region e.out f (record m { lent = false })) (record (frame_at v.items f) { bytes = b; lent = false })
      (ap (λ t. if t then bytes_of e.out.frames f else home_bytes e.region f) unpinned ∙ bytes) m-page m-dirty m-pinned refl)
    where
      bool-apart : (t : Bool) → (t ≡ true → ⊥) → t ≡ false
      bool-apart true h = absurd (h refl)
      bool-apart false h = refl

  -- a pinned frame's bytes were written
  pub rewritten : (frame_at v.items f).pinned ≡ true → (b : List ℕ) → length b ≡ 4096 → e.region ≡ i.region → e.out.region ≡ i.out.region
      → ((j : ℕ) → is_in j (numbers e.out.frames) ≡ is_in j (numbers i.out.frames)) → ((j : ℕ) → j ≢ f → bytes_of e.out.frames j ≡ bytes_of i.out.frames j)
      → bytes_of e.out.frames f ≡ b
      → e.marks.items ≡ slice_set i.marks.items f (record m { dirty = true }) → vec_capacity e.marks ≡ vec_capacity i.marks
      → Leads e v f (record (frame_at v.items f) { bytes = b; dirty = true })
  rewritten pinned b size er eo ein eheld here em ec =
      let was : (mark_at i.marks.items f).pinned ≡ true = sym (pinned-is i v k.view f) ∙ pinned in
      let out : m.pinned ≡ true = m-pinned ∙ pinned in
      let l : f < length i.marks.items = there-is i v k.view f k.there in
      leads (record (frame_at v.items f) { bytes = b; dirty = true }) (record m { dirty = true })
      (record {
        marks = em;
        room = ec;
        region = ap (λ (r : RegionSeen). r.region) er;
        same = eo;
        others_in = λ j d. ein j;
        others_held = eheld;
        others_home = λ j d. ap (λ (r : RegionSeen). is_home r j) er;
        others_bytes = λ j d. ap (λ (r : RegionSeen). home_bytes r j) er;
        here_in = ein f ∙ k.is.out f ∙ sym (ap (λ (n : Mark). n.pinned) k.mark);
        here_home = ap (λ (r : RegionSeen). is_home r f) er ∙ k.is.home f (let a = k.is.inside in omega (arith, l, a)) ∙ ap (λ (n : Mark). not (is_away n)) (sym k.mark);
        here_apart = λ p. ap (λ (n : Mark). n.lent) k.mark ∙ k.is.apart f was;
        here_whole = λ h. ap (λ (r : RegionSeen). length (home_bytes r f)) er ∙ k.is.whole f (sym (ap (λ (r : RegionSeen). is_home r f) er) ∙ h);
        here_held = λ p. ap (λ (x : List ℕ). length x) here ∙ size;
      })
      (frame-of (frame_seen e.region e.out f (record m { dirty = true })) (record (frame_at v.items f) { bytes = b; dirty = true })
      (ap (λ t. if t then bytes_of e.out.frames f else (if m.lent then [] else home_bytes e.region f)) out ∙ here) m-page refl m-pinned m-lent)

pub length-refit : (xs ws : List ℕ) → length (refit xs ws) ≡ length xs
length-refit xs ws = grind (arith, common_steps)

-- A frame that is changed twice, and a new page.

set-twice : {X : Type 0} (l : List X) (f : ℕ) (x y : X) → slice_set (slice_set l f x) f y ≡ slice_set l f y
set-twice [] f x y = refl
set-twice (z ∷ zs) zero x y = refl
set-twice (z ∷ zs) (suc f) x y = ap (λ l. z ∷ l) (set-twice zs f x y)

pub item-twice : (v : FramesSeen) (f : ℕ) (x y : Frame) → set_item (set_item v f x) f y ≡ set_item v f y
item-twice v f x y = ap (λ (l : List Frame). record v { items = l }) (set-twice v.items f x y)

pub item-here : (v : FramesSeen) (f : ℕ) (x : Frame) → f < length v.items → frame_at (set_item v f x).items f ≡ x
item-here v f x l = get_or-set_same v.items f x no_frame l

-- a frame that is set to what it is
pub item-same : (v : FramesSeen) (f : ℕ) (x : Frame) → x ≡ frame_at v.items f → set_item v f x ≡ v
item-same v f x e = ap (λ (l : List Frame). record v { items = l }) (ap (slice_set v.items f) e ∙ set-get_or v.items f no_frame)

pub renewed : (v : FramesSeen) (f : ℕ) (p : PageId) (w : List ℕ) → f < length v.items → is_busy (frame_at v.items f) ≡ false
    → refit (frame_at v.items f).bytes w ≡ zero_page
    → (let a = set_item v f (record (frame_at v.items f) { pinned = true }) in let b = write_item a f w in set_item b f (record (frame_at b.items f) { page = Some p })) ≡ set_item v f (new_frame p)
renewed v f p w l free zeros =
    let both = not-or (frame_at v.items f).pinned (frame_at v.items f).lent free in
    let x : Frame = record (frame_at v.items f) { pinned = true } in
    let a : FramesSeen = set_item v f x in
    let b : FramesSeen = write_item a f w in
    let is_b : b ≡ set_item v f (written x w) = ap (λ (y : Frame). set_item a f (written y w)) (item-here v f x l) ∙ item-twice v f x (written x w) in
    ap (λ (c : FramesSeen). set_item c f (record (frame_at c.items f) { page = Some p })) is_b
    ∙ ap (λ (y : Frame). set_item (set_item v f (written x w)) f (record y { page = Some p })) (item-here v f (written x w) l)
    ∙ item-twice v f (written x w) (record (written x w) { page = Some p })
    ∙ (λ j. set_item v f (record { bytes = zeros j; page = Some p; dirty = true; pinned = true; lent = both.1 j }))

-- Other frames in use.

take-below : {X : Type 0} (l : List X) (n f : ℕ) (d : X) → f < n → slice_index_or (take n l) f d ≡ slice_index_or l f d
take-below l zero f d h = absurd (omega (arith, h))
take-below [] (suc n) f d h = refl
take-below (x ∷ xs) (suc n) zero d h = refl
take-below (x ∷ xs) (suc n) (suc f) d h = take-below xs n f d (omega (arith, h))

take-behind : {X : Type 0} (l : List X) (n f : ℕ) (d : X) → n ≤ f → slice_index_or (take n l) f d ≡ d
take-behind l zero f d h = refl
take-behind [] (suc n) f d h = refl
take-behind (x ∷ xs) (suc n) zero d h = absurd (omega (arith, h))
take-behind (x ∷ xs) (suc n) (suc f) d h = take-behind xs n f d (omega (arith, h))

pub more-none : {X : Type 0} (n f : ℕ) (d : X) → slice_index_or (replicate n d) f d ≡ d
more-none zero f d = refl
more-none (suc n) zero d = refl
more-none (suc n) (suc f) d = more-none n f d

more-same : {X : Type 0} (l : List X) (n f : ℕ) (d : X) → slice_index_or (l ++ replicate n d) f d ≡ slice_index_or l f d
more-same [] n f d = more-none n f d
more-same (x ∷ xs) n zero d = refl
more-same (x ∷ xs) n (suc f) d = more-same xs n f d

pub record Fits_to (i e : Inside) (n : ℕ) : Type 0 where
  pub region : e.region ≡ i.region
  pub out : e.out ≡ i.out
  pub count : length e.marks.items ≡ n
  pub room : vec_capacity e.marks ≡ vec_capacity i.marks
  pub below : (f : ℕ) → f < n → mark_at e.marks.items f ≡ mark_at i.marks.items f
  pub behind : (f : ℕ) → n ≤ f → mark_at e.marks.items f ≡ no_mark
  pub gone : (f : ℕ) → n ≤ f → is_away (mark_at i.marks.items f) ≡ false

module _ (i e : Inside) (v : FramesSeen) (n : ℕ) (eq : frames_seen i ≡ v) (is : IsFrames i) (c : Fits_to i e n) where
  same-away : (g : Mark → Bool) → g no_mark ≡ false → ((f : ℕ) → n ≤ f → g (mark_at i.marks.items f) ≡ false) → (f : ℕ) → g (mark_at e.marks.items f) ≡ g (mark_at i.marks.items f)
  same-away g none gone f = elim (le_or_lt n f) [
    | inl l ↦ ap g (c.behind f l) ∙ none ∙ sym (gone f l)
    | inr l ↦ ap g (c.below f l)
  ]

  same-pinned : (f : ℕ) → (mark_at e.marks.items f).pinned ≡ (mark_at i.marks.items f).pinned
  same-pinned = same-away (λ m. m.pinned) refl (λ f l. (not-or (mark_at i.marks.items f).pinned (mark_at i.marks.items f).lent (c.gone f l)).0)

  same-lent : (f : ℕ) → (mark_at e.marks.items f).lent ≡ (mark_at i.marks.items f).lent
  same-lent = same-away (λ m. m.lent) refl (λ f l. (not-or (mark_at i.marks.items f).pinned (mark_at i.marks.items f).lent (c.gone f l)).1)

  pub resized-is : n ≤ i.region.region.frames → IsFrames e
  resized-is most = record {
    same = ap (λ (s : ChainSeen). s.region) c.out ∙ is.same ∙ sym (ap (λ (r : RegionSeen). r.region) c.region);
    few = subst (λ (r : RegionSeen). r.region.frames < 2 ^ 32) (sym c.region) is.few;
    inside = (let a = c.count in let b = ap (λ (r : RegionSeen). r.region.frames) c.region in omega (arith, a, b, most));
    room = (let a = c.room in let b = ap (λ (r : RegionSeen). r.region.frames) c.region in let d = is.room in omega (arith, a, b, d));
    out = λ f. ap (λ (s : ChainSeen). is_in f (numbers s.frames)) c.out ∙ is.out f ∙ sym (same-pinned f);
    home = λ f l. ap (λ (r : RegionSeen). is_home r f) c.region ∙ is.home f (subst (λ (r : RegionSeen). f < r.region.frames) c.region l) ∙ (λ j. not (sym (same-pinned f) j || sym (same-lent f) j));
    apart = λ f p. same-lent f ∙ is.apart f (sym (same-pinned f) ∙ p);
    whole = λ f h. ap (λ (r : RegionSeen). length (home_bytes r f)) c.region ∙ is.whole f (sym (ap (λ (r : RegionSeen). is_home r f) c.region) ∙ h);
    pinned_whole = λ f p. ap (λ (s : ChainSeen). length (bytes_of s.frames f)) c.out ∙ is.pinned_whole f (sym (same-pinned f) ∙ p);
  }

  pub resized : Resizes v (frames_seen e) n
  resized = record {
    count = count-is e (frames_seen e) refl ∙ c.count;
    kept = λ f l m.
        frame-is e (frames_seen e) refl f (let a = count-is e (frames_seen e) refl in let b = c.count in omega (arith, a, b, l))
        ∙ (λ j. frame_seen (c.region j) (c.out j) f (c.below f l j)) ∙ sym (frame-is i v eq f m);
    none = λ f l. page-is e (frames_seen e) refl f ∙ gone-mark (λ x. x.page) None refl f l;
    free = λ f l. away-is e (frames_seen e) refl f ∙ gone-mark is_away false refl f l;
    max = ap (λ (r : RegionSeen). r.region.frames) c.region ∙ sym (max-is i v eq);
    region = ap (λ (r : RegionSeen). r.region) c.region ∙ sym (region-is i v eq);
  }
    where
      gone-mark : {X : Type 0} (g : Mark → X) (x : X) → g no_mark ≡ x → (f : ℕ) → length v.items ≤ f → g (mark_at e.marks.items f) ≡ x
      gone-mark g x none f l = elim (le_or_lt n f) [
        | inl h ↦ ap g (c.behind f h) ∙ none
        | inr h ↦ ap g (c.below f h ∙ sym (mark-not-there i.marks.items f (let k = count-is i v eq in omega (arith, l, k)))) ∙ none
      ]

pub shrinks : (i e : Inside) (v : FramesSeen) (n : ℕ) → frames_seen i ≡ v → e.region ≡ i.region → e.out ≡ i.out → e.marks.items ≡ take n i.marks.items → length e.marks.items ≡ n
    → vec_capacity e.marks ≡ vec_capacity i.marks → ((f : ℕ) → n ≤ f → is_busy (frame_at v.items f) ≡ false) → Fits_to i e n
shrinks i e v n eq er eo em len cap free = record {
  region = er;
  out = eo;
  count = len;
  room = cap;
  below = λ f l. ap (λ (ms : List Mark). mark_at ms f) em ∙ take-below i.marks.items n f no_mark l;
  behind = λ f l. ap (λ (ms : List Mark). mark_at ms f) em ∙ take-behind i.marks.items n f no_mark l;
  gone = λ f l. sym (away-is i v eq f) ∙ free f l;
}

pub grows : (i e : Inside) (n k : ℕ) → e.region ≡ i.region → e.out ≡ i.out → e.marks.items ≡ i.marks.items ++ replicate k no_mark → length e.marks.items ≡ n → length i.marks.items ≤ n
    → vec_capacity e.marks ≡ vec_capacity i.marks → Fits_to i e n
grows i e n k er eo em len wider cap = record {
  region = er;
  out = eo;
  count = len;
  room = cap;
  below = λ f l. ap (λ (ms : List Mark). mark_at ms f) em ∙ more-same i.marks.items k f no_mark;
  behind = λ f l. ap (λ (ms : List Mark). mark_at ms f) em ∙ more-same i.marks.items k f no_mark ∙ sym (mark-not-there i.marks.items f (omega (arith, l, wider)));
  gone = λ f l. ap is_away (sym (mark-not-there i.marks.items f (omega (arith, l, wider))));
}

-- A frame that was handed out for a moment.

pub put-back : (v l p : FramesSeen) (f : ℕ) (b : List ℕ) → f < length v.items → is_busy (frame_at v.items f) ≡ false
    → l ≡ set_item v f (record (frame_at v.items f) { bytes = []; lent = true }) → p ≡ set_item l f (record (frame_at l.items f) { bytes = b; lent = false })
    → p ≡ set_item v f (record (frame_at v.items f) { bytes = b })
put-back v l p f b there free el ep =
    let both = not-or (frame_at v.items f).pinned (frame_at v.items f).lent free in
    let x : Frame = record (frame_at v.items f) { bytes = []; lent = true } in
    ep ∙ ap (λ (w : FramesSeen). set_item w f (record (frame_at w.items f) { bytes = b; lent = false })) el
    ∙ ap (λ (y : Frame). set_item (set_item v f x) f (record y { bytes = b; lent = false })) (item-here v f x there)
    ∙ item-twice v f x (record x { bytes = b; lent = false })
    ∙ (λ j. set_item v f (record (frame_at v.items f) { bytes = b; lent = sym both.1 j }))

pub one-bytes : (f : ℕ) (b : List ℕ) → bytes_of ((f, b) ∷ []) f ≡ b
one-bytes f b = ap (λ t. if t then b else []) (is-self f)
