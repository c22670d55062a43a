-- What a change of one frame is of the space that a pool shows.
use Rattle.std.specs.Prelude.{◌≡◌, ◌≢◌, ℕ, ◌&&◌, ◌||◌, not, Bool, true, false, List, Option, None, Some, if◌then◌else◌}
use Rattle.std.proofs.Common.{sym, ◌∙◌, ap, subst, refl, inl, inr}
use Rattle.std.proofs.lemmas.Bool.{false≢true}
use Rattle.std.proofs.lemmas.Bool.Decides.{eqb_tells}
use Rattle.hg_base.specs.Space.{at, key, with_counts}
use Rattle.hg_base.specs.declared.PageId.{PageId}
use Rattle.hg_pool.specs.Picture.{Picture, shown, is_in, is_pinned, is_lent, held_in, tells, bytes_told, is_key_of}
use Rattle.hg_pool.specs.Sound.{Fits, IsCoherent}
use Rattle.hg_pool.specs.Seen.{Frame}
use Rattle.hg_pool.specs.Keys.{at-here, at-other, is_key_of-true, is_key_of-here, key-one}

-- a page shows the same in two pictures
pub record SameAt (a b : Picture) (q : ℕ) : Type 0 where
  pub pinned : is_pinned b.frame b.place q ≡ is_pinned a.frame a.place q
  pub lent : is_lent b.frame b.place q ≡ is_lent a.frame a.place q
  pub held : (a.told || is_pinned a.frame a.place q) ≡ true → held_in b.frame b.place b.page q ≡ held_in a.frame a.place a.page q

-- two pictures are the same but for frames, places, what stands on the devices, and counts
pub record SameFront (a b : Picture) : Type 0 where
  pub told : b.told ≡ a.told
  pub limit : b.limit ≡ a.limit
  pub device_limit : b.device_limit ≡ a.device_limit
  pub taken : b.taken ≡ a.taken
  pub next : b.next ≡ a.next
  pub pins : b.pins ≡ a.pins
  pub current : b.current ≡ a.current
  pub most : b.most ≡ a.most

choose : (t s : Bool) (x y : List ℕ) → (s ≡ true → x ≡ y) → ◌≡◌ {A = Option (List ℕ)} (if t && s then Some x else None) (if t && s then Some y else None)
choose true true x y e = ap Some (e refl)
choose true false x y e = refl
choose false s x y e = refl

or-and : (s t : Bool) → (s && t) ≡ true → s ≡ true
or-and true t e = refl
or-and false t e = e

told-same : (told taken pinned pinned' lent lent' : Bool) (x y : List ℕ) → pinned' ≡ pinned → lent' ≡ lent → ((told || pinned) ≡ true → x ≡ y)
    → ◌≡◌ {A = Option (List ℕ)} (if taken && ((told || pinned') && not lent') then Some x else None) (if taken && ((told || pinned) && not lent) then Some y else None)
told-same told taken pinned pinned' lent lent' x y e l h =
    (λ i. if taken && ((told || e i) && not (l i)) then Some x else None)
    ∙ choose taken ((told || pinned) && not lent) x y (λ t. h (or-and (told || pinned) (not lent) t))

pub bytes-same : (a b : Picture) (q : ℕ) → b.told ≡ a.told → b.taken q ≡ a.taken q → SameAt a b q → bytes_told b q ≡ bytes_told a q
bytes-same a b q told taken h =
    ap (λ t. if t && tells b q then Some (held_in b.frame b.place b.page q) else None) taken
    ∙ ap (λ t. if a.taken q && ((t || is_pinned b.frame b.place q) && not (is_lent b.frame b.place q)) then Some (held_in b.frame b.place b.page q) else None) told
    ∙ told-same a.told (a.taken q) (is_pinned a.frame a.place q) (is_pinned b.frame b.place q) (is_lent a.frame a.place q) (is_lent b.frame b.place q)
    (held_in b.frame b.place b.page q) (held_in a.frame a.place a.page q) h.pinned h.lent h.held

-- two pictures in which each page shows the same are one space, but for counts
pub shown-same : (a b : Picture) → SameFront a b → ((q : ℕ) → SameAt a b q) → shown b ≡ with_counts (shown a) b.counts
shown-same a b front h = λ i. record (shown b) {
  told = front.told i;
  limit = front.limit i;
  device_limit = front.device_limit i;
  taken = front.taken i;
  bytes = λ q. bytes-same a b q front.told (ap (λ t. t q) front.taken) (h q) i;
  pinned = λ q. (h q).pinned i;
  pins = front.pins i;
  next = front.next i;
  of_heap = λ q. (h q).lent i;
  heaps = record (shown b).heaps { current = front.current i; most = front.most i };
}

-- where all pages but one show the same, the bytes that are told change at its key alone
pub bytes-at : (a b : Picture) (p : ℕ) (z : Option (List ℕ)) → b.told ≡ a.told → ((q : ℕ) → q ≢ p → b.taken q ≡ a.taken q)
    → ((q : ℕ) → q ≢ p → SameAt a b q) → bytes_told b p ≡ z → (q : ℕ) → bytes_told b q ≡ at (bytes_told a) p z q
bytes-at a b p z told taken h here q =
    elim (eqb_tells q p) [
      | inl e ↦ ap (bytes_told b) e.1 ∙ here ∙ sym (ap (at (bytes_told a) p z) e.1 ∙ at-here (bytes_told a) p z)
      | inr n ↦ bytes-same a b q told (taken q n.1) (h q n.1) ∙ sym (at-other (bytes_told a) p z q n.1)
    ]

-- and so do the pins
pub pinned-at : (a b : Picture) (p : ℕ) (z : Bool) → ((q : ℕ) → q ≢ p → SameAt a b q) → is_pinned b.frame b.place p ≡ z
    → (q : ℕ) → is_pinned b.frame b.place q ≡ at (is_pinned a.frame a.place) p z q
pinned-at a b p z h here q =
    elim (eqb_tells q p) [
      | inl e ↦ ap (is_pinned b.frame b.place) e.1 ∙ here ∙ sym (ap (at (is_pinned a.frame a.place) p z) e.1 ∙ at-here (is_pinned a.frame a.place) p z)
      | inr n ↦ (h q n.1).pinned ∙ sym (at-other (is_pinned a.frame a.place) p z q n.1)
    ]

-- and so does which pages are handed out
pub lent-at : (a b : Picture) (p : ℕ) (z : Bool) → ((q : ℕ) → q ≢ p → SameAt a b q) → is_lent b.frame b.place p ≡ z
    → (q : ℕ) → is_lent b.frame b.place q ≡ at (is_lent a.frame a.place) p z q
lent-at a b p z h here q =
    elim (eqb_tells q p) [
      | inl e ↦ ap (is_lent b.frame b.place) e.1 ∙ here ∙ sym (ap (at (is_lent a.frame a.place) p z) e.1 ∙ at-here (is_lent a.frame a.place) p z)
      | inr n ↦ (h q n.1).lent ∙ sym (at-other (is_lent a.frame a.place) p z q n.1)
    ]

pub same-lent : (a b : Picture) (p : ℕ) → ((q : ℕ) → q ≢ p → SameAt a b q) → is_lent b.frame b.place p ≡ is_lent a.frame a.place p
    → (q : ℕ) → is_lent b.frame b.place q ≡ is_lent a.frame a.place q
same-lent a b p h here q =
    elim (eqb_tells q p) [
      | inl e ↦ ap (is_lent b.frame b.place) e.1 ∙ here ∙ sym (ap (is_lent a.frame a.place) e.1)
      | inr n ↦ (h q n.1).lent
    ]

-- pins that do not change
pub same-pins : (a b : Picture) (p : ℕ) → ((q : ℕ) → q ≢ p → SameAt a b q) → is_pinned b.frame b.place p ≡ is_pinned a.frame a.place p
    → (q : ℕ) → is_pinned b.frame b.place q ≡ is_pinned a.frame a.place q
same-pins a b p h here q =
    elim (eqb_tells q p) [
      | inl e ↦ ap (is_pinned b.frame b.place) e.1 ∙ here ∙ sym (ap (is_pinned a.frame a.place) e.1)
      | inr n ↦ (h q n.1).pinned
    ]

abbrev pub pinned_by : ℕ → Frame → Bool
pinned_by q x = is_key_of q x.page && x.pinned

abbrev pub out_by : ℕ → Frame → Bool
out_by q x = is_key_of q x.page && x.lent

abbrev pub held_by : ℕ → (ℕ → List ℕ) → Frame → List ℕ
held_by q page x = if is_key_of q x.page then x.bytes else page q

-- the frame of a page, x in place of y, shows the page as before
pub record SameHere (told : Bool) (q : ℕ) (y x : Frame) (was now : ℕ → List ℕ) : Type 0 where
  pub pinned : pinned_by q x ≡ pinned_by q y
  pub lent : out_by q x ≡ out_by q y
  pub held : (told || pinned_by q y) ≡ true → held_by q now x ≡ held_by q was y

-- a page whose place stays shows the same, where the frame at that place shows it so
pub same-at : (a b : Picture) (q : ℕ) (y x : Frame) → a.frame (a.place q) ≡ y → b.frame (b.place q) ≡ x → SameHere a.told q y x a.page b.page → SameAt a b q
same-at a b q y x e d h = record {
  pinned = ap (pinned_by q) d ∙ h.pinned ∙ ap (pinned_by q) (sym e);
  lent = ap (out_by q) d ∙ h.lent ∙ ap (out_by q) (sym e);
  held = λ t.
      ap (held_by q b.page) d ∙ h.held (ap (λ z. a.told || pinned_by q z) (sym e) ∙ t)
      ∙ ap (held_by q a.page) (sym e);
}

-- the same, where one frame changed: it is that frame, or another one, which is as it was
pub same-frame : (a b : Picture) (f : ℕ) (x : Frame) (q : ℕ) → b.frame ≡ at a.frame f x → b.place q ≡ a.place q
    → (a.place q ≡ f → SameHere a.told q (a.frame f) x a.page b.page)
    → (a.place q ≢ f → SameHere a.told q (a.frame (a.place q)) (a.frame (a.place q)) a.page b.page) → SameAt a b q
same-frame a b f x q frame place here there =
    elim (eqb_tells (a.place q) f) [
      | inl e ↦ same-at a b q (a.frame f) x (ap a.frame e.1) (ap (λ g. g (b.place q)) frame ∙ ap (at a.frame f x) (place ∙ e.1) ∙ at-here a.frame f x) (here e.1)
      | inr n ↦ same-at a b q (a.frame (a.place q)) (a.frame (a.place q)) refl
          (ap (λ g. g (b.place q)) frame ∙ ap (at a.frame f x) place ∙ at-other a.frame f x (a.place q) n.1)
          (there n.1)
    ]

-- what holds of each frame, where one frame changed
pub coherent-at : (a b : Picture) (f : ℕ) (x : Frame) → b.frame ≡ at a.frame f x → ((g : ℕ) → g ≢ f → Fits b g (a.frame g)) → Fits b f x → IsCoherent b
coherent-at a b f x frame others here g =
    elim (eqb_tells g f) [
      | inl e ↦ (let P : Frame → Type 0 = λ y. Fits b g y in
          let Q : ℕ → Type 0 = λ k. Fits b k x in
          subst P (sym (ap (λ k. k g) frame ∙ ap (at a.frame f x) e.1 ∙ at-here a.frame f x)) (subst Q (sym e.1) here))
      | inr n ↦ (let P : Frame → Type 0 = λ y. Fits b g y in
          subst P (sym (ap (λ k. k g) frame ∙ at-other a.frame f x g n.1)) (others g n.1))
    ]

or-left : (t : Bool) → (t || false) ≡ true → t ≡ true
or-left true e = refl
or-left false e = e

held-choice : (told k s : Bool) (x y u w : List ℕ) → x ≡ y → (told ≡ true → k ≡ false → u ≡ w) → (told || (k && s)) ≡ true → (if k then x else u) ≡ (if k then y else w)
held-choice told true s x y u w e h t = e
held-choice told false s x y u w e h t = h (or-left told t) refl

-- a frame shows a page as another frame of the same page with the same bytes does
pub same-here : (told : Bool) (q : ℕ) (y x : Frame) (was now : ℕ → List ℕ) → x.page ≡ y.page → x.bytes ≡ y.bytes → x.pinned ≡ y.pinned → x.lent ≡ y.lent
    → (told ≡ true → is_key_of q y.page ≡ false → now q ≡ was q) → SameHere told q y x was now
same-here told q y x was now page bytes pinned lent h = record {
  pinned = ap (λ o. is_key_of q o && x.pinned) page ∙ ap (λ s. is_key_of q y.page && s) pinned;
  lent = ap (λ o. is_key_of q o && x.lent) page ∙ ap (λ s. is_key_of q y.page && s) lent;
  held = λ t.
      ap (λ o. if is_key_of q o then x.bytes else now q) page
      ∙ held-choice told (is_key_of q y.page) y.pinned x.bytes y.bytes (now q) (was q) bytes h t;
}

-- a frame of other pages does not show this one
pub not-here : (told : Bool) (q : ℕ) (y x : Frame) (was now : ℕ → List ℕ) → is_key_of q y.page ≡ false → is_key_of q x.page ≡ false
    → (told ≡ true → now q ≡ was q) → SameHere told q y x was now
not-here told q y x was now before after h = record {
  pinned = ap (λ k. k && x.pinned) after ∙ sym (ap (λ k. k && y.pinned) before);
  lent = ap (λ k. k && x.lent) after ∙ sym (ap (λ k. k && y.lent) before);
  held = λ t.
      ap (λ k. if k then x.bytes else now q) after ∙ h (or-left told (sym (ap (λ k. told || (k && y.pinned)) before) ∙ t))
      ∙ sym (ap (λ k. if k then y.bytes else was q) before);
}

-- a page shows the same where a frame changed that is of other pages before and after
pub away : (a b : Picture) (f : ℕ) (x : Frame) (q : ℕ) → b.frame ≡ at a.frame f x → b.place q ≡ a.place q → (a.told ≡ true → b.page q ≡ a.page q)
    → is_key_of q (a.frame f).page ≡ false → is_key_of q x.page ≡ false → SameAt a b q
away a b f x q frame place page before after = same-frame a b f x q frame place
    (λ e. not-here a.told q (a.frame f) x a.page b.page before after page)
    (λ n. same-here a.told q (a.frame (a.place q)) (a.frame (a.place q)) a.page b.page refl refl refl refl (λ t _. page t))

-- a frame fits where what is said of its page stays
pub fits-kept : (a b : Picture) (f : ℕ) (x : Frame) → Fits a f x → b.told ≡ a.told → ((p : PageId) → x.page ≡ Some p → b.place (key p) ≡ a.place (key p))
    → ((p : PageId) → x.page ≡ Some p → b.taken (key p) ≡ a.taken (key p))
    → ((p : PageId) → x.page ≡ Some p → x.dirty ≡ false → a.told ≡ true → b.page (key p) ≡ a.page (key p)) → Fits b f x
fits-kept a b f x h told place taken page = record {
  found = λ p e. place p e ∙ h.found p e;
  taken = λ p e. taken p e ∙ h.taken p e;
  whole = h.whole;
  clean = λ p e d l t. let was : a.told ≡ true = sym told ∙ t in h.clean p e d l was ∙ sym (page p e d was);
  apart = h.apart;
  paged = h.paged;
}

-- a page that a frame holds is in a frame
pub in-found : (a : Picture) (f : ℕ) (p : PageId) → IsCoherent a → (a.frame f).page ≡ Some p → is_in a.frame a.place (key p) ≡ true
in-found a f p h e = ap (λ k. is_key_of (key p) (a.frame k).page) ((h f).found p e) ∙ ap (is_key_of (key p)) e ∙ is_key_of-here p

-- so another frame does not hold it, and a page that is in none is no frame's
pub not-found : (a : Picture) (f : ℕ) (p : PageId) (q : ℕ) → IsCoherent a → (a.frame f).page ≡ Some p → is_in a.frame a.place q ≡ false → q ≢ key p
not-found a f p q h e n s = false≢true (sym n ∙ ap (is_in a.frame a.place) s ∙ in-found a f p h e)

pub other-page : (a : Picture) (f g : ℕ) (p r : PageId) → IsCoherent a → (a.frame f).page ≡ Some p → (a.frame g).page ≡ Some r → g ≢ f → key r ≢ key p
other-page a f g p r h e d n s = n (sym ((h g).found r d) ∙ ap a.place s ∙ (h f).found p e)

-- a page that is in a frame is the one of the frame at its place
pub page-of-in : (a : Picture) (p : PageId) → is_in a.frame a.place (key p) ≡ true → (a.frame (a.place (key p))).page ≡ Some p
page-of-in a p h =
    let r = is_key_of-true (key p) (a.frame (a.place (key p))).page h in r.1 ∙ ap Some (key-one r.0 p r.2)
