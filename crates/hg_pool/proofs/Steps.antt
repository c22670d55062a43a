-- The steps of a pool: what each of them leaves of the space that it shows, and that frames stay coherent.
use Rattle.std.specs.Prelude.{◌≡◌, ◌≢◌, ℕ, ◌+◌, ◌-◌, ◌&&◌, ◌||◌, not, Bool, true, false, List, length, Option, None, Some, if◌then◌else◌}
use Rattle.std.proofs.Common.{sym, ◌∙◌, ap, refl, inl, inr}
use Rattle.std.proofs.lemmas.Bool.{false≢true}
use Rattle.std.proofs.lemmas.Bool.Decides.{eqb_tells}
use Rattle.hg_base.specs.Space.{Space, Counts, at, key, zero_page, length-zero_page, with_counts, with_pin, with_new, without_pin, without_page, with_next, unpinned_bytes}
use Rattle.hg_base.specs.declared.PageId.{PageId}
use Rattle.hg_pool.specs.Picture.{Picture, shown, is_in, is_pinned, is_lent, held_in, tells, bytes_told, is_key_of}
use Rattle.hg_pool.specs.Sound.{IsCoherent}
use Rattle.hg_pool.specs.Seen.{Frame}
use Rattle.hg_pool.specs.Keys.{at-here, at-other, is_key_of-true, is_key_of-here, is_key_of-other}
use Rattle.hg_pool.specs.Views.{SameAt, shown-same, bytes-at, pinned-at, same-at, same-frame, same-here, away, coherent-at, fits-kept, in-found, not-found, other-page, page-of-in, same-pins, same-lent}

-- b is sound in its frames, and the space of a but for counts
pub record Keeps (a b : Picture) : Type 0 where
  pub coherent : IsCoherent b
  pub same : shown b ≡ with_counts (shown a) b.counts

-- a frame's page was written to its device
pub cleaned : (a : Picture) (f : ℕ) (p : PageId) (now : ℕ → List ℕ) (n : Counts) → IsCoherent a → (a.frame f).page ≡ Some p
    → (a.told ≡ true → now (key p) ≡ (a.frame f).bytes) → (a.told ≡ true → (q : ℕ) → q ≢ key p → now q ≡ a.page q)
    → Keeps a (record a { frame = at a.frame f (record (a.frame f) { dirty = false }); page = now; counts = n })
cleaned a f p now n h e put kept =
    let x : Frame = record (a.frame f) { dirty = false } in
    let b : Picture = record a { frame = at a.frame f x; page = now; counts = n } in record {
      coherent = coherent-at a b f x refl
          (λ g apart. fits-kept a b g (a.frame g) (h g) refl (λ r d. refl) (λ r d. refl) (λ r d _ t. kept t (key r) (other-page a f g p r h e d apart)))
          (record {
            found = (h f).found;
            taken = (h f).taken;
            whole = (h f).whole;
            apart = (h f).apart;
            paged = (h f).paged;
            clean = λ r d _ l t. let one : ◌≡◌ {A = Option PageId} (Some p) (Some r) = sym e ∙ d in
                let same : p ≡ r = cc in sym (put t) ∙ ap (λ k. now (key k)) same;
          });
      same = shown-same a b (record { told = refl; limit = refl; device_limit = refl; taken = refl; next = refl; pins = refl; current = refl; most = refl })
          (λ q. same-frame a b f x q refl refl
          (λ here. same-here a.told q (a.frame f) x a.page now refl refl refl refl
          (λ t out. kept t q (not-found a f p q h e (ap (λ k. is_key_of q (a.frame k).page) here ∙ out))))
          (λ there. same-here a.told q (a.frame (a.place q)) (a.frame (a.place q)) a.page now refl refl refl refl
          (λ t out. kept t q (not-found a f p q h e out))));
    }

-- a write of a frame's page failed: any bytes stand there on its device, but the frame's are newer
pub write-failed : (a : Picture) (f : ℕ) (p : PageId) (now : ℕ → List ℕ) (n : Counts) → IsCoherent a → (a.frame f).page ≡ Some p → (a.frame f).dirty ≡ true
    → (a.told ≡ true → (q : ℕ) → q ≢ key p → now q ≡ a.page q) → Keeps a (record a { page = now; counts = n })
write-failed a f p now n h e dirty kept =
    let b : Picture = record a { page = now; counts = n } in record {
      coherent = λ g. fits-kept a b g (a.frame g) (h g) refl (λ r d. refl) (λ r d. refl)
          (λ r d clean t. kept t (key r) (λ s. false≢true (sym clean ∙ ap (λ k. (a.frame k).dirty) (sym ((h g).found r d) ∙ ap a.place s ∙ (h f).found p e) ∙ dirty)));
      same = shown-same a b (record { told = refl; limit = refl; device_limit = refl; taken = refl; next = refl; pins = refl; current = refl; most = refl })
          (λ q. same-at a b q (a.frame (a.place q)) (a.frame (a.place q)) refl refl
          (same-here a.told q (a.frame (a.place q)) (a.frame (a.place q)) a.page now refl refl refl refl (λ t out. kept t q (not-found a f p q h e out))));
    }

pub and-false : (t : Bool) → (t && false) ≡ false
and-false true = refl
and-false false = refl

pub or-false : (t : Bool) → (t || false) ≡ t
or-false true = refl
or-false false = refl

pub or-true : (t : Bool) → (t || true) ≡ true
or-true true = refl
or-true false = refl

pub bool-not : (t : Bool) → (t ≡ true → ⊥) → t ≡ false
bool-not true h = absurd (h refl)
bool-not false h = refl

pub none-apart : (o : Option PageId) (p : PageId) (P : Type 0) → o ≡ None → o ≡ Some p → P
none-apart o p P n s = let e : ◌≡◌ {A = Option PageId} None (Some p) = sym n ∙ s in absurd (cc)

key-of-none : (q : ℕ) (o : Option PageId) → o ≡ None → is_key_of q o ≡ false
key-of-none q o e = ap (is_key_of q) e

pub key-of-other : (q : ℕ) (o : Option PageId) (p : PageId) → o ≡ Some p → q ≢ key p → is_key_of q o ≡ false
key-of-other q o p e n = ap (is_key_of q) e ∙ is_key_of-other q p n

-- what is held by a frame that is as it is on its device
pub clean-held : (k : Bool) (x w : List ℕ) → (k ≡ true → x ≡ w) → w ≡ (if k then x else w)
clean-held true x w e = sym (e refl)
clean-held false x w e = refl

-- a frame whose page is on its device as it is became empty
pub emptied : (a : Picture) (f : ℕ) → IsCoherent a → ((p : PageId) → (a.frame f).page ≡ Some p → (a.frame f).dirty ≡ false) → (a.frame f).pinned ≡ false → (a.frame f).lent ≡ false
    → Keeps a (record a { frame = at a.frame f (record (a.frame f) { page = None }) })
emptied a f h clean out home =
    let y : Frame = a.frame f in
    let x : Frame = record y { page = None } in
    let b : Picture = record a { frame = at a.frame f x } in record {
      coherent = coherent-at a b f x refl
          (λ g apart. fits-kept a b g (a.frame g) (h g) refl (λ r d. refl) (λ r d. refl) (λ r d _ t. refl))
          (record {
            found = λ r d. none-apart None r (a.place (key r) ≡ f) refl d;
            taken = λ r d. none-apart None r (a.taken (key r) ≡ true) refl d;
            whole = λ r d l. none-apart None r (length y.bytes ≡ 4096) refl d;
            clean = λ r d _ l t. none-apart None r (y.bytes ≡ a.page (key r)) refl d;
            apart = λ _. home;
            paged = λ l. absurd (false≢true (sym home ∙ l));
          });
      same = shown-same a b (record { told = refl; limit = refl; device_limit = refl; taken = refl; next = refl; pins = refl; current = refl; most = refl })
          (λ q. same-frame a b f x q refl refl
          (λ here. record {
            pinned = sym (ap (λ s. is_key_of q y.page && s) out ∙ and-false (is_key_of q y.page));
            lent = sym (ap (λ s. is_key_of q y.page && s) home ∙ and-false (is_key_of q y.page));
            held = λ t. clean-held (is_key_of q y.page) y.bytes (a.page q) (λ k.
                let r = is_key_of-true q y.page k in
                let told : a.told ≡ true = sym (or-false a.told) ∙ sym (ap (λ s. a.told || s) (ap (λ s. is_key_of q y.page && s) out ∙ and-false (is_key_of q y.page))) ∙ t in
                (h f).clean r.0 r.1 (clean r.0 r.1) home told ∙ ap a.page r.2);
          })
          (λ there. same-here a.told q (a.frame (a.place q)) (a.frame (a.place q)) a.page a.page refl refl refl refl (λ t out. refl)));
    }

-- an empty frame's bytes changed, and what the devices tell did not
pub blurred : (a : Picture) (f : ℕ) (x : Frame) (now : ℕ → List ℕ) (n : Counts) → IsCoherent a → (a.frame f).page ≡ None → x.page ≡ None → x.lent ≡ false
    → (a.told ≡ true → (q : ℕ) → now q ≡ a.page q) → Keeps a (record a { frame = at a.frame f x; page = now; counts = n })
blurred a f x now n h none none' home kept =
    let b : Picture = record a { frame = at a.frame f x; page = now; counts = n } in record {
      coherent = coherent-at a b f x refl
          (λ g apart. fits-kept a b g (a.frame g) (h g) refl (λ r d. refl) (λ r d. refl) (λ r d _ t. kept t (key r)))
          (record {
            found = λ r d. none-apart x.page r (a.place (key r) ≡ f) none' d;
            taken = λ r d. none-apart x.page r (a.taken (key r) ≡ true) none' d;
            whole = λ r d l. none-apart x.page r (length x.bytes ≡ 4096) none' d;
            clean = λ r d _ l t. none-apart x.page r (x.bytes ≡ now (key r)) none' d;
            apart = λ _. home;
            paged = λ l. absurd (false≢true (sym home ∙ l));
          });
      same = shown-same a b (record { told = refl; limit = refl; device_limit = refl; taken = refl; next = refl; pins = refl; current = refl; most = refl })
          (λ q. away a b f x q refl refl (λ t. kept t q) (key-of-none q (a.frame f).page none) (key-of-none q x.page none'));
    }

-- a page was read into an empty frame
pub loaded : (a : Picture) (f : ℕ) (p : PageId) (bytes : List ℕ) (now : ℕ → List ℕ) (n : Counts) → IsCoherent a → (a.frame f).page ≡ None
    → a.taken (key p) ≡ true → is_in a.frame a.place (key p) ≡ false → length bytes ≡ 4096 → (a.told ≡ true → bytes ≡ a.page (key p))
    → (a.told ≡ true → (q : ℕ) → now q ≡ a.page q)
    → Keeps a (record a { frame = at a.frame f (record { bytes = bytes; page = Some p; dirty = false; pinned = false; lent = false }); place = at a.place (key p) f; page = now; counts = n })
loaded a f p bytes now n h none taken out whole same kept =
    let x : Frame = record { bytes = bytes; page = Some p; dirty = false; pinned = false; lent = false } in
    let b : Picture = record a { frame = at a.frame f x; place = at a.place (key p) f; page = now; counts = n } in
    let one : (r : PageId) → ◌≡◌ {A = Option PageId} (Some p) (Some r) → p ≡ r = λ r d. cc in record {
      coherent = coherent-at a b f x refl
          (λ g apart. fits-kept a b g (a.frame g) (h g) refl (λ r d. at-other a.place (key p) f (key r) (λ s. not-found a g r (key p) h d out (sym s)))
          (λ r d. refl) (λ r d _ t. kept t (key r)))
          (record {
            found = λ r d. ap (λ k. at a.place (key p) f (key k)) (sym (one r d)) ∙ at-here a.place (key p) f;
            taken = λ r d. ap (λ k. a.taken (key k)) (sym (one r d)) ∙ taken;
            whole = λ r d l. whole;
            apart = λ _. refl;
            paged = λ l. absurd (false≢true l);
            clean = λ r d _ l t. same t ∙ sym (kept t (key p)) ∙ ap (λ k. now (key k)) (one r d);
          });
      same = shown-same a b (record { told = refl; limit = refl; device_limit = refl; taken = refl; next = refl; pins = refl; current = refl; most = refl })
          (λ q. elim (eqb_tells q (key p)) [
            | inl e ↦ same-at a b q (a.frame (a.place q)) x refl
                (ap (λ k. at a.frame f x (at a.place (key p) f k)) e.1 ∙ ap (at a.frame f x) (at-here a.place (key p) f) ∙ at-here a.frame f x)
                (let was : is_in a.frame a.place q ≡ false = ap (is_in a.frame a.place) e.1 ∙ out in record {
                  pinned = and-false (is_key_of q (Some p)) ∙ sym (ap (λ k. k && (a.frame (a.place q)).pinned) was);
                  lent = and-false (is_key_of q (Some p)) ∙ sym (ap (λ k. k && (a.frame (a.place q)).lent) was);
                  held = λ t.
                      let told : a.told ≡ true = sym (or-false a.told) ∙ ap (λ k. a.told || (k && (a.frame (a.place q)).pinned)) (sym was) ∙ t in
                      ap (λ k. if is_key_of k (Some p) then bytes else now q) e.1 ∙ ap (λ k. if k then bytes else now q) (is_key_of-here p)
                      ∙ same told ∙ ap a.page (sym e.1) ∙ ap (λ k. if k then (a.frame (a.place q)).bytes else a.page q) (sym was);
                })
            | inr m ↦ away a b f x q refl (at-other a.place (key p) f q m.1) (λ t. kept t q) (key-of-none q (a.frame f).page none) (is_key_of-other q p m.1)
          ]);
    }

-- a page that a frame holds is told where it was not handed out, and a pin holds it or the devices tell
pub bytes-found : (a : Picture) (f : ℕ) (p : PageId) (k : Bool) → IsCoherent a → (a.frame f).page ≡ Some p → ((a.told || (a.frame f).pinned) && not (a.frame f).lent) ≡ k
    → bytes_told a (key p) ≡ (if k then Some (a.frame f).bytes else None)
bytes-found a f p k h e t =
    let at_f : a.place (key p) ≡ f = (h f).found p e in
    let inside : is_in a.frame a.place (key p) ≡ true = in-found a f p h e in
    let y : Frame = a.frame (a.place (key p)) in
    ap (λ s. if s && tells a (key p) then Some (held_in a.frame a.place a.page (key p)) else None) ((h f).taken p e)
    ∙ ap (λ s. if (a.told || (s && y.pinned)) && not (s && y.lent) then Some (if s then y.bytes else a.page (key p)) else None) inside
    ∙ ap (λ g. if (a.told || (a.frame g).pinned) && not (a.frame g).lent then Some (a.frame g).bytes else None) at_f
    ∙ ap (λ s. if s then Some (a.frame f).bytes else None) t

pub lent-found : (a : Picture) (f : ℕ) (p : PageId) → IsCoherent a → (a.frame f).page ≡ Some p → is_lent a.frame a.place (key p) ≡ (a.frame f).lent
lent-found a f p h e =
    ap (λ s. s && (a.frame (a.place (key p))).lent) (in-found a f p h e) ∙ ap (λ g. (a.frame g).lent) ((h f).found p e)

-- told, or pinned, and not handed out
pub told-of : (t : Bool) (x : Frame) → x.pinned ≡ false → x.lent ≡ false → ((t || x.pinned) && not x.lent) ≡ t
told-of t x e l = (λ i. (t || e i) && not (l i)) ∙ both t
  where
    both : (t : Bool) → ((t || false) && true) ≡ t
    both true = refl
    both false = refl

pub told-pin : (t : Bool) (x : Frame) → x.pinned ≡ true → x.lent ≡ false → ((t || x.pinned) && not x.lent) ≡ true
told-pin t x e l = (λ i. (t || e i) && not (l i)) ∙ both t
  where
    both : (t : Bool) → ((t || true) && true) ≡ true
    both true = refl
    both false = refl

pub pinned-found : (a : Picture) (f : ℕ) (p : PageId) → IsCoherent a → (a.frame f).page ≡ Some p → is_pinned a.frame a.place (key p) ≡ (a.frame f).pinned
pinned-found a f p h e =
    ap (λ s. s && (a.frame (a.place (key p))).pinned) (in-found a f p h e) ∙ ap (λ g. (a.frame g).pinned) ((h f).found p e)

-- a pin was made of the page in a frame
pub record Pinned (a b : Picture) (p : PageId) (held : List ℕ) : Type 0 where
  pub coherent : IsCoherent b
  pub was : bytes_told a (key p) ≡ unpinned_bytes a.told (Some held)
  pub after : shown b ≡ with_pin (shown a) (key p) held

pub was-of : (t : Bool) (x : List ℕ) → ◌≡◌ {A = Option (List ℕ)} (if t then Some x else None) (unpinned_bytes t (Some x))
was-of true x = refl
was-of false x = refl

pub held : (a : Picture) (f : ℕ) (p : PageId) → IsCoherent a → (a.frame f).page ≡ Some p → (a.frame f).pinned ≡ false → (a.frame f).lent ≡ false
    → Pinned a (record a { frame = at a.frame f (record (a.frame f) { pinned = true }); pins = a.pins + 1 }) p (a.frame f).bytes
held a f p h e out home =
    let x : Frame = record (a.frame f) { pinned = true } in
    let b : Picture = record a { frame = at a.frame f x; pins = a.pins + 1 } in
    let here : b.frame f ≡ x = at-here a.frame f x in
    let frames : IsCoherent b = coherent-at a b f x refl
    (λ g apart. fits-kept a b g (a.frame g) (h g) refl (λ r d. refl) (λ r d. refl) (λ r d _ t. refl))
    (record { found = (h f).found; taken = (h f).taken; whole = (h f).whole; clean = (h f).clean; apart = λ _. home; paged = (h f).paged }) in
    let e' : (b.frame f).page ≡ Some p = ap (λ (z : Frame). z.page) here ∙ e in
    let others : (q : ℕ) → q ≢ key p → SameAt a b q = λ q apart. away a b f x q refl refl (λ t. refl) (key-of-other q (a.frame f).page p e apart) (key-of-other q (a.frame f).page p e apart) in record {
      coherent = frames;
      was = bytes-found a f p a.told h e (told-of a.told (a.frame f) out home) ∙ was-of a.told (a.frame f).bytes;
      after = λ i. record (shown b) {
        bytes = λ q. bytes-at a b (key p) (Some (a.frame f).bytes) refl (λ r _. refl) others
            (bytes-found b f p true frames e' (ap (λ (z : Frame). (a.told || z.pinned) && not z.lent) here ∙ told-pin a.told x refl home) ∙ ap (λ (z : Frame). Some z.bytes) here) q i;
        pinned = λ q. pinned-at a b (key p) true others (pinned-found b f p frames e' ∙ ap (λ (z : Frame). z.pinned) here) q i;
        of_heap = λ q. same-lent a b (key p) others (lent-found b f p frames e' ∙ ap (λ (z : Frame). z.lent) here ∙ sym (lent-found a f p h e)) q i;
      };
    }

-- a new page came into an empty frame, pinned
pub record Made (a b : Picture) (p : PageId) : Type 0 where
  pub coherent : IsCoherent b
  pub no_bytes : bytes_told a (key p) ≡ None
  pub not_pinned : is_pinned a.frame a.place (key p) ≡ false
  pub not_lent : is_lent a.frame a.place (key p) ≡ false
  pub after : shown b ≡ with_new (shown a) (key p)

-- a page that is not taken is in no frame
pub not-in : (a : Picture) (p : PageId) → IsCoherent a → a.taken (key p) ≡ false → is_in a.frame a.place (key p) ≡ false
not-in a p h e = bool-not (is_in a.frame a.place (key p)) (λ t. false≢true (sym e ∙ (h (a.place (key p))).taken p (page-of-in a p t)))

pub settled : (a : Picture) (f : ℕ) (p : PageId) → IsCoherent a → (a.frame f).page ≡ None → a.taken (key p) ≡ false
    → Made a (record a {
      frame = at a.frame f (record { bytes = zero_page; page = Some p; dirty = true; pinned = true; lent = false });
      place = at a.place (key p) f;
      taken = at a.taken (key p) true;
      next = at a.next (key p) None;
      pins = a.pins + 1;
    }) p
settled a f p h none free =
    let x : Frame = record { bytes = zero_page; page = Some p; dirty = true; pinned = true; lent = false } in
    let b : Picture = record a { frame = at a.frame f x; place = at a.place (key p) f; taken = at a.taken (key p) true; next = at a.next (key p) None; pins = a.pins + 1 } in
    let one : (r : PageId) → ◌≡◌ {A = Option PageId} (Some p) (Some r) → p ≡ r = λ r d. cc in
    let here : b.frame f ≡ x = at-here a.frame f x in
    let e' : (b.frame f).page ≡ Some p = ap (λ (z : Frame). z.page) here in
    let out : is_in a.frame a.place (key p) ≡ false = not-in a p h free in
    let other : (g : ℕ) (r : PageId) → (a.frame g).page ≡ Some r → key r ≢ key p = λ g r d s. not-found a g r (key p) h d out (sym s) in
    let frames : IsCoherent b = coherent-at a b f x refl
    (λ g apart. fits-kept a b g (a.frame g) (h g) refl (λ r d. at-other a.place (key p) f (key r) (other g r d))
    (λ r d. at-other a.taken (key p) true (key r) (other g r d)) (λ r d _ t. refl))
    (record {
      found = λ r d. ap (λ k. at a.place (key p) f (key k)) (sym (one r d)) ∙ at-here a.place (key p) f;
      taken = λ r d. ap (λ k. at a.taken (key p) true (key k)) (sym (one r d)) ∙ at-here a.taken (key p) true;
      whole = λ r d l. length-zero_page;
      clean = λ r d new l t. absurd (cc);
      apart = λ _. refl;
      paged = λ l. absurd (false≢true l);
    }) in
    let others : (q : ℕ) → q ≢ key p → SameAt a b q = λ q apart. away a b f x q refl (at-other a.place (key p) f q apart) (λ t. refl)
    (key-of-none q (a.frame f).page none) (is_key_of-other q p apart) in record {
      coherent = frames;
      no_bytes = ap (λ s. if s && tells a (key p) then Some (held_in a.frame a.place a.page (key p)) else None) free;
      not_pinned = ap (λ s. s && (a.frame (a.place (key p))).pinned) out;
      not_lent = ap (λ s. s && (a.frame (a.place (key p))).lent) out;
      after = λ i. record (shown b) {
        bytes = λ q. bytes-at a b (key p) (Some zero_page) refl (λ r apart. at-other a.taken (key p) true r apart) others
            (bytes-found b f p true frames e' (ap (λ (z : Frame). (a.told || z.pinned) && not z.lent) here ∙ told-pin a.told x refl refl) ∙ ap (λ (z : Frame). Some z.bytes) here) q i;
        pinned = λ q. pinned-at a b (key p) true others (pinned-found b f p frames e' ∙ ap (λ (z : Frame). z.pinned) here) q i;
        of_heap = λ q. same-lent a b (key p) others (lent-found b f p frames e' ∙ ap (λ (z : Frame). z.lent) here ∙ sym (ap (λ s. s && (a.frame (a.place (key p))).lent) out)) q i;
      };
    }

-- b is sound in its frames, and the space s
pub record Becomes (b : Picture) (s : Space) : Type 0 where
  pub coherent : IsCoherent b
  pub after : shown b ≡ s

pub if-unpinned : (t : Bool) (x : List ℕ) → ◌≡◌ {A = Option (List ℕ)} (if t then Some x else None) (unpinned_bytes t (Some x))
if-unpinned true x = refl
if-unpinned false x = refl

-- a pin was given back
pub unpinned : (a : Picture) (f : ℕ) (p : PageId) → IsCoherent a → (a.frame f).page ≡ Some p → (a.frame f).pinned ≡ true
    → Becomes (record a { frame = at a.frame f (record (a.frame f) { pinned = false }); pins = a.pins - 1 }) (without_pin (shown a) (key p))
unpinned a f p h e held =
    let x : Frame = record (a.frame f) { pinned = false } in
    let b : Picture = record a { frame = at a.frame f x; pins = a.pins - 1 } in
    let here : b.frame f ≡ x = at-here a.frame f x in
    let frames : IsCoherent b = coherent-at a b f x refl
    (λ g apart. fits-kept a b g (a.frame g) (h g) refl (λ r d. refl) (λ r d. refl) (λ r d _ t. refl))
    (record { found = (h f).found; taken = (h f).taken; whole = (h f).whole; clean = (h f).clean; apart = λ p. absurd (false≢true p); paged = (h f).paged }) in
    let e' : (b.frame f).page ≡ Some p = ap (λ (z : Frame). z.page) here ∙ e in
    let others : (q : ℕ) → q ≢ key p → SameAt a b q = λ q apart. away a b f x q refl refl (λ t. refl) (key-of-other q (a.frame f).page p e apart) (key-of-other q (a.frame f).page p e apart) in
    let home : (a.frame f).lent ≡ false = (h f).apart held in
    let was : bytes_told a (key p) ≡ Some (a.frame f).bytes = bytes-found a f p true h e (told-pin a.told (a.frame f) held home) in record {
      coherent = frames;
      after = λ i. record (shown b) {
        bytes = λ q. bytes-at a b (key p) (unpinned_bytes a.told (bytes_told a (key p))) refl (λ r _. refl) others
            (bytes-found b f p a.told frames e' (ap (λ (z : Frame). (a.told || z.pinned) && not z.lent) here ∙ told-of a.told x refl home)
            ∙ ap (λ (z : Frame). if a.told then Some z.bytes else None) here
            ∙ if-unpinned a.told (a.frame f).bytes ∙ ap (unpinned_bytes a.told) (sym was)) q i;
        pinned = λ q. pinned-at a b (key p) false others (pinned-found b f p frames e' ∙ ap (λ (z : Frame). z.pinned) here) q i;
        of_heap = λ q. same-lent a b (key p) others (lent-found b f p frames e' ∙ ap (λ (z : Frame). z.lent) here ∙ sym (lent-found a f p h e)) q i;
      };
    }

-- a page that is in a frame was given back
pub released : (a : Picture) (f : ℕ) (p : PageId) → IsCoherent a → (a.frame f).page ≡ Some p → (a.frame f).pinned ≡ false → (a.frame f).lent ≡ false
    → Becomes (record a { frame = at a.frame f (record (a.frame f) { page = None }); taken = at a.taken (key p) false; next = at a.next (key p) None }) (without_page (shown a) (key p))
released a f p h e out home =
    let x : Frame = record (a.frame f) { page = None } in
    let b : Picture = record a { frame = at a.frame f x; taken = at a.taken (key p) false; next = at a.next (key p) None } in
    let here : b.frame f ≡ x = at-here a.frame f x in
    let others : (q : ℕ) → q ≢ key p → SameAt a b q = λ q apart. away a b f x q refl refl (λ t. refl) (key-of-other q (a.frame f).page p e apart) refl in
    let gone : is_in b.frame b.place (key p) ≡ false = ap (λ k. is_key_of (key p) (b.frame k).page) ((h f).found p e) ∙ ap (λ (z : Frame). is_key_of (key p) z.page) here in record {
      coherent = coherent-at a b f x refl
          (λ g apart. fits-kept a b g (a.frame g) (h g) refl (λ r d. refl) (λ r d. at-other a.taken (key p) false (key r) (other-page a f g p r h e d apart)) (λ r d _ t. refl))
          (record {
            found = λ r d. none-apart None r (a.place (key r) ≡ f) refl d;
            taken = λ r d. none-apart None r (b.taken (key r) ≡ true) refl d;
            whole = λ r d l. none-apart None r (length x.bytes ≡ 4096) refl d;
            clean = λ r d _ l t. none-apart None r (x.bytes ≡ a.page (key r)) refl d;
            apart = λ _. home;
            paged = λ l. absurd (false≢true (sym home ∙ l));
          });
      after = λ i. record (shown b) {
        bytes = λ q. bytes-at a b (key p) None refl (λ r apart. at-other a.taken (key p) false r apart) others
            (ap (λ s. if s && tells b (key p) then Some (held_in b.frame b.place b.page (key p)) else None) (at-here a.taken (key p) false)) q i;
        pinned = λ q. same-pins a b (key p) others
            (ap (λ s. s && (b.frame (b.place (key p))).pinned) gone ∙ sym (pinned-found a f p h e ∙ out)) q i;
        of_heap = λ q. same-lent a b (key p) others
            (ap (λ s. s && (b.frame (b.place (key p))).lent) gone ∙ sym (lent-found a f p h e ∙ home)) q i;
      };
    }

-- a page that is in no frame was given back
pub dropped : (a : Picture) (p : PageId) → IsCoherent a → is_in a.frame a.place (key p) ≡ false
    → Becomes (record a { taken = at a.taken (key p) false; next = at a.next (key p) None }) (without_page (shown a) (key p))
dropped a p h out =
    let b : Picture = record a { taken = at a.taken (key p) false; next = at a.next (key p) None } in
    let others : (q : ℕ) → q ≢ key p → SameAt a b q = λ q apart. same-at a b q (a.frame (a.place q)) (a.frame (a.place q)) refl refl
    (same-here a.told q (a.frame (a.place q)) (a.frame (a.place q)) a.page a.page refl refl refl refl (λ t o. refl)) in record {
      coherent = λ g. fits-kept a b g (a.frame g) (h g) refl (λ r d. refl) (λ r d. at-other a.taken (key p) false (key r) (λ s. not-found a g r (key p) h d out (sym s))) (λ r d _ t. refl);
      after = λ i. record (shown b) {
        bytes = λ q. bytes-at a b (key p) None refl (λ r apart. at-other a.taken (key p) false r apart) others
            (ap (λ s. if s && tells b (key p) then Some (held_in b.frame b.place b.page (key p)) else None) (at-here a.taken (key p) false)) q i;
      };
    }

-- another successor
pub linked : (a : Picture) (p : PageId) (to : Option ℕ) → IsCoherent a → Becomes (record a { next = at a.next (key p) to }) (with_next (shown a) (key p) to)
linked a p to h =
    let b : Picture = record a { next = at a.next (key p) to } in record {
      coherent = λ g. fits-kept a b g (a.frame g) (h g) refl (λ r d. refl) (λ r d. refl) (λ r d _ t. refl);
      after = refl;
    }
