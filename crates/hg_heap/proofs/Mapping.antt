-- The map of a heap's frames, made page by page.
use Rattle.std.specs.Prelude.{◌≡◌, ◌≢◌, ℕ, ◌<◌, ◌==◌, ◌&&◌, ◌||◌, ◌^◌, not, Bool, true, false, List, [], ◌∷◌, ◌++◌, take, drop, map, Option, None, Some, if◌then◌else◌}
use Rattle.std.specs.Int.{w32, from_le_bytes, to_le_bytes}
use Rattle.std.specs.List.{AllByRecursion}
use Rattle.std.proofs.Common.{◌∙◌, sym, ap, subst, refl, inl, inr, arith}
use Rattle.std.proofs.lemmas.Bool.{false≢true}
use Rattle.std.proofs.lemmas.Bool.Decides.{nat_tests, eqb_tells}
use Rattle.std.proofs.lemmas.Nat.{from_le_bytes-to_le_bytes_4}
use Rattle.std.proofs.lemmas.Option.{none-some}
use Rattle.hg_base.specs.Content.{Object, Objects, address_of}
use Rattle.hg_base.specs.HeapFacts.{AreWellPlaced}
use Rattle.hg_base.specs.HeapPage.{AreHeapPages, Stands}
use Rattle.hg_base.specs.Lines.{AreApart}
use Rattle.hg_raw.specs.Frames.{Frame, numbers, is_in}
use Rattle.hg_reloc.specs.Blocks.{frame, frame_number}
use Rattle.hg_reloc.specs.Checks.{IsRight}
use Rattle.hg_reloc.specs.FittingLaws.{ArePagesFit, stands_fits}
use Rattle.hg_reloc.specs.Moves.{Moves, entry, leads_to, or_itself}
use Rattle.hg_reloc.specs.StandingLaws.{LeadsTo, AreRewritten, stands_moved}
use Rattle.hg_heap.specs.Handing.{contents}
use Rattle.hg_heap.specs.Relocating.{has_named, AreMapped, all_stay, ReadsPage, NoObjectsFit, NothingStands}

-- One page more.

kept-entry : (old : Option ℕ) (t : Bool) (f g : ℕ) → old ≡ Some g → (t ≡ true → old ≡ None) → (if t then Some f else old) ≡ Some g
kept-entry old true f g e h = absurd (none-some g (sym (h refl) ∙ e))
kept-entry old false f g e h = e

entry-there : (a : Moves) (page : List ℕ) (k : ℕ) → entry a.entries (frame page) ≡ None → (frame page == k) ≡ true → entry a.entries k ≡ None
entry-there a page k h e = elim (eqb_tells (frame page) k) [
  | inl s ↦ ap (entry a.entries) (sym s.1) ∙ h
  | inr n ↦ absurd (false≢true (sym n.0 ∙ e))
]

pub mapped-kept : (a b : Moves) (page : List ℕ) (f : ℕ) (xs : List Frame) → ReadsPage a b page f → AreMapped a xs → AreMapped b xs
mapped-kept a b page f [] r h = tt
mapped-kept a b page f (x ∷ xs) r h = (
  r.entries (frame x.1) ∙ kept-entry (entry a.entries (frame x.1)) (frame page == frame x.1) f x.0 h.0 (entry-there a page (frame x.1) r.new_one),
  subst (IsRight x.1) (sym r.max) h.1,
  mapped-kept a b page f xs r h.2,
)

mapped-join : (m : Moves) (xs : List Frame) (x : Frame) → AreMapped m xs → entry m.entries (frame x.1) ≡ Some x.0 → IsRight x.1 m.max → AreMapped m (xs ++ x ∷ [])
mapped-join m [] x h e i = (e, i, tt)
mapped-join m (y ∷ xs) x h e i = (h.0, h.1, mapped-join m xs x h.2 e i)

if-here : (k f : ℕ) (o : Option ℕ) → (if k == k then Some f else o) ≡ Some f
if-here k f o = grind (arith, nat_tests)

pub mapped-more : (a b : Moves) (xs : List Frame) (x : Frame) → ReadsPage a b x.1 x.0 → AreMapped a xs → AreMapped b (xs ++ x ∷ [])
mapped-more a b xs x r h = mapped-join b xs x (mapped-kept a b x.1 x.0 xs r h)
    (r.entries (frame x.1) ∙ if-here (frame x.1) x.0 (entry a.entries (frame x.1))) (subst (IsRight x.1) (sym r.max) r.right)

named-last : (xs : List Frame) (x : Frame) (g : ℕ) → has_named (xs ++ x ∷ []) g ≡ (has_named xs g || (frame x.1 == g))
named-last [] x g = or-false (frame x.1 == g)
  where
    or-false : (b : Bool) → (b || false) ≡ b
    or-false true = refl
    or-false false = refl
named-last (y ∷ xs) x g = ap (λ b. (frame y.1 == g) || b) (named-last xs x g) ∙ or-assoc (frame y.1 == g) (has_named xs g) (frame x.1 == g)
  where
    or-assoc : (a b c : Bool) → (a || (b || c)) ≡ ((a || b) || c)
    or-assoc true b c = refl
    or-assoc false b c = refl

or-none : (a b : Bool) → (a || b) ≡ false → (a ≡ false) × (b ≡ false)
or-none true b e = absurd (cc)
or-none false b e = (refl, e)

pub named-more : (a b : Moves) (xs : List Frame) (x : Frame) → ReadsPage a b x.1 x.0 → ((g : ℕ) → has_named xs g ≡ false → entry a.entries g ≡ None)
    → (g : ℕ) → has_named (xs ++ x ∷ []) g ≡ false → entry b.entries g ≡ None
named-more a b xs x r h g e =
    let o = or-none (has_named xs g) (frame x.1 == g) (sym (named-last xs x g) ∙ e) in
    r.entries g ∙ ap (λ t. if t then Some x.0 else entry a.entries g) o.1 ∙ h g o.0

leads-last : (xs : List ℕ) (x g : ℕ) → is_in g (xs ++ x ∷ []) ≡ (if x == g then true else is_in g xs)
leads-last [] x g = grind (arith, nat_tests)
leads-last (y ∷ xs) x g = grind (arith, nat_tests, leads-last xs x g)

pub leads-more : (a b : Moves) (xs : List ℕ) (page : List ℕ) (f : ℕ) → ReadsPage a b page f → ((g : ℕ) → leads_to a.entries g ≡ is_in g xs)
    → (g : ℕ) → leads_to b.entries g ≡ is_in g (xs ++ f ∷ [])
leads-more a b xs page f r h g = r.leads g ∙ ap (λ t. if f == g then true else t) (h g) ∙ sym (leads-last xs f g)

stay-last : (xs : List Frame) (x : Frame) → all_stay (xs ++ x ∷ []) ≡ (all_stay xs && (frame x.1 == x.0))
stay-last [] x = and-true (frame x.1 == x.0)
  where
    and-true : (b : Bool) → (b && true) ≡ b
    and-true true = refl
    and-true false = refl
stay-last (y ∷ xs) x = ap (λ b. (frame y.1 == y.0) && b) (stay-last xs x) ∙ and-assoc (frame y.1 == y.0) (all_stay xs) (frame x.1 == x.0)
  where
    and-assoc : (a b c : Bool) → (a && (b && c)) ≡ ((a && b) && c)
    and-assoc true b c = refl
    and-assoc false b c = refl

pub moved-more : (xs : List Frame) (x : Frame) (moved : Bool) → moved ≡ not (all_stay xs) → (moved || not (frame x.1 == x.0)) ≡ not (all_stay (xs ++ x ∷ []))
moved-more xs x moved e =
    ap (λ b. b || not (frame x.1 == x.0)) e ∙ not-and (all_stay xs) (frame x.1 == x.0) ∙ sym (ap not (stay-last xs x))
  where
    not-and : (a b : Bool) → (not a || not b) ≡ not (a && b)
    not-and true b = refl
    not-and false b = refl

-- What a heap that stands names.

named-frame : (page : List ℕ) (f : ℕ) → take 4 (drop 4 page) ≡ to_le_bytes w32 f → f < 2 ^ 32 → frame page ≡ f
unfolding frame_number
named-frame page f h s = ap (from_le_bytes w32) h ∙ from_le_bytes-to_le_bytes_4 f s

pub named-frames : (a : ℕ → ℕ) (roots : List (Option ℕ)) (layout : List (List Object)) (fs : List ℕ) (pages : List (List ℕ)) → AreHeapPages a roots layout fs pages
    → AllByRecursion (λ f. f < 65536) fs → map frame pages ≡ fs
named-frames a roots [] [] [] h s = refl
named-frames a roots [] [] (p ∷ pages) h s = absurd h
named-frames a roots [] (f ∷ fs) pages h s = absurd h
named-frames a roots (os ∷ layout) [] pages h s = absurd h
named-frames a roots (os ∷ layout) (f ∷ fs) [] h s = absurd h
named-frames a roots (os ∷ layout) (f ∷ fs) (p ∷ pages) h s =
    ap (λ k. k ∷ map frame pages) (named-frame p f h.0.stood_in (let l : f < 65536 = s.0 in omega arith))
    ∙ ap (λ l. f ∷ l) (named-frames a [] layout fs pages h.1 s.1)

-- Damage is found in no heap that stands.

fits-there : (max : ℕ) (a : ℕ → ℕ) (roots : List (Option ℕ)) (layout : List (List Object)) (fs : List ℕ) (front back : List Frame) (x : Frame)
    → NoObjectsFit max x.1 → ArePagesFit max a roots layout fs (contents (front ++ x ∷ back)) → ⊥
fits-there max a roots [] [] [] back x n h = absurd h
fits-there max a roots [] [] (y ∷ front) back x n h = absurd h
fits-there max a roots [] (f ∷ fs) [] back x n h = absurd h
fits-there max a roots [] (f ∷ fs) (y ∷ front) back x n h = absurd h
fits-there max a roots (os ∷ layout) [] [] back x n h = absurd h
fits-there max a roots (os ∷ layout) [] (y ∷ front) back x n h = absurd h
fits-there max a roots (os ∷ layout) (f ∷ fs) [] back x n h = n a roots os f h.0
fits-there max a roots (os ∷ layout) (f ∷ fs) (y ∷ front) back x n h = fits-there max a [] layout fs front back x n h.1

pub unfit-stands : (max : ℕ) (front back : List Frame) (x : Frame) → max < 65537 → NoObjectsFit max x.1 → NothingStands max (contents (front ++ x ∷ back))
unfit-stands max front back x few n o fs s below well =
    fits-there max (address_of o fs) o.roots o.layout fs front back x n (stands_fits max o fs (contents (front ++ x ∷ back)) (omega arith) below well s)

named-apart : (front back : List Frame) (x : Frame) → has_named front (frame x.1) ≡ true → AreApart (map frame (contents (front ++ x ∷ back))) → ⊥
named-apart [] back x h a = false≢true h
named-apart (y ∷ front) back x h a = elim (eqb_tells (frame y.1) (frame x.1)) [
  | inl e ↦ there front (frame y.1) a.0 (sym e.1)
  | inr n ↦ named-apart front back x (sym (ap (λ b. b || has_named front (frame x.1)) n.0) ∙ h) a.1
]
  where
    there : (zs : List Frame) (k : ℕ) → AllByRecursion (λ g. g ≢ k) (map frame (contents (zs ++ x ∷ back))) → frame x.1 ≡ k → ⊥
    there [] k h e = h.0 e
    there (z ∷ zs) k h e = there zs k h.1 e

pub twice-stands : (max : ℕ) (front back : List Frame) (x : Frame) → has_named front (frame x.1) ≡ true → NothingStands max (contents (front ++ x ∷ back))
twice-stands max front back x h o fs s below well =
    named-apart front back x h (subst AreApart (sym (named-frames (address_of o fs) o.roots o.layout fs (contents (front ++ x ∷ back)) s.bytes s.below)) s.apart)

-- A heap that stood stands.

pub leads-all : (m : Moves) (xs : List Frame) → AreMapped m xs → LeadsTo m (map frame (contents xs)) (numbers xs)
leads-all m [] h = tt
leads-all m (x ∷ xs) h = (ap (or_itself (frame x.1)) h.0, leads-all m xs h.2)

pub moved-stands : (m : Moves) (xs : List Frame) (news : List (List ℕ)) (o : Objects) (fs : List ℕ) → AreMapped m xs → AreApart (numbers xs) → AllByRecursion (λ f. f < 65536) (numbers xs)
    → AreRewritten m (numbers xs) (contents xs) news → AreWellPlaced o → Stands o fs (contents xs) → Stands o (numbers xs) news
moved-stands m xs news o fs h apart below w well s =
    let e : map frame (contents xs) ≡ fs = named-frames (address_of o fs) o.roots o.layout fs (contents xs) s.bytes s.below in
    stands_moved m o fs (numbers xs) (contents xs) news well s (subst (λ q. LeadsTo m q (numbers xs)) e (leads-all m xs h)) apart below w

stay-numbers : (xs : List Frame) → all_stay xs ≡ true → map frame (contents xs) ≡ numbers xs
stay-numbers [] h = refl
stay-numbers (x ∷ xs) h = elim (eqb_tells (frame x.1) x.0) [
  | inl e ↦ ap (λ k. k ∷ map frame (contents xs)) e.1 ∙ ap (λ l. x.0 ∷ l) (stay-numbers xs (sym (ap (λ b. b && all_stay xs) e.0) ∙ h))
  | inr n ↦ absurd (false≢true (sym (ap (λ b. b && all_stay xs) n.0) ∙ h))
]

pub same-stands : (xs : List Frame) (o : Objects) (fs : List ℕ) → all_stay xs ≡ true → Stands o fs (contents xs) → Stands o (numbers xs) (contents xs)
same-stands xs o fs h s =
    subst (λ q. Stands o q (contents xs)) (sym (named-frames (address_of o fs) o.roots o.layout fs (contents xs) s.bytes s.below) ∙ stay-numbers xs h) s

-- the frame that a page names is read from its bytes 4 to 8
pub read-frame : (page : List ℕ) → from_le_bytes w32 (take 4 (drop 4 page)) ≡ frame page
unfolding frame_number
read-frame page = refl
