-- A heap that was locked, or was not.
use Rattle.std.specs.Prelude.{◌≡◌, ℕ, ◌<◌, ◌||◌, not, Bool, true, false, List, [], ◌∷◌, map, Option, Some, None}
use Rattle.std.specs.List.{AllByRecursion}
use Rattle.std.proofs.Common.{◌∙◌, sym, ap, subst, refl, inl, inr, arith}
use Rattle.std.proofs.lemmas.Bool.{false≢true}
use Rattle.std.proofs.lemmas.Bool.Decides.{nat_tests, eqb_tells}
use Rattle.hg_io.specs.declared.device.PageDevice.{Ghosts}
use Rattle.hg_base.specs.Causes.{HasCause, PinFault, Later}
use Rattle.hg_base.specs.Content.{Objects}
use Rattle.hg_base.specs.HeapPage.{Stands}
use Rattle.hg_base.specs.HeapStates.{NamesHeapPage, ReadFault}
use Rattle.hg_base.specs.Lines.{AreApart, has_page}
use Rattle.hg_base.specs.Space.{Space, Counts, key, unpinned_bytes, with_counts}
use Rattle.hg_base.specs.declared.PageId.{PageId}
use Rattle.hg_base.specs.declared.pages.PageFault.{PageFault}
use Rattle.hg_base.specs.declared.pages.PageFault.TheVariants as fault
use Rattle.hg_raw.specs.Frames.{Frame, ChainSeen, numbers}
use Rattle.hg_pool.specs.Shown.{state_of, max_of}
use Rattle.hg_pool.specs.declared.parts.Parts.{Parts}
use Rattle.hg_reloc.specs.Blocks.{frame}
use Rattle.hg_reloc.specs.Moves.{Moves}
use Rattle.hg_reloc.specs.StandingLaws.{LeadsTo, AreRewritten, AreRelocated}
use Rattle.hg_heap.specs.Resting.{temp_key, Rests, AreTold, Keeps}
use Rattle.hg_heap.specs.Handing.{contents, out_of, all_back, HadBytes, AreOut, HandsOut}
use Rattle.hg_heap.specs.Relocating.{AreMapped, IsDamageOf, NothingStands, all_stay}
use Rattle.hg_heap.specs.Locking.{IsLockedIn, KeepsObjects, MovesAddresses, KeepsBytes}
use Rattle.hg_heap.proofs.Frames.{apart-numbers}
use Rattle.hg_heap.proofs.Mapping.{moved-stands, same-stands, leads-all}
use Rattle.hg_heap.proofs.Turns.{back-same}

later_same : (n : Counts) → Later n n
later_same n = record { main_device = omega arith; temp_device = omega arith; main = omega arith; temp = omega arith; main_full = omega arith; temp_full = omega arith }

pub none-cause : (a b : Space) → b.counts ≡ a.counts → HasCause a b None
none-cause a b e = record { later = subst (λ n. Later a.counts n) (sym e) (later_same a.counts); counts = e; damage = tt }

-- What a space told is what was found.

told-one : (t : Bool) (o : Option (List ℕ)) (b w : List ℕ) → o ≡ Some b → o ≡ unpinned_bytes t (Some w) → b ≡ w
told-one true o b w e h = let s : ◌≡◌ {A = Option (List ℕ)} (Some b) (Some w) = sym e ∙ h in cc
told-one false o b w e h = let s : ◌≡◌ {A = Option (List ℕ)} (Some b) None = sym e ∙ h in absurd (cc)

pub told-had : (s : Space) (pages : List ℕ) (bytes olds : List (List ℕ)) → AreTold s pages bytes → HadBytes s pages olds → bytes ≡ olds
told-had s [] [] [] t h = refl
told-had s [] [] (w ∷ olds) t h = absurd h
told-had s [] (b ∷ bytes) olds t h = absurd t
told-had s (n ∷ pages) [] olds t h = absurd t
told-had s (n ∷ pages) (b ∷ bytes) [] t h = absurd h
told-had s (n ∷ pages) (b ∷ bytes) (w ∷ olds) t h =
    ap (λ x. x ∷ bytes) (told-one s.told (s.bytes (temp_key n)) b w t.0 h.0) ∙ ap (λ l. w ∷ l) (told-had s pages bytes olds t.1 h.1)

numbers-stay : (xs : List Frame) → map frame (contents xs) ≡ numbers xs → all_stay xs ≡ true
numbers-stay [] h = refl
numbers-stay (x ∷ xs) h =
    let e : frame x.1 ≡ x.0 = cc in
    let r : map frame (contents xs) ≡ numbers xs = cc in
    grind (arith, nat_tests, numbers-stay xs r)

module _ {M T : Type 0} where
  pub out-renumber : (m : Ghosts M) (t : Ghosts T) (p : Parts M T) (pages : List ℕ) (fs gs : List Frame) → AreOut m t p pages fs → numbers gs ≡ numbers fs → AreOut m t p pages gs
  out-renumber m t p [] [] [] h e = tt
  out-renumber m t p [] [] (g ∷ gs) h e = absurd (cc)
  out-renumber m t p [] (f ∷ fs) gs h e = absurd h
  out-renumber m t p (n ∷ pages) [] gs h e = absurd h
  out-renumber m t p (n ∷ pages) (f ∷ fs) [] h e = absurd (cc)
  out-renumber m t p (n ∷ pages) (f ∷ fs) (g ∷ gs) h e =
      let s : g.0 ≡ f.0 = cc in
      let r : numbers gs ≡ numbers fs = cc in
      (record { taken = h.0.taken; out = h.0.out; inside = h.0.inside; frame = h.0.frame ∙ sym s }, out-renumber m t p pages fs gs h.1 r)

  pub record Locks (m : Ghosts M) (t : Ghosts T) (a b : Parts M T) (pages : List ℕ) (moves : Moves) (c : ChainSeen) : Type 0 where
    pub locked : IsLockedIn m t b pages c
    pub content : KeepsObjects (state_of m t a) (max_of a) pages c
    pub addresses : MovesAddresses (state_of m t a) pages moves c
    pub bytes : KeepsBytes (state_of m t a) pages c

  pub locks-moved : (m : Ghosts M) (t : Ghosts T) (a b : Parts M T) (pages : List ℕ) (moves : Moves) (c d : ChainSeen) → HandsOut m t a b pages c → AreMapped moves c.frames
      → AllByRecursion (λ f. f < max_of b) (numbers c.frames) → AllByRecursion (λ f. f < 65536) (numbers c.frames) → true ≡ not (all_stay c.frames)
      → d.region ≡ c.region → numbers d.frames ≡ numbers c.frames → AreRewritten moves (numbers c.frames) (contents c.frames) (contents d.frames)
      → AreRelocated moves (numbers c.frames) (contents c.frames) (contents d.frames) → Locks m t a b pages moves d
  locks-moved m t a b pages moves c d h mapped below small moved region same written relocated =
      let apart : AreApart (numbers c.frames) = apart-numbers (numbers c.frames) h.apart in
      record {
        locked = record {
          each = out-renumber m t b pages c.frames d.frames h.each same;
          apart = subst AreApart (sym same) apart;
          below = subst (AllByRecursion (λ f. f < max_of b)) (sym same) below;
          of_region = region ∙ h.of_region;
        };
        content = λ o k.
            let e : k.bytes ≡ contents c.frames = told-had (state_of m t a) pages k.bytes (contents c.frames) k.told h.had in
            subst (λ q. Stands o q (contents d.frames)) (sym same)
            (moved-stands moves c.frames (contents d.frames) o k.frames mapped apart small written k.well (subst (Stands o k.frames) e k.stands));
        addresses = λ bytes told.
            let e : bytes ≡ contents c.frames = told-had (state_of m t a) pages bytes (contents c.frames) told h.had in
            inr (record {
              leads = subst (λ q. LeadsTo moves (map frame q) (numbers d.frames)) (sym e) (subst (λ q. LeadsTo moves (map frame (contents c.frames)) q) (sym same) (leads-all moves c.frames mapped));
              moved = subst (λ q. AreRelocated moves (numbers d.frames) q (contents d.frames)) (sym e)
                  (subst (λ q. AreRelocated moves q (contents c.frames) (contents d.frames)) (sym same) relocated);
            });
        bytes = λ bytes told stays.
            let e : bytes ≡ contents c.frames = told-had (state_of m t a) pages bytes (contents c.frames) told h.had in
            absurd (false≢true (sym (ap not (numbers-stay c.frames (ap (map frame) (sym e) ∙ stays ∙ same))) ∙ sym moved));
      }

  pub locks-same : (m : Ghosts M) (t : Ghosts T) (a b : Parts M T) (pages : List ℕ) (moves : Moves) (c : ChainSeen) → HandsOut m t a b pages c
      → AllByRecursion (λ f. f < max_of b) (numbers c.frames) → false ≡ not (all_stay c.frames) → Locks m t a b pages moves c
  locks-same m t a b pages moves c h below moved =
      let stay : all_stay c.frames ≡ true = stays (all_stay c.frames) moved in
      record {
        locked = record { each = h.each; apart = apart-numbers (numbers c.frames) h.apart; below = below; of_region = h.of_region };
        content = λ o k. same-stands c.frames o k.frames stay (subst (Stands o k.frames) (told-had (state_of m t a) pages k.bytes (contents c.frames) k.told h.had) k.stands);
        addresses = λ bytes told. inl (sym (told-had (state_of m t a) pages bytes (contents c.frames) told h.had));
        bytes = λ bytes told _. sym (told-had (state_of m t a) pages bytes (contents c.frames) told h.had);
      }
    where
      stays : (k : Bool) → false ≡ not k → k ≡ true
      stays true e = refl
      stays false e = absurd (false≢true e)

  -- Damage was found: the pages are put back with their bytes.

  pub damaged-same : (m : Ghosts M) (t : Ghosts T) (a b z : Parts M T) (pages : List ℕ) (c : ChainSeen) → Rests (state_of m t a) pages → HandsOut m t a b pages c
      → state_of m t z ≡ all_back (state_of m t b) pages (contents c.frames) → state_of m t z ≡ state_of m t a
  damaged-same m t a b z pages c r h e =
      back-same m t a b z pages (contents c.frames) r h.had (record { counts = (state_of m t b).counts; after = h.state ∙ (λ i. with_counts (out_of (state_of m t a) pages) ((sym (ap (λ (v : Space). v.counts) h.state)) i)) }) e
      ∙ (λ i. with_counts (state_of m t a) ((ap (λ (v : Space). v.counts) h.state) i))

  pub damage-cause : (m : Ghosts M) (t : Ghosts T) (a b z : Parts M T) (pages : List ℕ) (max : ℕ) (c : ChainSeen) (f : PageFault) → HandsOut m t a b pages c → state_of m t z ≡ state_of m t a
      → IsDamageOf pages f → NothingStands max (contents c.frames) → ((state_of m t a).told ≡ true → (o : Objects) × Keeps (state_of m t a) max pages o)
      → HasCause (state_of m t a) (state_of m t z) (Some f)
  damage-cause m t a b z pages max c fault.MainFault h e d n k = absurd d
  damage-cause m t a b z pages max c fault.TempFault h e d n k = absurd d
  damage-cause m t a b z pages max c fault.MainFull h e d n k = absurd d
  damage-cause m t a b z pages max c fault.TempFull h e d n k = absurd d
  damage-cause m t a b z pages max c (fault.Damaged page check) h e d n k = record {
    later = subst (λ (v : Space). Later (state_of m t a).counts v.counts) (sym e) (later_same (state_of m t a).counts);
    counts = ap (λ (v : Space). v.counts) e;
    damage = untold (state_of m t a).told refl;
  }
    where
      untold : (q : Bool) → (state_of m t a).told ≡ q → (state_of m t a).told ≡ false
      untold false q = q
      untold true q =
          let w = k q in
          absurd (n w.0 w.1.frames (subst (Stands w.0 w.1.frames) (told-had (state_of m t a) pages w.1.bytes (contents c.frames) w.1.told h.had) w.1.stands) w.1.below w.1.well)

pub damage-read : (pages : List ℕ) (f : PageFault) → IsDamageOf pages f → ReadFault f
damage-read pages fault.MainFault d = tt
damage-read pages fault.TempFault d = tt
damage-read pages fault.MainFull d = absurd d
damage-read pages fault.TempFull d = absurd d
damage-read pages (fault.Damaged page check) d = d.1

among-keys : (pages : List ℕ) (n : ℕ) → has_page pages n ≡ true → has_page (map temp_key pages) (temp_key n) ≡ true
among-keys [] n h = absurd (false≢true h)
among-keys (k ∷ pages) n h = elim (eqb_tells k n) [
  | inl e ↦ grind (arith, nat_tests, ap temp_key e.1)
  | inr d ↦ grind (arith, nat_tests, d.1, among-keys pages n (sym (ap (λ b. b || has_page pages n) d.0) ∙ h))
]

pub damage-names : (pages : List ℕ) (f : PageFault) → IsDamageOf pages f → NamesHeapPage (map temp_key pages) f
damage-names pages fault.MainFault d = tt
damage-names pages fault.TempFault d = tt
damage-names pages fault.MainFull d = tt
damage-names pages fault.TempFull d = tt
damage-names pages (fault.Damaged page check) d = ap (λ (p : PageId). has_page (map temp_key pages) (key p)) d.0.1 ∙ among-keys pages d.0.0 d.0.2

pub pin-read : (f : PageFault) → PinFault f → ReadFault f
pin-read fault.MainFault d = tt
pin-read fault.TempFault d = tt
pin-read fault.MainFull d = absurd d
pin-read fault.TempFull d = absurd d
pin-read (fault.Damaged page check) d = absurd d

pub pin-names : (pages : List ℕ) (f : PageFault) → PinFault f → NamesHeapPage pages f
pin-names pages fault.MainFault d = tt
pin-names pages fault.TempFault d = tt
pin-names pages fault.MainFull d = tt
pin-names pages fault.TempFull d = tt
pin-names pages (fault.Damaged page check) d = absurd d
