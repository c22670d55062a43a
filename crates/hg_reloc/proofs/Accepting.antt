-- A page of a heap whose links fit is right.
use Rattle.std.specs.Prelude.{◌≡◌, ℕ, ◌+◌, ◌-◌, ◌*◌, ◌/◌, ◌%◌, ◌<◌, ◌≤◌, ◌^◌, if◌then◌else◌, ◌⊎◌, zero, suc, List, [], ◌∷◌, ◌++◌, length, take, drop, replicate, map, Option, None, Some}
use Rattle.std.specs.List.{AllByRecursion, flat_map, sum_by}
use Rattle.std.specs.Int.{w32, w64, from_le_bytes, to_le_bytes}
use Rattle.std.proofs.Common.{inl, inr, sym, ◌∙◌, ap, subst, refl, arith, append_assoc}
use Rattle.std.proofs.lemmas.Nat.{from_le_bytes-to_le_bytes_4}
use Rattle.std.proofs.lemmas.Bool.Decides.{eqb_tells}
use Rattle.std.proofs.lemmas.List.{take-take, drop-drop, drop-take}
use Rattle.std.proofs.lemmas.List.Sums.{sum_by-cons}
use Rattle.hg_base.specs.Content.{Object, row_object, directory, payload_length, object_size, offsets_from}
use Rattle.hg_base.specs.HeapPage.{link_word, link_bytes, object_link, object_bytes, IsHeapPage}
use Rattle.hg_reloc.specs.Moves.{Moves, moved_word}
use Rattle.hg_reloc.specs.Blocks.{number, frame_number, word, words, frame, HasObjects}
use Rattle.hg_reloc.specs.Checks.{starts, MayLead, IsLinked, AreLinkedFrom, IsRight}
use Rattle.hg_reloc.specs.Standing.{MovesLink, MovesLinks, LinkFits, LinksFit, AllLinksFit, FitsPage}
use Rattle.hg_reloc.proofs.Exact.{exact_right, exact_wrong}
use Rattle.hg_reloc.proofs.Pages.{has_objects, body, object_parts, length-object, number-object, word-link}

-- a map that moves nothing, under which the objects of a page are known
abbrev still : Moves
still = record { max = 0; entries = [] }

stays : (w : ℕ) → moved_word still w ≡ w
stays w = elim (eqb_tells w 0) [
  | inl e ↦ ap (λ b. if b then 0 else (w / 4096 * 4096 + w % 4096)) e.0 ∙ sym e.1
  | inr n ↦ ap (λ b. if b then 0 else (w / 4096 * 4096 + w % 4096)) n.0 ∙ omega arith
]

-- the words of links
link_fits : (own max : ℕ) (places : List ℕ) (limit : ℕ) (a : ℕ → ℕ) (l : Option ℕ) → LinkFits own max places limit a l → (link_word a l < 2 ^ 64) × MayLead own max places limit (link_word a l)
link_fits own max places limit a None h = (omega arith, inl refl)
link_fits own max places limit a (Some n) h = (h.0, inr h.1)

words_fit : (own max : ℕ) (places : List ℕ) (a : ℕ → ℕ) (links : List (Option ℕ)) (rest : List ℕ) → AllByRecursion (LinkFits own max places 4096 a) links
    → AllByRecursion (MayLead own max places 4096) (words (length links) (flat_map (link_bytes a) links ++ rest))
words_fit own max places a [] rest h = tt
words_fit own max places a (l ∷ links) rest h =
    let k = link_fits own max places 4096 a l h.0 in
    subst (λ q. AllByRecursion (MayLead own max places 4096) (words (suc (length links)) q)) (sym (append_assoc (link_bytes a l) (flat_map (link_bytes a) links) rest))
    (subst (MayLead own max places 4096) (sym (word-link a l (flat_map (link_bytes a) links ++ rest) k.0)) k.1, words_fit own max places a links rest h.1)

-- one object
link_is : (a : ℕ → ℕ) (o : Object) → link_word a (object_link o) < 2 ^ 64 → word (drop 8 (object_bytes a o)) ≡ link_word a (object_link o)
link_is a o h = ap (λ q. word (drop 8 q)) (object_parts a o) ∙ word-link a (object_link o) (body a o) h

object_linked : (own max : ℕ) (places : List ℕ) (at : ℕ) (a : ℕ → ℕ) (o : Object) → payload_length o < 2 ^ 16 → LinksFit own max places at a o → IsLinked own max places at (object_bytes a o)
object_linked own max places at a (row_object payload link) s h =
    let k = link_fits own max places at a link h.2 in
    record {
      row = λ _. subst (MayLead own max places at) (sym (link_is a (row_object payload link) k.0)) k.1;
      no_link = λ e. absurd (omega (arith, e));
      directory = λ e. absurd (omega (arith, e));
    }
object_linked own max places at a (directory links) s h =
    let n : number (object_bytes a (directory links)) / 8 ≡ length links = (let e = number-object a (directory links) s in omega arith) in
    let b : drop 16 (object_bytes a (directory links)) ≡ body a (directory links) = ap (drop 16) (object_parts a (directory links)) in
    record {
      row = λ e. absurd (omega (arith, e));
      no_link = λ _. link_is a (directory links) (omega arith);
      directory = λ _. subst (λ q. AllByRecursion (MayLead own max places 4096) (words q (drop 16 (object_bytes a (directory links))))) (sym n)
          (subst (λ q. AllByRecursion (MayLead own max places 4096) (words (length links) q)) (sym b)
          (words_fit own max places a links (replicate (object_size (directory links) - 16 - payload_length (directory links)) 0) h));
    }

-- all objects
starts_are : (a : ℕ → ℕ) (at : ℕ) (os : List Object) → starts at (map (object_bytes a) os) ≡ offsets_from at os
starts_are a at [] = refl
starts_are a at (o ∷ os) =
    ap (λ n. at ∷ starts (at + n) (map (object_bytes a) os)) (length-object a o) ∙ ap (λ q. at ∷ q) (starts_are a (at + object_size o) os)

objects_linked : (own max : ℕ) (places : List ℕ) (a : ℕ → ℕ) (at : ℕ) (os : List Object) → sum_by object_size os ≤ 4096 → AllLinksFit own max places a at os
    → AreLinkedFrom own max places at (map (object_bytes a) os)
objects_linked own max places a at [] s h = tt
objects_linked own max places a at (o ∷ os) s h =
    let e = sum_by-cons object_size o os in (
      object_linked own max places at a o (omega (arith, e)) h.0,
      subst (λ n. AreLinkedFrom own max places (at + n) (map (object_bytes a) os)) (sym (length-object a o)) (objects_linked own max places a (at + object_size o) os (omega (arith, e)) h.1),
    )

-- the objects of the page do not depend on what its addresses mean
still_link : (own max : ℕ) (places : List ℕ) (limit : ℕ) (a : ℕ → ℕ) (l : Option ℕ) → LinkFits own max places limit a l → MovesLink still a a l
still_link own max places limit a None h = tt
still_link own max places limit a (Some n) h = (h.0, stays (a n))

still_links : (own max : ℕ) (places : List ℕ) (limit : ℕ) (a : ℕ → ℕ) (ls : List (Option ℕ)) → AllByRecursion (LinkFits own max places limit a) ls → AllByRecursion (MovesLink still a a) ls
still_links own max places limit a [] h = tt
still_links own max places limit a (l ∷ ls) h = (still_link own max places limit a l h.0, still_links own max places limit a ls h.1)

still_object : (own max : ℕ) (places : List ℕ) (at : ℕ) (a : ℕ → ℕ) (o : Object) → LinksFit own max places at a o → MovesLinks still a a o
still_object own max places at a (row_object payload link) h = (h.0, h.1, still_link own max places at a link h.2)
still_object own max places at a (directory links) h = still_links own max places 4096 a links h

still_objects : (own max : ℕ) (places : List ℕ) (a : ℕ → ℕ) (at : ℕ) (os : List Object) → AllLinksFit own max places a at os → AllByRecursion (MovesLinks still a a) os
still_objects own max places a at [] h = tt
still_objects own max places a at (o ∷ os) h = (still_object own max places at a o h.0, still_objects own max places a (at + object_size o) os h.1)

frame_of : (page : List ℕ) (f : ℕ) → take 4 (drop 4 page) ≡ to_le_bytes w32 f → f < 2 ^ 32 → frame page ≡ f
unfolding frame_number
frame_of page f h s = ap (from_le_bytes w32) h ∙ from_le_bytes-to_le_bytes_4 f s

first_words : (n : ℕ) (xs : List ℕ) (k : ℕ) → 8 * n ≤ k → words n (take k xs) ≡ words n xs
unfolding word
first_words zero xs k h = refl
first_words (suc n) xs k h =
    let e : k ≡ 8 + (k - 8) = omega arith in
    ap (λ q. from_le_bytes w64 q ∷ words n (drop 8 (take k xs))) (take-take 8 k xs (omega arith))
    ∙ ap (λ q. word xs ∷ words n q) (ap (λ q. drop 8 (take q xs)) e ∙ drop-take 8 (k - 8) xs)
    ∙ ap (λ q. word xs ∷ q) (first_words n (drop 8 xs) (k - 8) (omega arith))

roots_linked : (own max : ℕ) (places : List ℕ) (a : ℕ → ℕ) (roots : List (Option ℕ)) (xs : List ℕ) → (length roots ≡ 4) ⊎ (roots ≡ []) → AllByRecursion (LinkFits own max places 4096 a) roots
    → xs ≡ flat_map (link_bytes a) roots ++ replicate (48 - 8 * length roots) 0 → AllByRecursion (MayLead own max places 4096) (words 4 xs)
roots_linked own max places a roots xs four h e = elim four [
  | inl n ↦ subst (λ q. AllByRecursion (MayLead own max places 4096) (words 4 q)) (sym e)
      (subst (λ q. AllByRecursion (MayLead own max places 4096) (words q (flat_map (link_bytes a) roots ++ replicate (48 - 8 * length roots) 0))) n
      (words_fit own max places a roots (replicate (48 - 8 * length roots) 0) h))
  | inr n ↦ subst (λ q. AllByRecursion (MayLead own max places 4096) (words 4 q)) (sym (e ∙ ap (λ rs. flat_map (link_bytes a) rs ++ replicate (48 - 8 * length rs) 0) n))
      (words_fit own max places a (None ∷ None ∷ None ∷ None ∷ []) (replicate 16 0) (tt, (tt, (tt, (tt, tt)))))
]

pub takes_page : (max : ℕ) (page : List ℕ) (a : ℕ → ℕ) (roots : List (Option ℕ)) (os : List Object) (f : ℕ) → FitsPage max a roots os f page → IsRight page max
takes_page max page a roots os f p =
    let h : IsHeapPage a roots os f page = p.is in
    let own : frame page ≡ f = frame_of page f h.stood_in (let s = p.small in omega arith) in
    let has : HasObjects page (map (object_bytes a) os) = has_objects still a a roots os f page (record {
      is = h;
      four = p.four;
      roots_move = still_links f max (offsets_from 64 os) 4096 a roots p.roots_fit;
      objects_move = still_objects f max (offsets_from 64 os) a 64 os p.objects_fit;
    }) in
    let zeros : List ℕ = replicate (48 - 8 * length roots) 0 in
    let first : take 48 (drop 16 page) ≡ flat_map (link_bytes a) roots ++ zeros =
    ap (take 48) (sym (drop-drop 8 8 page)) ∙ sym (drop-take 8 48 (drop 8 page)) ∙ ap (drop 8) (h.first ∙ append_assoc (replicate 8 0) (flat_map (link_bytes a) roots) zeros) in
    record {
      blocks = map (object_bytes a) os;
      has = has;
      below = let b = p.below in omega arith;
      linked = record {
        roots = subst (λ q. AllByRecursion (MayLead q max (starts 64 (map (object_bytes a) os)) 4096) (words 4 (drop 16 page))) (sym own)
            (subst (λ places. AllByRecursion (MayLead f max places 4096) (words 4 (drop 16 page))) (sym (starts_are a 64 os))
            (subst (AllByRecursion (MayLead f max (offsets_from 64 os) 4096)) (first_words 4 (drop 16 page) 48 (omega arith))
            (roots_linked f max (offsets_from 64 os) a roots (take 48 (drop 16 page)) p.four p.roots_fit first)));
        objects = subst (λ q. AreLinkedFrom q max (starts 64 (map (object_bytes a) os)) 64 (map (object_bytes a) os)) (sym own)
            (subst (λ places. AreLinkedFrom f max places 64 (map (object_bytes a) os)) (sym (starts_are a 64 os))
            (objects_linked f max (offsets_from 64 os) a 64 os (omega (arith, h.fits)) p.objects_fit));
      };
    }

pub ruleset accepting = (exact_right, exact_wrong)
