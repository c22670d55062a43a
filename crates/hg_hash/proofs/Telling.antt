-- Whether root 0 leads to buckets, as the calls of a space tell it.
use Rattle.std.specs.Prelude.{◌≡◌, ℕ, List, [], ◌∷◌, length, slice_get, Option, None, Some, option_map, option_and_then}
use Rattle.std.proofs.Common.{sym, ◌∙◌, ap, subst, refl, arith}
use Rattle.std.proofs.lemmas.List.{length-map}
use Rattle.std.proofs.lemmas.Option.{none-some}
use Rattle.hg_base.specs.Content.{Objects, placed, address_of, addresses_in}
use Rattle.hg_base.specs.HeapContent.{object_at, place_in, links_of, words_of}
use Rattle.hg_base.specs.HeapFacts.{LeadsBelow, AreHeaps}
use Rattle.hg_base.specs.HeapPage.{link_word}
use Rattle.hg_base.specs.HeapStates.{of_locked, standing_of, IsLocked, IsWordAt, roots_in, words_in}
use Rattle.hg_base.specs.Space.{Space}
use Rattle.std.specs.List.{AllByRecursion}
use Rattle.hg_hash.specs.Buckets.{links_at, table}
use Rattle.hg_hash.specs.Following.{place_in-get}
use Rattle.hg_hash.specs.Names.{AreNames, length-all, nth-low, named_by-address}
use Rattle.hg_hash.specs.Tables.{Opened, opened, found}

-- nothing stands at the address 0
none_named : (o : Objects) (frames : List ℕ) (p : Option ℕ) → AreNames o frames → place_in (addresses_in o.layout frames) 0 ≡ p → p ≡ None
none_named o frames None names e = refl
none_named o frames (Some n) names e =
    let r = place_in-get (addresses_in o.layout frames) 0 n e in
    let below = r.0 in
    let zero_is = r.1 in
    let all = length-all o.layout frames names.same in
    let low = nth-low o.layout frames n names.same (omega arith) in absurd (omega arith)

-- the words found at the address of a root are those of the directory to which it leads
root_words : (o : Objects) (frames : List ℕ) (roots : List (Option ℕ)) (word : ℕ) → AreNames o frames → AllByRecursion (LeadsBelow (length (placed o))) roots
    → slice_get (words_of o frames roots) 0 ≡ Some word → option_and_then links_of (object_at o frames word) ≡ links_at roots (placed o)
root_words o frames [] word names b e = absurd (none-some word e)
root_words o frames (None ∷ roots) word names b e =
    let z : 0 ≡ word = cc in
    ap (λ a. option_and_then links_of (object_at o frames a)) (sym z)
    ∙ ap (λ p. option_and_then links_of (option_and_then (slice_get (placed o)) p)) (none_named o frames (place_in (addresses_in o.layout frames) 0) names refl)
root_words o frames (Some n ∷ roots) word names b e =
    let z : address_of o frames n ≡ word = cc in
    ap (λ a. option_and_then links_of (object_at o frames a)) (sym z)
    ∙ ap (λ p. option_and_then links_of (option_and_then (slice_get (placed o)) p)) (named_by-address o frames n names b.0)

many_words : (o : Objects) (frames : List ℕ) (x : Option (List (Option ℕ))) → option_map length (option_map (words_of o frames) x) ≡ option_map length x
many_words o frames None = refl
many_words o frames (Some links) = ap Some (length-map links (link_word (address_of o frames)))

-- so many words are found as there are buckets
pub words_tell : (s : Space) (h word : ℕ) → AreHeaps s → IsLocked s h → IsWordAt (roots_in s h) 0 word
    → option_map length (words_in s h word) ≡ of_locked (λ o frames. option_map length (table o)) (standing_of s h)
words_tell s h word a l i =
    let w : Opened s h = opened s h a l in
    let o : Objects = w.objects in
    let root : slice_get (words_of o w.frames o.roots) 0 ≡ Some word = subst (λ x. IsWordAt (of_locked (λ o frames. Some (words_of o frames o.roots)) x) 0 word) (found s h w) i in
    ap (λ x. option_map length (of_locked (λ o frames. option_map (words_of o frames) (option_and_then links_of (object_at o frames word))) x)) (found s h w)
    ∙ many_words o w.frames (option_and_then links_of (object_at o w.frames word))
    ∙ ap (option_map length) (root_words o w.frames o.roots word w.names w.well.roots root)
    ∙ sym (ap (of_locked (λ o frames. option_map length (table o))) (found s h w))
