-- Marks and numbers of columns, one node and one column after the other.
use Rattle.std.proofs.Common.{◌≡◌, ℕ, zero, suc, ◌+◌, ◌*◌, ◌<◌, ◌≤◌, Bool, true, false, List, [], ◌∷◌, ◌++◌, length, drop, get_or, replicate, refl, sym, ap, ◌∙◌, subst, arith, append_assoc, append-nil}
use Rattle.std.specs.Prelude.{◌||◌, if◌then◌else◌}
use Rattle.std.proofs.lemmas.List.{at_drop_more, get_or_default, length-replicate}
use Rattle.hg_model.specs.declared.trees.Node.{Node}
use Rattle.hg_expr.specs.Marks.{AreUnmarked, AreMarks, AreNumbers}
use Rattle.hg_expr.specs.Slots.{names_key, is_named, number_of, slot_at, slots_from, HasPlace, ArePlaced}

pub drop_is : {X : Type 0} (xs : List X) (k : ℕ) (x : X) → k < length xs → x ≡ get_or xs k x → drop k xs ≡ x ∷ drop (k + 1) xs
drop_is xs k x h e = at_drop_more (λ l. l) xs k x h ∙ ap (λ y. y ∷ drop (k + 1) xs) (sym e)

pub placed_length : (ns : List Node) (ps : List (ℕ × ℕ)) → ArePlaced ns ps → length ps ≡ length ns
placed_length [] [] h = refl
placed_length [] (p ∷ ps) h = absurd h
placed_length (n ∷ ns) [] h = absurd h
placed_length (n ∷ ns) (p ∷ ps) h = ap suc (placed_length ns ps h.1)

-- the next node and its place, and those behind
pub placed_next : (ns : List Node) (ps : List (ℕ × ℕ)) (k : ℕ) (n : Node) (p : ℕ × ℕ) → k < length ns → k < length ps → n ≡ get_or ns k n → p ≡ get_or ps k p
    → ArePlaced (drop k ns) (drop k ps) → HasPlace n p × ArePlaced (drop (k + 1) ns) (drop (k + 1) ps)
placed_next ns ps k n p l m e f h =
    subst (λ qs. ArePlaced (n ∷ drop (k + 1) ns) qs) (drop_is ps k p m f) (subst (λ ms. ArePlaced ms (drop k ps)) (drop_is ns k n l e) h)

pub named_next : (ns : List Node) (ps : List (ℕ × ℕ)) (k key : ℕ) (n : Node) (p : ℕ × ℕ) → k < length ns → k < length ps → n ≡ get_or ns k n → p ≡ get_or ps k p
    → is_named (drop k ns) (drop k ps) key ≡ names_key key n p || is_named (drop (k + 1) ns) (drop (k + 1) ps) key
named_next ns ps k key n p l m e f = λ i. is_named (drop_is ns k n l e i) (drop_is ps k p m f i) key

swap : (a b r : Bool) → (a || b) || r ≡ b || (a || r)
swap true true r = refl
swap true false r = refl
swap false true r = refl
swap false false r = refl

pub marked_next : (ns : List Node) (ps : List (ℕ × ℕ)) (k key : ℕ) (n : Node) (p : ℕ × ℕ) (old new : Bool) → k < length ns → k < length ps
    → n ≡ get_or ns k n → p ≡ get_or ps k p → new ≡ names_key key n p || old → old || is_named (drop k ns) (drop k ps) key ≡ is_named ns ps key
    → new || is_named (drop (k + 1) ns) (drop (k + 1) ps) key ≡ is_named ns ps key
marked_next ns ps k key n p old new l m e f is h =
    ap (λ b. b || is_named (drop (k + 1) ns) (drop (k + 1) ps) key) is
    ∙ swap (names_key key n p) old (is_named (drop (k + 1) ns) (drop (k + 1) ps) key)
    ∙ ap (λ b. old || b) (sym (named_next ns ps k key n p l m e f)) ∙ h

none_left : (ns : List Node) (k : ℕ) → length ns ≤ k → drop k ns ≡ []
none_left [] zero h = refl
none_left [] (suc k) h = refl
none_left (n ∷ ns) zero h = absurd (omega arith)
none_left (n ∷ ns) (suc k) h = none_left ns k (omega arith)

or_false : (b : Bool) → b || false ≡ b
or_false true = refl
or_false false = refl

pub marked_all : (ns : List Node) (ps : List (ℕ × ℕ)) (k key : ℕ) (b : Bool) → length ns ≤ k → b || is_named (drop k ns) (drop k ps) key ≡ is_named ns ps key → b ≡ is_named ns ps key
marked_all ns ps k key b l h = sym (or_false b) ∙ ap (λ ms. b || is_named ms (drop k ps) key) (sym (none_left ns k l)) ∙ h

pub slots_next : (all ns : List Node) (places ps : List (ℕ × ℕ)) (k s : ℕ) (n : Node) (p : ℕ × ℕ) (old new : List ℕ) → k < length ns → k < length ps
    → n ≡ get_or ns k n → p ≡ get_or ps k p → s ≡ slot_at all places n p → new ≡ old ++ s ∷ []
    → old ++ slots_from all places (drop k ns) (drop k ps) ≡ slots_from all places ns ps
    → new ++ slots_from all places (drop (k + 1) ns) (drop (k + 1) ps) ≡ slots_from all places ns ps
slots_next all ns places ps k s n p old new l m e f is more h =
    ap (λ ss. ss ++ slots_from all places (drop (k + 1) ns) (drop (k + 1) ps)) more
    ∙ append_assoc old (s ∷ []) (slots_from all places (drop (k + 1) ns) (drop (k + 1) ps))
    ∙ ap (λ t. old ++ t ∷ slots_from all places (drop (k + 1) ns) (drop (k + 1) ps)) is
    ∙ sym (λ i. old ++ slots_from all places (drop_is ns k n l e i) (drop_is ps k p m f i))
    ∙ h

pub slots_all : (all ns : List Node) (places ps : List (ℕ × ℕ)) (k : ℕ) (ss : List ℕ) → length ns ≤ k
    → ss ++ slots_from all places (drop k ns) (drop k ps) ≡ slots_from all places ns ps → ss ≡ slots_from all places ns ps
slots_all all ns places ps k ss l h =
    sym (append-nil ss) ∙ ap (λ ms. ss ++ slots_from all places ms (drop k ps)) (sym (none_left ns k l)) ∙ h

same_all : (n i : ℕ) → get_or (replicate n false) i false ≡ false
same_all zero i = refl
same_all (suc n) zero = refl
same_all (suc n) (suc i) = same_all n i

pub unmarked_all : AreUnmarked (replicate 64 false)
unmarked_all = record { room = length-replicate 64 false; each = same_all 64 }

pub at_same : {X : Type 0} (xs : List X) (k : ℕ) (d : X) → k < length xs → get_or xs k d ≡ get_or xs k (get_or xs k d)
at_same xs k d h = get_or_default xs k d (get_or xs k d) h
