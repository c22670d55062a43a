-- Bytes are cut into objects in one way alone.
use Rattle.std.specs.Prelude.{◌≡◌, ℕ, ◌+◌, ◌<◌, ◌≤◌, List, [], ◌∷◌, ◌++◌, length, take, drop}
use Rattle.std.specs.List.{AllByRecursion, concat}
use Rattle.std.proofs.Common.{sym, ◌∙◌, ap, refl, arith, length-append, append_assoc}
use Rattle.std.proofs.lemmas.List.{take_at, drop_at}
use Rattle.hg_reloc.specs.Blocks.{number, size_for, end, IsBlock, HasObjects}
use Rattle.hg_reloc.proofs.Rewriting.{number-front}

-- Two objects at one place are one.
pub record AreOne (b c r s : List ℕ) : Type 0 where
  pub first : b ≡ c
  pub rest : r ≡ s

pub one_first : (b c r s : List ℕ) → IsBlock b → IsBlock c → b ++ r ≡ c ++ s → AreOne b c r s
one_first b c r s i j e =
    let n : number b ≡ number c = sym (number-front b r (omega (arith, i.size))) ∙ ap number e ∙ number-front c s (omega (arith, j.size)) in
    let l : length c ≡ length b = j.size ∙ ap size_for (sym n) ∙ sym i.size in
    record {
      first = sym (take_at b r (length b) refl) ∙ ap (take (length b)) e ∙ take_at c s (length b) l;
      rest = sym (drop_at b r (length b) refl) ∙ ap (drop (length b)) e ∙ drop_at c s (length b) l;
    }

pub one_cut : (bs cs : List (List ℕ)) (x y : List ℕ) → AllByRecursion IsBlock bs → AllByRecursion IsBlock cs → concat bs ++ x ≡ concat cs ++ y
    → length (concat bs) ≡ length (concat cs) → bs ≡ cs
one_cut [] [] x y a d e l = refl
one_cut [] (c ∷ cs) x y a d e l = absurd (let i : IsBlock c = d.0 in omega (arith, length-append c (concat cs), i.size))
one_cut (b ∷ bs) [] x y a d e l = absurd (let i : IsBlock b = a.0 in omega (arith, length-append b (concat bs), i.size))
one_cut (b ∷ bs) (c ∷ cs) x y a d e l =
    let o : AreOne b c (concat bs ++ x) (concat cs ++ y) = one_first b c (concat bs ++ x) (concat cs ++ y) a.0 d.0 (sym (append_assoc b (concat bs) x) ∙ e ∙ append_assoc c (concat cs) y) in
    let rest : bs ≡ cs = one_cut bs cs x y a.1 d.1 o.rest (omega (arith, length-append b (concat bs), length-append c (concat cs), ap length o.first)) in
    ap (λ q. q ∷ bs) o.first ∙ ap (λ q. c ∷ q) rest

pub same_objects : (page : List ℕ) (bs cs : List (List ℕ)) → HasObjects page bs → HasObjects page cs → bs ≡ cs
same_objects page bs cs h k =
    one_cut bs cs (drop (end page) page) (drop (end page) page) h.each k.each (sym h.objects ∙ k.objects) (omega (arith, h.ends, k.ends))

-- Where one cut ends before another, the other has an object there.
pub record ComesAt (x : List ℕ) (from to : ℕ) : Type 0 where
  pub block : List ℕ
  pub rest : List ℕ
  pub is : IsBlock block
  pub here : x ≡ block ++ rest
  pub inside : from + length block ≤ to

pub comes : (bs cs : List (List ℕ)) (x y : List ℕ) → AllByRecursion IsBlock bs → AllByRecursion IsBlock cs → concat bs ++ x ≡ concat cs ++ y
    → length (concat bs) < length (concat cs) → ComesAt x (length (concat bs)) (length (concat cs))
comes [] [] x y a d e l = absurd (omega arith)
comes [] (c ∷ cs) x y a d e l = record { block = c; rest = concat cs ++ y; is = d.0; here = e ∙ append_assoc c (concat cs) y; inside = omega (arith, length-append c (concat cs)) }
comes (b ∷ bs) [] x y a d e l = absurd (omega arith)
comes (b ∷ bs) (c ∷ cs) x y a d e l =
    let o : AreOne b c (concat bs ++ x) (concat cs ++ y) = one_first b c (concat bs ++ x) (concat cs ++ y) a.0 d.0 (sym (append_assoc b (concat bs) x) ∙ e ∙ append_assoc c (concat cs) y) in
    let n : length b ≡ length c = ap length o.first in
    let p = length-append b (concat bs) in
    let q = length-append c (concat cs) in
    let r : ComesAt x (length (concat bs)) (length (concat cs)) = comes bs cs x y a.1 d.1 o.rest (omega arith) in
    record { block = r.block; rest = r.rest; is = r.is; here = r.here; inside = omega (arith, r.inside) }
