-- Laws of rows that joined the versions of a table.
use Rattle.std.specs.Prelude.{ℕ, List, [], ◌∷◌, ◌++◌}
use Rattle.std.specs.List.Sorted.{IsPermutation}
use Rattle.std.proofs.Common.{sym, ◌∙◌, subst, refl, arith, append_assoc, length-append}
use Rattle.std.proofs.lemmas.List.{append-nil}
use Rattle.std.proofs.lemmas.List.Sorted.{IsPermutation-refl, IsPermutation-trans, IsPermutation-append_left}
use Rattle.hg_base.specs.declared.Place.{Place}
use Rattle.hg_model.specs.declared.values.Value.{Value}
use Rattle.hg_table.specs.Calls.{PutsIn, newborn}
use Rattle.hg_table.specs.Seen.{seen_rows}
use Rattle.hg_table.specs.SeenLaws.{past-middle, newborn-unseen, newborn-seen}
use Rattle.hg_table.specs.Versions.{Placed}
use Rattle.hg_dml.specs.Putting.{Joined}

pub joined-none : (stamp : ℕ) (vs : List Placed) → Joined stamp vs vs []
joined-none stamp vs = record {
  unseen = λ c n missed. refl;
  seen = λ c n shown later. subst (λ rs. IsPermutation (seen_rows c n vs) rs) (sym (append-nil (seen_rows c n vs))) (IsPermutation-refl (seen_rows c n vs));
  past = λ n later past. past;
  count = omega arith;
}

joined-here : (stamp : ℕ) (row : List Value) (p : Place) (xs ys : List Placed) → Joined stamp (xs ++ ys) (xs ++ newborn row stamp p ∷ ys) (row ∷ [])
joined-here stamp row p xs ys = record {
  unseen = λ c n missed. newborn-unseen c n stamp row p xs ys missed;
  seen = λ c n shown later. newborn-seen c n stamp row p xs ys shown later;
  past = λ n later past. past-middle n xs (newborn row stamp p) ys (record { born = later; died = tt }) past;
  count = omega (arith, length-append xs ys, length-append xs (newborn row stamp p ∷ ys));
}

pub joined-one : (stamp : ℕ) (row : List Value) (p : Place) (old new : List Placed) → PutsIn old new (newborn row stamp p) → Joined stamp old new (row ∷ [])
joined-one stamp row p old new puts =
    subst (λ o. Joined stamp o new (row ∷ [])) (sym puts.was)
    (subst (λ n. Joined stamp (puts.before ++ puts.after) n (row ∷ [])) (sym puts.now) (joined-here stamp row p puts.before puts.after))

-- rows that joined in two steps
pub joined-then : (stamp : ℕ) (a b c : List Placed) (xs ys : List (List Value)) → Joined stamp a b xs → Joined stamp b c ys → Joined stamp a c (xs ++ ys)
joined-then stamp a b c xs ys p q = record {
  unseen = λ m n missed. q.unseen m n missed ∙ p.unseen m n missed;
  seen = λ m n shown later.
      let one : IsPermutation (seen_rows m n c) (seen_rows m n b ++ ys) = q.seen m n shown later in
      let two : IsPermutation (seen_rows m n b ++ ys) ((seen_rows m n a ++ xs) ++ ys) =
      IsPermutation-append_left ys (seen_rows m n b) (seen_rows m n a ++ xs) (p.seen m n shown later) in
      subst (λ rs. IsPermutation (seen_rows m n c) rs) (append_assoc (seen_rows m n a) xs ys)
      (IsPermutation-trans (seen_rows m n c) (seen_rows m n b ++ ys) ((seen_rows m n a ++ xs) ++ ys) one two);
  past = λ n later past. q.past n later (p.past n later past);
  count = let one = p.count in let two = q.count in omega (arith, length-append xs ys);
}
