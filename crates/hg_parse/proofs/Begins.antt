-- How an expression begins: at no rule with `*`, at a comparison or tighter with no NOT, at a primary with no sign.
use Rattle.std.proofs.Common.{◌≡◌, ℕ, true, false, List, ◌∷◌, ◌++◌, refl, sym, ap, ◌∙◌, append_assoc}
use Rattle.std.specs.Prelude.{codes}
use Rattle.std.proofs.lemmas.Bool.{false_from_ne_true, both_ways}
use Rattle.std.specs.Cmp.Lexicographic.{same_text}
use Rattle.hg_model.specs.Grammar.{Read, IsName, dot, star, plus, minus, IsColumn, bare, dotted, IsFold, count, sum, min, max, Rule, Or, And, Not, Pred, Sum, Term, Factor, Prim, Items, Expression, or_one, or_more, and_one, and_more, not_none, not_one, pred_sum, pred_cmp, pred_null, pred_not_null, pred_between, pred_not_between, pred_in, pred_not_in, sum_one, sum_plus, sum_minus, term_one, term_times, factor_prim, factor_plus, factor_minus, prim_number, prim_text, prim_null, prim_column, prim_nested, agg_rows, agg_one, items_one, items_more}
use Rattle.hg_model.specs.Tables.{same_name}
use Rattle.hg_model.specs.Tokens.{Token, Word, is_reserved}
use Rattle.hg_parse.specs.Descent.{key}
use Rattle.hg_parse.specs.Steps.{eats}

-- a reserved word is no name
pub apart : (k w : List ℕ) → is_reserved k ≡ true → is_reserved w ≡ false → same_name k w ≡ false
apart k w yes_ no_ = false_from_ne_true (same_name k w) (λ e. both_ways (is_reserved w) no_ (ap is_reserved (sym (same_text k w (sym e))) ∙ yes_))

not_is_reserved : is_reserved (codes "not") ≡ true
unfolding is_reserved
not_is_reserved = refl

all_is_reserved : is_reserved (codes "all") ≡ true
unfolding is_reserved
all_is_reserved = refl

distinct_is_reserved : is_reserved (codes "distinct") ≡ true
unfolding is_reserved
distinct_is_reserved = refl

pub record NoStar (ts : List Token) : Type 0 where
  pub no_star : eats star ts ≡ false
  pub no_all : eats (key (codes "all")) ts ≡ false
  pub no_distinct : eats (key (codes "distinct")) ts ≡ false

pub record NoNot (ts : List Token) : Type 0 where
  pub head : NoStar ts
  pub no_not : eats (key (codes "not")) ts ≡ false

pub record NoSign (ts : List Token) : Type 0 where
  pub head : NoNot ts
  pub no_plus : eats plus ts ≡ false
  pub no_minus : eats minus ts ≡ false

abbrev pub Begins : Rule → List Token → Type 0
Begins Or ts = (rest : List Token) → NoStar (ts ++ rest)
Begins And ts = (rest : List Token) → NoStar (ts ++ rest)
Begins Not ts = (rest : List Token) → NoStar (ts ++ rest)
Begins Pred ts = (rest : List Token) → NoNot (ts ++ rest)
Begins Sum ts = (rest : List Token) → NoNot (ts ++ rest)
Begins Term ts = (rest : List Token) → NoNot (ts ++ rest)
Begins Factor ts = (rest : List Token) → NoNot (ts ++ rest)
Begins Prim ts = (rest : List Token) → NoSign (ts ++ rest)
Begins (Items m) ts = (rest : List Token) → NoNot (ts ++ rest)

pub longer_star : (ts us : List Token) → ((rest : List Token) → NoStar (ts ++ rest)) → (rest : List Token) → NoStar ((ts ++ us) ++ rest)
longer_star ts us h rest = record {
  no_star = ap (eats star) (append_assoc ts us rest) ∙ (h (us ++ rest)).no_star;
  no_all = ap (eats (key (codes "all"))) (append_assoc ts us rest) ∙ (h (us ++ rest)).no_all;
  no_distinct = ap (eats (key (codes "distinct"))) (append_assoc ts us rest) ∙ (h (us ++ rest)).no_distinct;
}

longer_not : (ts us : List Token) → ((rest : List Token) → NoNot (ts ++ rest)) → (rest : List Token) → NoNot ((ts ++ us) ++ rest)
longer_not ts us h rest = record {
  head = longer_star ts us (λ l. (h l).head) rest;
  no_not = ap (eats (key (codes "not"))) (append_assoc ts us rest) ∙ (h (us ++ rest)).no_not;
}

name_begins : (c : List ℕ) (ts : List Token) → IsName c → NoSign (Word c ∷ ts)
name_begins c ts h = record {
  head = record {
    head = record { no_star = refl; no_all = apart (codes "all") c all_is_reserved h; no_distinct = apart (codes "distinct") c distinct_is_reserved h };
    no_not = apart (codes "not") c not_is_reserved h;
  };
  no_plus = refl;
  no_minus = refl;
}

column_begins : {ts : List Token} {c : _} → IsColumn ts c → (rest : List Token) → NoSign (ts ++ rest)
column_begins (bare c h) rest = name_begins c rest h
column_begins (dotted t c h l) rest = name_begins t (dot ∷ Word c ∷ rest) h

fold_begins : {w : Token} {f : _} → IsFold w f → (rest : List Token) → NoSign (w ∷ rest)
fold_begins count rest = record { head = record { head = record { no_star = refl; no_all = refl; no_distinct = refl }; no_not = refl }; no_plus = refl; no_minus = refl }
fold_begins sum rest = record { head = record { head = record { no_star = refl; no_all = refl; no_distinct = refl }; no_not = refl }; no_plus = refl; no_minus = refl }
fold_begins min rest = record { head = record { head = record { no_star = refl; no_all = refl; no_distinct = refl }; no_not = refl }; no_plus = refl; no_minus = refl }
fold_begins max rest = record { head = record { head = record { no_star = refl; no_all = refl; no_distinct = refl }; no_not = refl }; no_plus = refl; no_minus = refl }

pub begins : {l : Rule} {d : ℕ} {r : Read} {ts : List Token} {s : Read} {n : ℕ} → Expression l d r ts s n → Begins l ts
begins (or_one e) = begins e
begins (or_more {ts} {us} e f) = longer_star ts (key (codes "or") ∷ us) (begins e)
begins (and_one e) = begins e
begins (and_more {ts} {us} e f) = longer_star ts (key (codes "and") ∷ us) (begins e)
begins (not_none e) = λ rest. (begins e rest).head
begins (not_one e) = λ rest. record { no_star = refl; no_all = refl; no_distinct = refl }
begins (pred_sum e) = begins e
begins (pred_cmp {ts} {us} {c} e o f) = longer_not ts (c ∷ us) (begins e)
begins (pred_null {ts} e) = longer_not ts _ (begins e)
begins (pred_not_null {ts} e) = longer_not ts _ (begins e)
begins (pred_between {ts} e f g) = longer_not ts _ (begins e)
begins (pred_not_between {ts} e f g) = longer_not ts _ (begins e)
begins (pred_in {ts} e f) = longer_not ts _ (begins e)
begins (pred_not_in {ts} e f) = longer_not ts _ (begins e)
begins (sum_one e) = begins e
begins (sum_plus {ts} e f) = longer_not ts _ (begins e)
begins (sum_minus {ts} e f) = longer_not ts _ (begins e)
begins (term_one e) = begins e
begins (term_times {ts} e f) = longer_not ts _ (begins e)
begins (factor_prim e) = λ rest. (begins e rest).head
begins (factor_plus e) = λ rest. record { head = record { no_star = refl; no_all = refl; no_distinct = refl }; no_not = refl }
begins (factor_minus e) = λ rest. record { head = record { no_star = refl; no_all = refl; no_distinct = refl }; no_not = refl }
begins (prim_number ds) = λ rest. record { head = record { head = record { no_star = refl; no_all = refl; no_distinct = refl }; no_not = refl }; no_plus = refl; no_minus = refl }
begins (prim_text t) = λ rest. record { head = record { head = record { no_star = refl; no_all = refl; no_distinct = refl }; no_not = refl }; no_plus = refl; no_minus = refl }
begins prim_null = λ rest. record { head = record { head = record { no_star = refl; no_all = refl; no_distinct = refl }; no_not = refl }; no_plus = refl; no_minus = refl }
begins (prim_column c) = column_begins c
begins (prim_nested e) = λ rest. record { head = record { head = record { no_star = refl; no_all = refl; no_distinct = refl }; no_not = refl }; no_plus = refl; no_minus = refl }
begins agg_rows = λ rest. record { head = record { head = record { no_star = refl; no_all = refl; no_distinct = refl }; no_not = refl }; no_plus = refl; no_minus = refl }
begins (agg_one {ts} f e) = λ rest. fold_begins f _
begins (items_one e) = begins e
begins (items_more {ts} e f) = longer_not ts _ (begins e)
